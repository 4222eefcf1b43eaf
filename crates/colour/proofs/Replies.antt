-- What the values reply in the space of a level, in the code's own terms: by the space within, or by the closing step.
use mathlib.Core.Path.{◌≡◌, refl, ap, ◌∙◌, sym}
use mathlib.Core.List.{List}
use Prim.Native.Nat.{ℕ, ◌≤◌}
use native.Mathlib.Omega.{arith}
use lib.IntN.{ℤ}
use lib.ListN.{length, take}
use borrow.Author.Tests.{eq-eqb, ne_eqb}
use Rattle.fixed.specs.Values.{places, widest, started, tint_step}
use Rattle.fixed.specs.declared.values.Colour.{Colour}
use Rattle.cie.specs.declared.Closing.{Closing}
use Rattle.cie.specs.declared.Closing.TheVariants.{Nothing, Gray, Rgb, Cmyk, CalGray, CalRgb, Lab, NoMark, EveryInk}
use Rattle.cie.specs.Answers.{refusal}
use Rattle.cie.specs.Closings.{closed}
use Rattle.page.specs.Outcomes.{accepted, refused}
use Rattle.page.specs.Validation.{validated}
use Rattle.record.specs.Layout.{entries_of}
use Rattle.record.specs.declared.types.Ranges.{Ranges}
use Rattle.record.specs.declared.types.Separation.{Separation as Ink}
use Rattle.form.specs.Steps.{taken_by, program_step}
use Rattle.calculator.specs.Calculator.{code_after}
use Rattle.form.specs.declared.Tints.{Tints}
use Rattle.space.proofs.Levels.{plain-wide}
use Rattle.space.specs.Spaces.{Space, count_of, limit_count}
use Rattle.space.specs.Pages.{plain_at, tinted_at, row_at, space_at}
use Rattle.space.specs.Levels.{plain_in, space_in}
use Rattle.space.specs.declared.nesting.Level.{Level}
use Rattle.space.specs.declared.nesting.Level.TheVariants.{Plain, Blank, Separation, Program, Indexed}
use Rattle.values.specs.Limits.{limited_to}
use Rattle.values.proofs.Steps.{tint-first}
use Rattle.colour.specs.Colours.{valued, answered}
use Rattle.colour.specs.Evaluating.{evaluated}

-- a plain space's values are limited, and then its closing step
settles : (c : Closing) (q : Ranges) (v : Colour) → closed c (limited_to (plain_in c q) (limit_count (plain_in c q)) v) ≡ valued (plain_in c q) v
unfolding valued
settles Nothing q v = refl
settles Gray q v = refl
settles Rgb q v = refl
settles Cmyk q v = refl
settles (CalGray k) q v = refl
settles (CalRgb k) q v = refl
settles (Lab k) q v = refl
settles NoMark q v = refl
settles EveryInk q v = refl

-- there is no mark, and nothing is limited
pub value-blank : (page : List ℕ) {l : Level} (v : Colour) (i : Tints) → l ≡ Blank i → closed NoMark v ≡ valued (space_in page l) v
unfolding space_in valued limited_to
value-blank page v i el = sym (ap (λ (k : Level). valued (space_in page k) v) el)

-- a plain space within has no more components than CMYK
pub wide-count : (page : List ℕ) (n : ℕ) {s : Space} {m : ℕ} → m ≡ count_of s → s ≡ plain_at page n → m ≤ widest
wide-count page n em es = omega (arith, em ∙ ap count_of es, plain-wide page n)

-- what the code makes of a level l and the colour v: the colour u, of the space s within or for the closing step
module _ (page : List ℕ) {l : Level} {u : Colour} (v : Colour) where
  pub value-plain : (c : Closing) (q : Ranges) {m : ℕ} → l ≡ Plain c q → m ≡ limit_count (plain_in c q) → u ≡ limited_to (plain_in c q) m v → closed c u ≡ valued (space_in page l) v
  unfolding space_in
  value-plain c q el em eu =
      ap (closed c) (eu ∙ ap (λ (j : ℕ). limited_to (plain_in c q) j v) em) ∙ settles c q v ∙ sym (ap (λ (k : Level). valued (space_in page k) v) el)

  module _ {s : Space} where
    pub value-separation : (p : Ink) {m : ℕ} → l ≡ Separation p → s ≡ plain_at page p.alternate → m ≡ count_of s
        → u ≡ tint_step p.exponent m (entries_of p.c0) (entries_of p.c1) v → valued s u ≡ valued (space_in page l) v
    unfolding space_in valued
    value-separation p {m} el es em eu =
        let w : m ≡ count_of (plain_at page p.alternate) = em ∙ ap count_of es in
        (λ i. valued (es i) ((eu ∙ tint-first p.exponent m (entries_of p.c0) (entries_of p.c1) v) i)) ∙
        ap (λ (j : ℕ). valued (plain_at page p.alternate) (tint_step p.exponent j (take j (entries_of p.c0)) (take j (entries_of p.c1)) v)) w ∙
        sym (ap (λ (k : Level). valued (space_in page k) v) el)

    pub value-calculated : (n alternate : ℕ) (tints : Tints) {m : ℕ} → l ≡ Program n alternate tints → s ≡ plain_at page alternate → m ≡ count_of s
        → u ≡ program_step (taken_by tints) m (code_after page n) v → valued s u ≡ valued (space_in page l) v
    unfolding space_in valued
    value-calculated n alternate tints {m} el es em eu =
        let w : m ≡ count_of (plain_at page alternate) = em ∙ ap count_of es in
        (λ i. valued (es i) ((eu ∙ ap (λ (j : ℕ). program_step (taken_by tints) j (code_after page n) v) w) i)) ∙
        sym (ap (λ (k : Level). valued (space_in page k) v) el)

    pub value-indexed : (n base hival : ℕ) → l ≡ Indexed n base hival → s ≡ tinted_at page base → u ≡ row_at page n hival s v → valued s u ≡ valued (space_in page l) v
    unfolding space_in valued
    value-indexed n base hival el es eu =
        ap (valued s) eu ∙ ap (λ (w : Space). valued w (row_at page n hival w v)) es ∙ sym (ap (λ (k : Level). valued (space_in page k) v) el)

-- the three replies to a list of components, m being the space's count
module _ (s : Space) (cs : List ℤ) (m : ℕ) (e : m ≡ count_of s) where
  pub answered-8 : m ≡ 0 → refusal 8 0 ≡ answered s cs
  unfolding answered
  answered-8 z = simp (eq-eqb (count_of s) 0 (sym e ∙ z))

  module _ (z : m ≡ 0 → ⊥) where
    pub answered-9 : (length cs ≡ m → ⊥) → refusal 9 0 ≡ answered s cs
    unfolding answered
    answered-9 l = simp (ne_eqb (count_of s) 0 (λ h. z (e ∙ h)), ne_eqb (length cs) (count_of s) (λ h. l (h ∙ sym e)))

    pub answered-as : (u : Colour) → length cs ≡ m → u ≡ started places cs → valued s u ≡ answered s cs
    unfolding answered
    answered-as u l g = ap (valued s) g ∙ simp (ne_eqb (count_of s) 0 (λ h. z (e ∙ h)), eq-eqb (length cs) (count_of s) (l ∙ e))

-- on a page that is accepted, and on one that is refused
module _ (page : List ℕ) (n : ℕ) (cs : List ℤ) where
  pub page-accepted : accepted ≡ validated page → answered (space_at page n) cs ≡ evaluated page n cs
  unfolding evaluated
  page-accepted e = rw (← e)

  pub page-refused : (number block : ℕ) → refused number block ≡ validated page → refusal number block ≡ evaluated page n cs
  unfolding evaluated
  page-refused number block e = rw (← e)
