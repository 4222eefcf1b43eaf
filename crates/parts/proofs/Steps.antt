-- The steps of a level's space: a head of words before the steps of the space within, or the ends of a plain space. The room that they ask for, and their
-- stores.
use mathlib.Core.Path.{◌≡◌, refl, sym, ap, ◌∙◌}
use mathlib.Core.List.{List, ◌++◌}
use Prim.Native.Nat.{ℕ, ◌+◌, ◌≤◌}
use native.Mathlib.Omega.{arith}
use lib.IntN.{ℤ}
use lib.ListN.{length, length-append}
use lib.Seq.{sets}
use Rattle.fixed.proofs.Stores.{then}
use Rattle.cie.specs.declared.Closing.{Closing}
use Rattle.cie.specs.declared.Closing.TheVariants.{Nothing, Gray, Rgb, Cmyk, CalGray, CalRgb, Lab, NoMark, EveryInk}
use Rattle.record.specs.declared.types.Ranges.{Ranges}
use Rattle.record.specs.declared.types.Separation.{Separation as Ink}
use Rattle.calculator.specs.Calculator.{code_after}
use Rattle.space.specs.Spaces.{Space, count_of, closing_of}
use Rattle.space.specs.Pages.{plain_at, tinted_at}
use Rattle.space.specs.Levels.{plain_in, space_in}
use Rattle.space.specs.declared.nesting.Level.{Level}
use Rattle.space.specs.declared.nesting.Level.TheVariants.{Plain, Blank, Separation, Program, Indexed}
use Rattle.form.specs.declared.Tints.{Tints}
use Rattle.space.proofs.Levels.{plain-wide}
use Rattle.fixed.specs.Values.{widest}
use Rattle.parts.specs.Recipes.{ends_of, steps_of, limits_of, closing_words}
use Rattle.parts.specs.Parts.{row_words, tint_words, program_words}

-- the closing step of a plain space is the one that it was made of
pub closing-is : (c : Closing) (q : Ranges) → c ≡ closing_of (plain_in c q)
closing-is Nothing q = refl
closing-is Gray q = refl
closing-is Rgb q = refl
closing-is Cmyk q = refl
closing-is (CalGray k) q = refl
closing-is (CalRgb k) q = refl
closing-is (Lab k) q = refl
closing-is NoMark q = refl
closing-is EveryInk q = refl

ends-are : (c : Closing) (q : Ranges) → steps_of (plain_in c q) ≡ ends_of (plain_in c q)
unfolding steps_of
ends-are Nothing q = refl
ends-are Gray q = refl
ends-are Rgb q = refl
ends-are Cmyk q = refl
ends-are (CalGray k) q = refl
ends-are (CalRgb k) q = refl
ends-are (Lab k) q = refl
ends-are NoMark q = refl
ends-are EveryInk q = refl

-- by what level l is; s is the space within
module _ (page : List ℕ) {l : Level} where
  pub steps-plain : (c : Closing) (q : Ranges) → l ≡ Plain c q → steps_of (space_in page l) ≡ ends_of (plain_in c q)
  unfolding space_in
  steps-plain c q e = ap (λ (k : Level). steps_of (space_in page k)) e ∙ ends-are c q

  pub steps-blank : (i : Tints) → l ≡ Blank i → steps_of (space_in page l) ≡ closing_words NoMark
  unfolding space_in steps_of limits_of
  steps-blank i e = ap (λ (k : Level). steps_of (space_in page k)) e

  pub steps-separation : (p : Ink) {s : Space} {m : ℕ} → l ≡ Separation p → s ≡ plain_at page p.alternate → m ≡ count_of s → steps_of (space_in page l) ≡ tint_words p m ++ steps_of s
  unfolding space_in steps_of tint_words
  steps-separation p {s} {m} e es em =
      ap (λ (k : Level). steps_of (space_in page k)) e ∙ (λ i. tint_words p (sym (em ∙ ap count_of es) i) ++ steps_of (sym es i))

  pub steps-calculated : (n alternate : ℕ) (tints : Tints) {s : Space} {m : ℕ} → l ≡ Program n alternate tints → s ≡ plain_at page alternate → m ≡ count_of s → steps_of (space_in page l) ≡ program_words tints (code_after page n) m ++ steps_of s
  unfolding space_in steps_of program_words
  steps-calculated n alternate tints {s} {m} e es em =
      ap (λ (k : Level). steps_of (space_in page k)) e ∙ (λ i. program_words tints (code_after page n) (sym (em ∙ ap count_of es) i) ++ steps_of (sym es i))

  pub steps-indexed : (n base hival : ℕ) {s : Space} → l ≡ Indexed n base hival → s ≡ tinted_at page base → steps_of (space_in page l) ≡ row_words page n hival s ++ steps_of s
  unfolding space_in steps_of row_words
  steps-indexed n base hival e es =
      ap (λ (k : Level). steps_of (space_in page k)) e ∙ (λ i. row_words page n hival (sym es i) ++ steps_of (sym es i))

-- a plain space within has no more components than CMYK
pub wide-count : (page : List ℕ) (n : ℕ) {s : Space} {m : ℕ} → m ≡ count_of s → s ≡ plain_at page n → m ≤ widest
wide-count page n em es = omega (arith, em ∙ ap count_of es, plain-wide page n)

pub plain-room : (at : ℕ) (d : List ℤ) {all ends : List ℤ} → all ≡ ends → at + length all ≤ length d → at + length ends ≤ length d
plain-room at d e room = rw e at room

-- all of the steps are a head hd, which ends where `next` is, and the rest
module _ (all hd rest : List ℤ) (e : all ≡ hd ++ rest) (at next : ℕ) (en : next ≡ at + length hd) (d : List ℤ) where
  whole : length all ≡ length hd + length rest
  whole = ap length e ∙ length-append hd rest

  pub head-room : at + length all ≤ length d → at + length hd ≤ length d
  head-room room = let x = whole in omega arith

  pub steps-room : (u : List ℤ) → at + length all ≤ length d → length u ≡ length d → next + length rest ≤ length u
  steps-room u room same = let x = whole in omega arith

  pub steps-set : (u y : List ℤ) → u ≡ sets d at hd → y ≡ sets u next rest → y ≡ sets d at all
  steps-set u y eu ey = then hd d at next rest en eu ey ∙ ap (sets d at) (sym e)
