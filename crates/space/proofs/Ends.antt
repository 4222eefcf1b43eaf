-- The ends of the ranges of a plain space's components: a Lab's by its record, 0 to 1 for all others; and those that a table's entries have.
use mathlib.Core.Path.{◌≡◌, refl, ap, sym, ◌∙◌}
use mathlib.Core.Bool.{true, false, true≢false}
use mathlib.Core.List.{List}
use lib.ListN.{set, replicate}
use Prim.Native.Nat.{ℕ, ◌%◌, ◌<◌}
use lib.IntN.{ℤ, pos}
use Rattle.fixed.specs.Numbers.{palette_value}
use Rattle.fixed.specs.Values.{places, value, listed}
use Rattle.fixed.proofs.Listed.{listed-value}
use Rattle.cie.specs.declared.Closing.{Closing}
use Rattle.cie.specs.declared.Closing.TheVariants.{Nothing, Gray, Rgb, Cmyk, CalGray, CalRgb, Lab, NoMark, EveryInk}
use Rattle.record.specs.declared.types.Ranges.{Ranges}
use Rattle.space.specs.Spaces.{Space, count_of, limit_count, low_of, high_of, words_of}
use Rattle.space.specs.Numbers.{palette_byte}
use Rattle.space.specs.Pages.{entry_of}
use Rattle.space.specs.Levels.{plain_in, space_in, no_ranges, is_lab, Ends, Ranged}
use Rattle.space.specs.declared.nesting.Level.{Level}
use Rattle.space.specs.declared.nesting.Level.TheVariants.{Plain, Blank, Separation, Program, Indexed}

never : {A : Type 0} → false ≡ true → A
never e = absurd (true≢false (sym e))

module _ (q : Ranges) where
  -- the counts and the words are the same whatever the ranges
  pub whatever : (c : Closing) → (count_of (plain_in c no_ranges) ≡ count_of (plain_in c q)) × (words_of (plain_in c no_ranges) ≡ words_of (plain_in c q))
      × (limit_count (plain_in c no_ranges) ≡ limit_count (plain_in c q))
  whatever Nothing = (refl, refl, refl)
  whatever Gray = (refl, refl, refl)
  whatever Rgb = (refl, refl, refl)
  whatever Cmyk = (refl, refl, refl)
  whatever (CalGray k) = (refl, refl, refl)
  whatever (CalRgb k) = (refl, refl, refl)
  whatever (Lab k) = (refl, refl, refl)
  whatever NoMark = (refl, refl, refl)
  whatever EveryInk = (refl, refl, refl)

  pub lab-ends : (c : Closing) → is_lab c ≡ true
      → (set (set (replicate places q.bmin) 0 (pos 0)) 1 q.amin ≡ listed (low_of (plain_in c q)) places) × (set (set (replicate places q.bmax) 0 (pos 100000000)) 1 q.amax ≡ listed (high_of (plain_in c q)) places)
  unfolding listed
  lab-ends Nothing e = never e
  lab-ends Gray e = never e
  lab-ends Rgb e = never e
  lab-ends Cmyk e = never e
  lab-ends (CalGray k) e = never e
  lab-ends (CalRgb k) e = never e
  lab-ends (Lab k) e = (refl, refl)
  lab-ends NoMark e = never e
  lab-ends EveryInk e = never e

  pub unit_ends : (c : Closing) → is_lab c ≡ false
      → (replicate places (pos 0) ≡ listed (low_of (plain_in c q)) places) × (replicate places (pos 1000000) ≡ listed (high_of (plain_in c q)) places)
  unfolding listed
  unit_ends Nothing e = (refl, refl)
  unit_ends Gray e = (refl, refl)
  unit_ends Rgb e = (refl, refl)
  unit_ends Cmyk e = (refl, refl)
  unit_ends (CalGray k) e = (refl, refl)
  unit_ends (CalRgb k) e = (refl, refl)
  unit_ends (Lab k) e = never (sym e)
  unit_ends NoMark e = (refl, refl)
  unit_ends EveryInk e = (refl, refl)

-- what is no plain space has components of 0 to 1
pub other_ends : (page : List ℕ) (l : Level) → ((c : Closing) (q : Ranges) → l ≡ Plain c q → ⊥) → Ends (space_in page l) (replicate places (pos 0)) (replicate places (pos 1000000))
unfolding space_in listed
other_ends page (Plain c q) h = absurd (h c q refl)
other_ends page (Blank i) h = record { low = refl; high = refl }
other_ends page (Separation p) h = record { low = refl; high = refl }
other_ends page (Program n alternate i) h = record { low = refl; high = refl }
other_ends page (Indexed n base hival) h = record { low = refl; high = refl }

-- each end is that of its component
module _ {s : Space} {lo hi : List ℤ} (r : Ends s lo hi) (k : ℕ) (l : k < places) where
  pub low-at : value lo k ≡ low_of s k
  low-at = ap (λ (x : List ℤ). value x k) r.low ∙ listed-value (low_of s) places k l

  pub high-at : value hi k ≡ high_of s k
  high-at = ap (λ (x : List ℤ). value x k) r.high ∙ listed-value (high_of s) places k l

-- an entry in the code's own terms: b its palette byte, k its component, x and y the ends of that one's range
pub entry-is : (page : List ℕ) (n j : ℕ) {s : Space} {m : ℕ} {lo hi : List ℤ} → Ranged s m lo hi → (k : ℕ) → k < places → k ≡ j % m → (b : ℕ) (x y : ℤ) → b ≡ palette_byte page n j
    → x ≡ value lo k → y ≡ value hi k → palette_value b x y ≡ entry_of page n s j
unfolding entry_of
entry-is page n j {s} r k few ek b x y eb ex ey =
    let at : k ≡ j % count_of s = ek ∙ ap (λ (m : ℕ). j % m) r.count in
    rw (eb, ex ∙ low-at r.ends k few, ey ∙ high-at r.ends k few, at)
