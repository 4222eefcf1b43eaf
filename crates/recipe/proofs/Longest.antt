-- How long a recipe is: as document 01's table of lengths says, with request 2026-06, of which 1,084 is the greatest.
use mathlib.Core.Path.{◌≡◌, refl}
use mathlib.Core.List.{List, ◌∷◌, ◌++◌}
use Prim.Native.Nat.{ℕ, ◌+◌, ◌*◌, ◌≤◌, ◌<◌}
use native.Mathlib.Nat.{mul-le-mul, le_refl}
use native.Mathlib.Omega.{arith}
use lib.IntN.{ℤ, pos}
use lib.ListN.{length, length-append}
use Rattle.cie.specs.declared.RgbClosing.{RgbClosing}
use Rattle.stack.specs.Programs.{Code}
use Rattle.stack.specs.Flat.{flat}
use Rattle.fixed.specs.Values.{places}
use Rattle.form.specs.Steps.{nearest_count, head_words}
use Rattle.form.specs.declared.Tints.{Tints}
use Rattle.form.specs.declared.Tints.TheVariants.{One, Inks}
use Rattle.fixed.specs.Sizes.{most_flat, longest}
use Rattle.calculator.specs.Calculator.{code_after}
use Rattle.space.specs.Spaces.{Space, none, gray, rgb, cmyk, cal_gray, cal_rgb, lab, no_mark, every_ink, separation, calculated, indexed, count_of, words_of}
use Rattle.space.specs.Pages.{table_of, c0_of, c1_of, space_at}
use Rattle.space.specs.WellMade.{rank_of, WellMade}
use Rattle.space.specs.Levels.{space_in, level_at}
use Rattle.space.specs.declared.nesting.Level.{Level}
use Rattle.space.proofs.Levels.{level-space, space-ind, by_rank}
use Rattle.space.proofs.Counts.{taken-high, count-high, table-length, c0-length, c1-length}
use Rattle.parts.specs.Recipes.{limits_of, steps_of, recipe_of}

-- ---- Document 01's lengths

-- a space whose recipe is as long as the table says
abbrev Right : Space → Type 0
Right s = length (recipe_of s) ≡ words_of s

-- a Separation or an Indexed over it has it too, its lists being as long as that space asks
module _ (s : Space) (r : Right s) where
  separation-length : (e : ℕ) (c0 c1 : List ℤ) → length c0 ≡ count_of s → length c1 ≡ count_of s → Right (separation e c0 c1 s)
  unfolding recipe_of steps_of
  separation-length e c0 c1 h0 h1 =
      let l : length ((c0 ++ c1) ++ steps_of s) ≡ length c0 + length c1 + length (steps_of s) = simp length-append in
      omega arith

  calculated-length : (i : Tints) (c : Code) → Right (calculated i c s)
  unfolding recipe_of steps_of
  calculated-length i c =
      let ws = pos (count_of s) ∷ pos (length (flat c)) ∷ flat c in
      let l : length ((head_words i ++ ws) ++ steps_of s) ≡ length (head_words i) + length ws + length (steps_of s) = simp length-append in
      omega arith

  indexed-length : (h : ℕ) (t : List ℤ) → length t ≡ count_of s * (h + 1) → Right (indexed h t s)
  unfolding recipe_of steps_of
  indexed-length h t e =
      let l : length (t ++ steps_of s) ≡ length t + length (steps_of s) = length-append t (steps_of s) in
      omega arith

-- a plain space
plain-length : (s : Space) → rank_of s < 1 → Right s
unfolding recipe_of steps_of limits_of
plain-length none r = refl
plain-length gray r = refl
plain-length rgb r = refl
plain-length cmyk r = refl
plain-length (cal_gray k) r = refl
plain-length (cal_rgb k) r = refl
plain-length (lab k al ah bl bh) r = refl
plain-length (no_mark i) r = refl
plain-length every_ink r = refl
plain-length (separation e c0 c1 s) r = absurd (omega arith)
plain-length (calculated i c s) r = absurd (omega arith)
plain-length (indexed h t s) r = absurd (omega arith)

-- a space that is well made
pub recipe-length : (s : Space) → WellMade s → length (recipe_of s) ≡ words_of s
unfolding WellMade
recipe-length none w = plain-length none (omega arith)
recipe-length gray w = plain-length gray (omega arith)
recipe-length rgb w = plain-length rgb (omega arith)
recipe-length cmyk w = plain-length cmyk (omega arith)
recipe-length (cal_gray k) w = plain-length (cal_gray k) (omega arith)
recipe-length (cal_rgb k) w = plain-length (cal_rgb k) (omega arith)
recipe-length (lab k al ah bl bh) w = plain-length (lab k al ah bl bh) (omega arith)
recipe-length (no_mark i) w = plain-length (no_mark i) (omega arith)
recipe-length every_ink w = plain-length every_ink (omega arith)
recipe-length (separation e c0 c1 s) w = separation-length s (recipe-length s w.5) e c0 c1 w.2 w.3
recipe-length (calculated i c s) w = calculated-length s (recipe-length s w.3) i c
recipe-length (indexed h t s) w = indexed-length s (recipe-length s w.3) h t w.1

-- every space on a page, whatever the page
pub length_at : (page : List ℕ) (n : ℕ) → length (recipe_of (space_at page n)) ≡ words_of (space_at page n)
length_at page =
    space-ind page Right plain-length (λ p s _ h r. separation-length s r p.exponent (c0_of p s) (c1_of p s) (c0-length p s h) (c1-length p s h))
    (λ n i s _ r. calculated-length s r i (code_after page n))
    (λ n hival s r. indexed-length s r hival (table_of page n hival s) (table-length page n hival s))

-- and so of the level at its number
pub length-in : (page : List ℕ) (n : ℕ) {l : Level} → l ≡ level_at page n → length (recipe_of (space_in page l)) ≡ words_of (space_in page l)
length-in page n e = rw (level-space page n e) (length_at page n)

-- ---- The longest

-- of an Indexed, hival 255, over a DeviceN of as many names as there are values over CalRGB whose program has the most words
pub calculated-longest : (t : List ℤ) (c : Code) (k : RgbClosing) → length (flat c) ≡ most_flat → words_of (indexed 255 t (calculated (Inks places) c (cal_rgb k))) ≡ longest
unfolding nearest_count
calculated-longest t c k e = omega arith

-- without a program: over CMYK
pub cmyk-longest : (t : List ℤ) → words_of (indexed 255 t cmyk) ≡ 1045
cmyk-longest t = refl

-- a space that an Indexed of 256 rows may be over
abbrev Few : Space → Type 0
Few s = 3 + count_of s * 256 + words_of s ≤ longest

plain-few : (s : Space) → rank_of s < 1 → (words_of s ≤ 26) × Few s
plain-few none r = (omega arith, omega arith)
plain-few gray r = (omega arith, omega arith)
plain-few rgb r = (omega arith, omega arith)
plain-few cmyk r = (omega arith, omega arith)
plain-few (cal_gray k) r = (omega arith, omega arith)
plain-few (cal_rgb k) r = (omega arith, omega arith)
plain-few (lab k al ah bl bh) r = (omega arith, omega arith)
plain-few (no_mark i) r = (omega arith, omega (arith, (taken-high i).1))
plain-few every_ink r = (omega arith, omega arith)
plain-few (separation e c0 c1 s) r = absurd (omega arith)
plain-few (calculated i c s) r = absurd (omega arith)
plain-few (indexed h t s) r = absurd (omega arith)

separation-few : (e : ℕ) (c0 c1 : List ℤ) (s : Space) → rank_of s < 1 → Few (separation e c0 c1 s)
separation-few e c0 c1 s r = omega (arith, (plain-few s r).0, count-high s)

-- the words before a flat form
head_few : (i : Tints) → length (head_words i) ≤ 2
head_few One = omega arith
head_few (Inks n) = omega arith

calculated-few : (i : Tints) (c : Code) (s : Space) → length (flat c) ≤ most_flat → rank_of s < 1 → Few (calculated i c s)
calculated-few i c s l r = omega (arith, (plain-few s r).0, (taken-high i).1, head_few i)

indexed-few : (h : ℕ) (t : List ℤ) (s : Space) → h ≤ 255 → Few s → words_of (indexed h t s) ≤ longest
indexed-few h t s l f =
    let m : count_of s * (h + 1) ≤ count_of s * 256 = mul-le-mul (le_refl _) (omega arith) in
    omega arith

-- no recipe of a space that is well made is longer
base-few : (s : Space) → rank_of s < 2 → WellMade s → Few s
unfolding WellMade
base-few = by_rank (λ (s : Space). rank_of s < 2 → WellMade s → Few s) (λ s p _ _. (plain-few s p).1) (λ e c0 c1 s _ w. separation-few e c0 c1 s w.4)
    (λ i c s _ w. calculated-few i c s w.1 w.2) (λ h t s r w. absurd (omega arith))

words-short : (s : Space) → WellMade s → words_of s ≤ longest
unfolding WellMade
words-short =
    by_rank (λ (s : Space). WellMade s → words_of s ≤ longest) (λ s p _. omega (arith, (plain-few s p).0))
    (λ e c0 c1 s w. omega (arith, separation-few e c0 c1 s w.4)) (λ i c s w. omega (arith, calculated-few i c s w.1 w.2)) (λ h t s w. indexed-few h t s w.0 (base-few s w.2 w.3))

pub recipe-short : (s : Space) → WellMade s → length (recipe_of s) ≤ longest
recipe-short s w = rw (recipe-length s w) (words-short s w)
