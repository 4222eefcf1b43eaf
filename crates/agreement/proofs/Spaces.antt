-- Running the recipe of a space that is well made replies what the space replies: by the laws of the runner's steps, and induction on the space.
use mathlib.Core.Path.{◌≡◌, refl, ap, ◌∙◌}
use mathlib.Core.Bool.{false, cond}
use mathlib.Core.List.{List, ◌++◌, append_assoc}
use Prim.Native.Nat.{ℕ, zero, suc, ◌≤◌}
use native.Mathlib.Omega.{arith}
use lib.IntN.{ℤ, pos}
use lib.Signed.{lt_z}
use lib.Dec.{eqb}
use lib.ListN.{length}
use borrow.Author.Tests.{ne_eqb}
use Rattle.fixed.specs.Values.{places, started, row_step, tint_step}
use Rattle.cie.specs.Answers.{refusal}
use Rattle.fixed.specs.declared.values.Colour.{Colour}
use Rattle.cie.specs.Closings.{closed}
use Rattle.runner.specs.Runs.{runs, ran}
use Rattle.runner.proofs.Runs.{count-run, limit-run, tint-run, program-run, row-run, device-gray-run, device-rgb-run, device-cmyk-run, gray-run, rgb-run, lab-run, no-mark-run, every-ink-run}
use Rattle.stack.specs.Flat.{flat}
use Rattle.form.specs.Steps.{program_step, taken_by}
use Rattle.form.proofs.Filled.{flat-fitting, form-is-program}
use Rattle.space.specs.Spaces.{Space, none, gray, rgb, cmyk, cal_gray, cal_rgb, lab, no_mark, every_ink, separation, calculated, indexed, count_of, limit_count, low_of, high_of, pick3, closing_of}
use Rattle.space.specs.WellMade.{WellMade}
use Rattle.space.proofs.Counts.{taken-high, count-high, limits-high}
use Rattle.parts.specs.Recipes.{limit_words, limits_of, closing_words, ends_of, steps_of, recipe_of}
use Rattle.recipe.proofs.Longest.{recipe-short}
use Rattle.values.specs.Limits.{limited_to}
use Rattle.colour.specs.Colours.{settled, valued, answered}

-- ---- the limits of the first m components

module _ (n c : ℕ) (s : Space) (ordered : (k : ℕ) → lt_z (high_of s k) (low_of s k) ≡ false) where
  limits-run : (m : ℕ) → m ≤ places → (l : List ℤ) (v : Colour) → runs n c (limits_of s m ++ l) v ≡ runs n c l (limited_to s m v)
  unfolding limits_of limited_to
  limits-run zero h l v = refl
  limits-run (suc m) h l v =
      ap (λ (x : List ℤ). runs n c x v) (append_assoc (limits_of s m) (limit_words m (low_of s m) (high_of s m)) l)
      ∙ (limits-run m (omega arith) (limit_words m (low_of s m) (high_of s m) ++ l) v
      ∙ limit-run n c m (low_of s m) (high_of s m) l (limited_to s m v) (omega arith) (ordered m))

  -- a plain space: its limits, and its closing step
  ends-run : ((u : Colour) → runs n c (closing_words (closing_of s)) u ≡ cond (eqb c n) (closed (closing_of s) u) (refusal 9 0))
      → (v : Colour) → runs n c (ends_of s) v ≡ cond (eqb c n) (settled s v) (refusal 9 0)
  ends-run close v = limits-run (limit_count s) (limits-high s) (closing_words (closing_of s)) v ∙ close (limited_to s (limit_count s) v)

-- ---- ranges in order

unit-range : (k : ℕ) → lt_z (pos 1000000) (pos 0) ≡ false
unit-range k = refl

lab-range : (al ah bl bh : ℤ) → lt_z ah al ≡ false → lt_z bh bl ≡ false → (k : ℕ)
    → lt_z (pick3 (pos 100000000) ah bh k) (pick3 (pos 0) al bl k) ≡ false
lab-range al ah bl bh p q zero = refl
lab-range al ah bl bh p q (suc zero) = p
lab-range al ah bl bh p q (suc (suc k)) =
    let a : suc (suc k) ≡ 0 → ⊥ = omega arith in
    let b : suc (suc k) ≡ 1 → ⊥ = omega arith in
    simp (ne_eqb _ 0 a, ne_eqb _ 1 b) q

-- ---- a space that is well made has components

count_low : (s : Space) → WellMade s → 1 ≤ count_of s
unfolding WellMade
count_low none w = absurd w
count_low gray w = omega arith
count_low rgb w = omega arith
count_low cmyk w = omega arith
count_low (cal_gray k) w = omega arith
count_low (cal_rgb k) w = omega arith
count_low (lab k al ah bl bh) w = omega arith
count_low (no_mark i) w = (taken-high i).0
count_low every_ink w = omega arith
count_low (separation e c0 c1 s) w = omega arith
count_low (calculated i c s) w = (taken-high i).0
count_low (indexed h t s) w = omega arith

-- ---- the steps of a space, from any values on

steps-run : (s : Space) → WellMade s → (n c : ℕ) (v : Colour) → runs n c (steps_of s) v ≡ cond (eqb c n) (valued s v) (refusal 9 0)
unfolding WellMade steps_of valued
steps-run none w n c v = absurd w
steps-run gray w n c v = ends-run n c gray unit-range (device-gray-run n c) v
steps-run rgb w n c v = ends-run n c rgb unit-range (device-rgb-run n c) v
steps-run cmyk w n c v = ends-run n c cmyk unit-range (device-cmyk-run n c) v
steps-run (cal_gray k) w n c v = ends-run n c (cal_gray k) unit-range (λ u. gray-run n c u k w) v
steps-run (cal_rgb k) w n c v = ends-run n c (cal_rgb k) unit-range (λ u. rgb-run n c u k w.0 w.1 w.2) v
steps-run (lab k al ah bl bh) w n c v = ends-run n c (lab k al ah bl bh) (lab-range al ah bl bh w.0 w.1) (λ u. lab-run n c u k) v
steps-run (no_mark i) w n c v = ends-run n c (no_mark i) unit-range (no-mark-run n c) v
steps-run every_ink w n c v = ends-run n c every_ink unit-range (every-ink-run n c) v
steps-run (separation e c0 c1 s) w n c v =
    tint-run e (count_of s) c0 c1 (steps_of s) w.0 (count_low s w.5) w.1 w.2 w.3 n c v
    ∙ steps-run s w.5 n c (tint_step e (count_of s) c0 c1 v)
steps-run (calculated i k s) w n c v =
    program-run i (count_of s) (length (flat k)) (flat k) (steps_of s) refl (flat-fitting k (taken_by i) (count_of s) (omega (arith, w.1)) ∙ w.0) n c v
    ∙ (ap (runs n c (steps_of s)) (form-is-program (taken_by i) (count_of s) k v) ∙ steps-run s w.3 n c (program_step (taken_by i) (count_of s) k v))
steps-run (indexed h t s) w n c v =
    row-run (count_of s) h t (steps_of s) (count_low s w.3) (count-high s) w.0 w.1 n c v
    ∙ steps-run s w.3 n c (row_step (count_of s) h t v)

-- ---- the recipe of a space, fixed before any colour, replies to every list of components what the space replies

pub recipe-replies : (s : Space) → WellMade s → (cs : List ℤ) → ran (recipe_of s) cs ≡ answered s cs
unfolding recipe_of answered
recipe-replies s w cs =
    let z : count_of s ≡ 0 → ⊥ = omega (arith, count_low s w) in
    count-run (count_of s) (steps_of s) cs (count_low s w) (count-high s) (recipe-short s w)
    ∙ simp (ne_eqb (count_of s) 0 z) (steps-run s w (count_of s) (length cs) (started places cs))
