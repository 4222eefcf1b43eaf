-- A number that is n − k among the rows 0..h: the nearest of them, and whether it lies outside, by where n lies.
use mathlib.Core.Path.{◌≡◌, sym, ap, ◌∙◌}
use mathlib.Core.Bool.{Bool, true, false}
use Prim.Native.Nat.{ℕ, ◌+◌, ◌*◌, ◌-◌, ◌/◌, ◌<◌, ◌≤◌}
use native.Mathlib.Nat.{mul-div-mul_left}
use native.Mathlib.Omega.{arith}
use lib.IntN.{ℤ, pos}
use Rattle.fixed.specs.Numbers.{limited, outside}
use Rattle.fixed.proofs.Diff.{Diff, of-pos, lt_yes, lt_no, pos-at}

module _ (h : ℕ) {z : ℤ} {n k : ℕ} (e : Diff z n k) where
  -- r is the row, and t whether the number lies outside
  abbrev Picks : ℕ → Bool → Type 0
  Picks r t = (pos r ≡ limited (pos 0) (pos h) z) × (t ≡ outside (pos 0) (pos h) z)

  pub mid : k ≤ n → n ≤ k + h → Picks (n - k) false
  unfolding limited outside
  mid p q =
      let under = lt_no e (of-pos 0) (omega arith) in
      let above = lt_no (of-pos h) e (omega arith) in
      (simp (under, above) (sym (pos-at e p)), simp (under, above))

  pub high : k + h < n → Picks h true
  unfolding limited outside
  high q =
      let under = lt_no e (of-pos 0) (omega arith) in
      let above = lt_yes (of-pos h) e (omega arith) in
      (simp (under, above), simp (under, above))

  pub low : n < k → Picks 0 true
  unfolding limited outside
  low p = let under = lt_yes e (of-pos 0) (omega arith) in (simp under, simp under)

-- half of a half: the code adds 500000 and divides by 1000000
pub halves : (m : ℕ) → (2 * m + 1000000) / 2000000 ≡ (m + 500000) / 1000000
halves m = ap (λ (x : ℕ). x / 2000000) (doubled m) ∙ mul-div-mul_left (m + 500000) 1000000 (omega arith)
  where
    doubled : (m : ℕ) → 2 * m + 1000000 ≡ 2 * (m + 500000)
    doubled m = omega arith
