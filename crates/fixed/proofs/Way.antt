-- What `part_way` computes: the weighted sum of two raised numbers, its bounds, and that its rounded quotient is the rounded point, raised.
use mathlib.Core.Path.{◌≡◌, ap}
use Prim.Native.Nat.{ℕ, ◌+◌, ◌*◌, ◌-◌, ◌/◌, ◌<◌, ◌≤◌, ◌^◌}
use native.Mathlib.Nat.{mul-le-mul_left, div-lt_iff_lt-mul}
use native.Mathlib.Omega.{arith}
use lib.IntN.{ℤ}
use Rattle.fixed.specs.Numbers.{part_way}
use Rattle.fixed.proofs.Diff.{Diff, add, sub, scale, shift, half_at}

module _ (q d a b : ℕ) (w : q ≤ d) (ha : a < 2 ^ 32) (hb : b < 2 ^ 32) where
  part : d ≡ (d - q) + q
  part = omega arith

  -- the sum is at most d times the largest
  pub sum-le : (d - q) * a + q * b ≤ d * 4294967295
  sum-le = omega (arith, ap (λ (x : ℕ). x * 4294967295) part, left, right)
    where
      left : (d - q) * a ≤ (d - q) * 4294967295
      left = mul-le-mul_left (d - q) (omega arith)

      right : q * b ≤ q * 4294967295
      right = mul-le-mul_left q (omega arith)

  pub quot-lt : 0 < d → (2 * ((d - q) * a + q * b) + d) / (2 * d) < 2 ^ 32
  quot-lt p =
      let k : 0 < 2 * d = omega arith in
      let h : 2 * ((d - q) * a + q * b) + d < 2 ^ 32 * (2 * d) = omega (arith, sum-le) in
      (div-lt_iff_lt-mul k).1 h

  pub point : {x y : ℤ} → 0 < d → Diff x a (2 ^ 31) → Diff y b (2 ^ 31) → Diff (part_way d q x y) ((2 * ((d - q) * a + q * b) + d) / (2 * d)) (2 ^ 31)
  unfolding part_way
  point p hx hy =
      half_at d (2 ^ 31) p (shift (add (scale d hx) (scale q (sub hy hx))) (omega (arith, ap (λ (x : ℕ). x * a) part)))
