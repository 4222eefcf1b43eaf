-- The operators on numbers, of numbers raised so that none is negative.
use mathlib.Core.Path.{◌≡◌, refl, sym, ap, ◌∙◌}
use mathlib.Core.Bool.{Bool, true, false, cond, true≢false}
use Prim.Native.Nat.{ℕ, ◌+◌, ◌*◌, ◌-◌, ◌/◌, ◌≤◌, ◌<◌, ◌^◌, min}
use native.Mathlib.Nat.{mul-le-mul}
use native.Mathlib.Omega.{arith}
use lib.IntN.{ℤ, pos, negsuc, neg_ℤ, nat_abs, sub_ℕ, ◌*ℤ◌}
use lib.Signed.{lt_z}
use lib.Dec.{ltb}
use native.Mathlib.Decide.{dec_lt}
use mir.Syntax.{w32}
use Rattle.std.specs.Int.{saturate_signed}
use borrow.Author.Tests.{ltb-true, lt-ltb, le-ltb}
use Rattle.fixed.specs.Numbers.{limited, half_up}
use Rattle.fixed.proofs.Diff as D
use Rattle.fixed.proofs.Diff.{Diff, of-pos, of-sub, of_eq, shift, lt_yes, lt_no, half_at, sub_at}
use Rattle.fixed.proofs.Round.{halves}
use Rattle.stack.specs.Operators.{fitted, signed_by}

least : Diff (negsuc 2147483647) 0 2147483648
least = record { eq = omega arith }

greatest : Diff (pos 2147483647) 2147483647 0
greatest = of-pos 2147483647

-- a saturating sum of the library is the nearest that fits
pub saturated : (z : ℤ) → saturate_signed w32 z ≡ fitted z
unfolding fitted limited
saturated (pos n) = by (dec_lt 2147483647 n)
  where
    by : Dec (2147483647 < n) → pos (min n 2147483647) ≡ cond (ltb 2147483647 n) (pos 2147483647) (pos n)
    by (yes p) = simp (lt-ltb 2147483647 n p) (ap pos (let e : min n 2147483647 ≡ 2147483647 = omega arith in e))
    by (no p) = let h : n ≤ 2147483647 = omega arith in simp (le-ltb 2147483647 n h) (ap pos (let e : min n 2147483647 ≡ n = omega arith in e))
saturated (negsuc n) = by (dec_lt 2147483647 n)
  where
    by : Dec (2147483647 < n) → negsuc (min n 2147483647) ≡ cond (ltb 2147483647 n) (negsuc 2147483647) (negsuc n)
    by (yes p) = simp (lt-ltb 2147483647 n p) (ap negsuc (let e : min n 2147483647 ≡ 2147483647 = omega arith in e))
    by (no p) = let h : n ≤ 2147483647 = omega arith in simp (le-ltb 2147483647 n h) (ap negsuc (let e : min n 2147483647 ≡ n = omega arith in e))

module _ (q k : ℕ) where
  pub fit_low : q + 2147483648 < k → negsuc 2147483647 ≡ fitted (sub_ℕ q k)
  unfolding fitted limited
  fit_low h = simp (lt_yes (of-sub q k) least (omega arith))

  pub fit-high : k + 2147483647 < q → pos 2147483647 ≡ fitted (sub_ℕ q k)
  unfolding fitted limited
  fit-high h = simp (lt_no (of-sub q k) least (omega arith), lt_yes greatest (of-sub q k) (omega arith))

  pub fit_mid : k ≤ q + 2147483648 → q ≤ k + 2147483647 → (u : ℕ) → u + k ≡ q + 2147483648 → sub_ℕ u (2 ^ 31) ≡ fitted (sub_ℕ q k)
  unfolding fitted limited
  fit_mid h g u e = simp (lt_no (of-sub q k) least (omega arith), lt_no greatest (of-sub q k) (omega arith)) (sub_at (of-sub u (2 ^ 31)) q k (omega arith))

pub product_small : (m n : ℕ) → m ≤ 2147483648 → n ≤ 2147483648 → m * n ≤ 4611686018427387904
product_small m n h g = mul-le-mul h g

rounds : (z : ℤ) (a : ℕ) → Diff z a (4611686018428 * 1000000) → fitted (sub_ℕ ((a + 500000) / 1000000) 4611686018428) ≡ fitted (half_up z 1000000)
rounds z a d = ap (λ (n : ℕ). fitted (sub_ℕ n 4611686018428)) (sym (halves a)) ∙ ap fitted (sym (sub_at (half_at 1000000 4611686018428 (omega arith) d) ((2 * a + 1000000) / 2000000) 4611686018428 (omega arith)))

pub product-up : (p : ℕ) → fitted (sub_ℕ ((4611686018428000000 + p + 500000) / 1000000) 4611686018428) ≡ fitted (half_up (signed_by false p) 1000000)
product-up p = rounds (pos p) (4611686018428000000 + p) (shift (of-pos p) (omega arith))

pub product-down : (p : ℕ) → p ≤ 4611686018427387904 → fitted (sub_ℕ ((4611686018428000000 - p + 500000) / 1000000) 4611686018428) ≡ fitted (half_up (signed_by true p) 1000000)
product-down p h = rounds (neg_ℤ (pos p)) (4611686018428000000 - p) (shift (D.neg (of-pos p)) (omega arith))

-- the signs of a product
pub product_is : (x y : ℤ) (s t : Bool) → lt_z x (pos 0) ≡ s → lt_z y (pos 0) ≡ t → signed_by (cond s (cond t false true) t) (nat_abs x * nat_abs y) ≡ x *ℤ y
product_is (pos a) (pos b) false false e f = refl
product_is (pos a) (negsuc b) false true e f = refl
product_is (negsuc a) (pos b) true false e f = refl
product_is (negsuc a) (negsuc b) true true e f = refl
product_is (pos a) y true t e f = let h : a < 0 = ltb-true a 0 e in absurd (omega arith)
product_is (negsuc a) y false t e f = absurd (true≢false e)
product_is (pos a) (pos b) false true e f = let h : b < 0 = ltb-true b 0 f in absurd (omega arith)
product_is (pos a) (negsuc b) false false e f = absurd (true≢false f)
product_is (negsuc a) (pos b) true true e f = let h : b < 0 = ltb-true b 0 f in absurd (omega arith)
product_is (negsuc a) (negsuc b) true false e f = absurd (true≢false f)

-- m and n are the sizes of x and y, as x' and y' are read back
pub product-of : (x y : ℤ) (s t : Bool) {x' y' : ℤ} {m n : ℕ} → x' ≡ x → y' ≡ y → lt_z x' (pos 0) ≡ s → lt_z y' (pos 0) ≡ t → m ≡ nat_abs x' → n ≡ nat_abs y' → fitted (half_up (signed_by (cond s (cond t false true) t) (m * n)) 1000000) ≡ fitted (half_up (x *ℤ y) 1000000)
product-of x y s t {x'} {y'} {m} {n} ex ey es et em en =
    ap (λ (z : ℤ). fitted (half_up z 1000000))
    ((λ i. signed_by (cond s (cond t false true) t) ((em ∙ ap nat_abs ex) i * (en ∙ ap nat_abs ey) i))
    ∙ product_is x y s t (ap (λ (z : ℤ). lt_z z (pos 0)) (sym ex) ∙ es) (ap (λ (z : ℤ). lt_z z (pos 0)) (sym ey) ∙ et))
