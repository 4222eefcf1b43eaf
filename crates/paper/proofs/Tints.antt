-- Tint 1 gives C1 and tint 0 gives C0, under every exponent.
use mathlib.Core.Path.{◌≡◌, refl, ap, ◌∙◌}
use mathlib.Core.List.{List}
use Prim.Native.Nat.{ℕ, zero, suc, ◌+◌, ◌*◌, ◌/◌, ◌≤◌, ◌<◌}
use native.Mathlib.Omega.{arith}
use native.Mathlib.Decide.{dec_lt}
use lib.Dec.{lit<}
use lib.IntN.{ℤ, pos, ◌+ℤ◌, ◌-ℤ◌, ◌*ℤ◌}
use lib.ListN.{length, set}
use lib.Seq.{get_or-set_same, get_or-set_other}
use Rattle.fixed.specs.Numbers.{limited, half_upℕ, part_way, tint_power, tint_value}
use Rattle.fixed.specs.Values.{value, filled, tint_of, tinted_by, tint_step}
use Rattle.fixed.specs.declared.values.Colour.{Colour}
use Rattle.fixed.proofs.Diff.{Diff, up, down, itself, add, sub, scale, shift, same, half_at}
use Rattle.fixed.proofs.Listed.{filled-length}

-- ---- 1 and 0 to every exponent

power-1 : (e : ℕ) → tint_power 1000000 e ≡ 1000000
unfolding tint_power
power-1 zero = refl
power-1 (suc zero) = refl
power-1 (suc (suc n)) = ap (λ (q : ℕ). half_upℕ (q * 1000000) 1000000) (power-1 (suc n))

power-0 : (e : ℕ) → tint_power 0 e ≡ 0
unfolding tint_power
power-0 zero = refl
power-0 (suc zero) = refl
power-0 (suc (suc n)) = ap (λ (q : ℕ). half_upℕ (q * 0) 1000000) (power-0 (suc n))

tint-of-1 : (e : ℕ) → tint_of (pos 1000000) e ≡ 1000000
unfolding tint_of limited
tint-of-1 e = power-1 e

tint-of-0 : (e : ℕ) → tint_of (pos 0) e ≡ 0
unfolding tint_of limited
tint-of-0 e = power-0 e

-- ---- all the way from x to y, and none of it

halved : (u : ℕ) → (2 * (1000000 * u) + 1000000) / (2 * 1000000) ≡ u
halved u = omega arith

module _ (x y : ℤ) where
  all_the_way : tint_value x y 1000000 ≡ y
  unfolding part_way
  all_the_way =
      same (shift (half_at 1000000 (down y) (lit< tt) z) e) (itself y)
    where
      z : Diff (pos 1000000 *ℤ x +ℤ pos 1000000 *ℤ (y -ℤ x)) (1000000 * up y) (down y * 1000000)
      z = shift (add (scale 1000000 (itself x)) (scale 1000000 (sub (itself y) (itself x)))) (omega arith)

      e : (2 * (1000000 * up y) + 1000000) / (2 * 1000000) + down y ≡ up y + down y
      e = ap (λ (n : ℕ). n + down y) (halved (up y))

  none-of-it : tint_value x y 0 ≡ x
  unfolding part_way
  none-of-it =
      same (shift (half_at 1000000 (down x) (lit< tt) z) e) (itself x)
    where
      z : Diff (pos 1000000 *ℤ x +ℤ pos 0 *ℤ (y -ℤ x)) (1000000 * up x) (down x * 1000000)
      z = shift (add (scale 1000000 (itself x)) (scale 0 (sub (itself y) (itself x)))) (omega arith)

      e : (2 * (1000000 * up x) + 1000000) / (2 * 1000000) + down x ≡ up x + down x
      e = ap (λ (n : ℕ). n + down x) (halved (up x))

-- ---- each of the values that a step fills

at_last : (f : ℕ → ℤ) (m k : ℕ) (v : List ℤ) → Dec (k < m) → k < suc m → suc m ≤ length v → (k < m → value (filled f m v) k ≡ f k)
    → value (set (filled f m v) m (f m)) k ≡ f k
at_last f m k v (yes q) h l r = get_or-set_other (filled f m v) m k (f m) (pos 0) (omega arith) ∙ r q
at_last f m k v (no q) h l r =
    let e : k ≡ m = omega arith in
    rw e (get_or-set_same (filled f m v) m (f m) (pos 0) (rw (filled-length f m v) (omega arith)))

filled-value : (f : ℕ → ℤ) (m k : ℕ) (v : List ℤ) → k < m → m ≤ length v → value (filled f m v) k ≡ f k
unfolding filled
filled-value f zero k v h l = absurd (omega arith)
filled-value f (suc m) k v h l = at_last f m k v (dec_lt k m) h l (λ q. filled-value f m k v q (omega arith))

module _ (e m : ℕ) (c0 c1 : List ℤ) (c : Colour) (k : ℕ) (lt : k < m) (le : m ≤ length c.values) where
  abbrev v : List ℤ
  v = c.values

  pub tinted : value (tint_step e m c0 c1 c).values k ≡ tint_value (value c0 k) (value c1 k) (tint_of (value v 0) e)
  unfolding tint_step tinted_by
  tinted = filled-value (λ k. tint_value (value c0 k) (value c1 k) (tint_of (value v 0) e)) m k v lt le

  pub tint-1 : value v 0 ≡ pos 1000000 → value (tint_step e m c0 c1 c).values k ≡ value c1 k
  tint-1 h =
      tinted ∙
      (ap (λ (x : ℤ). tint_value (value c0 k) (value c1 k) (tint_of x e)) h ∙
      (ap (tint_value (value c0 k) (value c1 k)) (tint-of-1 e) ∙ all_the_way (value c0 k) (value c1 k)))

  pub tint-0 : value v 0 ≡ pos 0 → value (tint_step e m c0 c1 c).values k ≡ value c0 k
  tint-0 h =
      tinted ∙
      (ap (λ (x : ℤ). tint_value (value c0 k) (value c1 k) (tint_of x e)) h ∙
      (ap (tint_value (value c0 k) (value c1 k)) (tint-of-0 e) ∙ none-of-it (value c0 k) (value c1 k)))
