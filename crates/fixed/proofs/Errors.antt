-- How far a tint's component is from the exact C0 + x^e (C1 - C0): each rounding of the power adds at most half a millionth, and the last one another half. Once over
-- the exponent e = n + 1, with 10^(6n) as a, x^(n + 1) as b and the rounded power as q.
use mathlib.Core.Path.{◌≡◌, refl, ap, ◌∙◌}
use Prim.Native.Nat.{ℕ, zero, suc, ◌+◌, ◌*◌, ◌-◌, ◌/◌, ◌^◌, ◌≤◌}
use native.Mathlib.Nat.{mul-le-mul_left, mul-le-mul_right, one-mul, pow-zero, pow-suc}
use native.Mathlib.Omega.{arith}
use native.Mathlib.Decide.{dec_le}
use lib.IntN.{pos, ◌+ℤ◌, ◌-ℤ◌, ◌*ℤ◌}
use Rattle.fixed.specs.Numbers.{part_way, tint_power, tint_value}
use Rattle.fixed.proofs.Diff.{Diff, of-pos, add, sub, scale, shift, same, half_at}
use Rattle.fixed.proofs.Powers.{power_le}

-- ---- one unit more of the exponent makes r of q

module _ (a b q r x n : ℕ) (hx : x ≤ 1000000) where
  more-high : 2 * (1000000 * r) ≤ 2 * (q * x) + 1000000 → 2 * (a * q) ≤ 2 * b + n * a → 2 * (a * 1000000 * r) ≤ 2 * (b * x) + suc n * (a * 1000000)
  more-high h before = omega (arith, mul-le-mul_left a h, mul-le-mul_right x before, mul-le-mul_left (n * a) hx)

  more-low : 2 * (q * x) ≤ 2 * (1000000 * r) + 1000000 → 2 * b ≤ 2 * (a * q) + n * a → 2 * (b * x) ≤ 2 * (a * 1000000 * r) + suc n * (a * 1000000)
  more-low h before = omega (arith, mul-le-mul_left a h, mul-le-mul_right x before, mul-le-mul_left (n * a) hx)

-- the power stays within 0..1
power-within : (x n : ℕ) → x ≤ 1000000 → tint_power x (suc n) ≤ 1000000
unfolding tint_power
power-within x zero hx = hx
power-within x (suc n) hx = power_le (tint_power x (suc n)) x (power-within x n hx) hx

-- n roundings leave the power within n halves of a millionth
pub record Near (x n : ℕ) : Type 0 where
  pub high : 2 * (1000000 ^ n * tint_power x (suc n)) ≤ 2 * x ^ suc n + n * 1000000 ^ n
  pub low : 2 * x ^ suc n ≤ 2 * (1000000 ^ n * tint_power x (suc n)) + n * 1000000 ^ n

first : (x : ℕ) → tint_power x 1 ≡ x
unfolding tint_power
first x = refl

next : (x n : ℕ) → tint_power x (suc (suc n)) ≡ (2 * (tint_power x (suc n) * x) + 1000000) / 2000000
unfolding tint_power
next x n = refl

pub power-near : (x n : ℕ) → x ≤ 1000000 → Near x n
power-near x zero hx =
    let one : x ^ 1 ≡ x = pow-suc x 0 ∙ rw (pow-zero x) (one-mul x) in
    record { high = omega (arith, first x); low = omega (arith, first x) }
power-near x (suc n) hx =
    let before = power-near x n hx in
    let q = tint_power x (suc n) in
    let r = tint_power x (suc (suc n)) in
    let h : 2 * (1000000 * r) ≤ 2 * (q * x) + 1000000 = omega (arith, next x n) in
    let l : 2 * (q * x) ≤ 2 * (1000000 * r) + 1000000 = omega (arith, next x n) in
    let high = more-high (1000000 ^ n) (x ^ suc n) q r x n hx h before.high in
    let low = more-low (1000000 ^ n) (x ^ suc n) q r x n hx l before.low in
    record {
      high = rw (pow-suc 1000000 n, pow-suc x (suc n)) high;
      low = rw (pow-suc x (suc n), pow-suc 1000000 n) low;
    }

-- ---- the component r between c and d, of p = 1 - q and q millionths

-- off by two millionths at most: a 1000000 r against a 1000000 c + b (d - c), on either side
pub record Close (a b c d r : ℕ) : Type 0 where
  pub high : a * 1000000 * r + b * c ≤ a * 1000000 * c + b * d + 2 * (a * 1000000)
  pub low : a * 1000000 * c + b * d ≤ a * 1000000 * r + b * c + 2 * (a * 1000000)

module _ (a b q p r n : ℕ) (whole : p + q ≡ 1000000) (hn : n ≤ 3) (up : 2 * (a * q) ≤ 2 * b + n * a) (down : 2 * b ≤ 2 * (a * q) + n * a) where
  -- the shares of c, a times
  shares : (c : ℕ) → a * (c * p) + a * (c * q) ≡ a * (c * 1000000)
  shares c = let e : a * (c * (p + q)) ≡ a * (c * 1000000) = ap (λ (t : ℕ). a * (c * t)) whole in omega arith

  -- the roundings of the power, over a distance k of at most 1
  few : (k : ℕ) → k ≤ 1000000 → n * a * k ≤ 3 * (a * 1000000)
  few k hk = omega (arith, mul-le-mul_left (n * a) hk, mul-le-mul_right a hn)

  rising : (c k : ℕ) → k ≤ 1000000 → 2 * (1000000 * r) ≤ 2 * (p * c + q * (c + k)) + 1000000 → 2 * (p * c + q * (c + k)) ≤ 2 * (1000000 * r) + 1000000 → Close a b c (c + k) r
  rising c k hk h l = record {
    high = omega (arith, shares c, few k hk, mul-le-mul_left a h, mul-le-mul_right k up);
    low = omega (arith, shares c, few k hk, mul-le-mul_left a l, mul-le-mul_right k down);
  }

  falling : (d k : ℕ) → k ≤ 1000000 → 2 * (1000000 * r) ≤ 2 * (p * (d + k) + q * d) + 1000000 → 2 * (p * (d + k) + q * d) ≤ 2 * (1000000 * r) + 1000000 → Close a b (d + k) d r
  falling d k hk h l = record {
    high = omega (arith, shares (d + k), few k hk, mul-le-mul_left a h, mul-le-mul_right k down);
    low = omega (arith, shares (d + k), few k hk, mul-le-mul_left a l, mul-le-mul_right k up);
  }

-- whichever of the two ends is the greater
between : (a b q p c d r n : ℕ) → p + q ≡ 1000000 → n ≤ 3 → 2 * (a * q) ≤ 2 * b + n * a → 2 * b ≤ 2 * (a * q) + n * a → c ≤ 1000000 → d ≤ 1000000
    → 2 * (1000000 * r) ≤ 2 * (p * c + q * d) + 1000000 → 2 * (p * c + q * d) ≤ 2 * (1000000 * r) + 1000000 → Close a b c d r
between a b q p c d r n whole hn up down hc hd h l = by (dec_le c d)
  where
    by : Dec (c ≤ d) → Close a b c d r
    by (yes le) =
        let e : d ≡ c + (d - c) = omega arith in
        rw e (rising a b q p r n whole hn up down c (d - c) (omega arith) (rw e at h) (rw e at l))
    by (no gt) =
        let e : c ≡ d + (c - d) = omega arith in
        rw e (falling a b q p r n whole hn up down d (c - d) (omega arith) (rw e at h) (rw e at l))

-- ---- a component of the alternate space, as it is rounded

module _ (c d q : ℕ) (hq : q ≤ 1000000) where
  abbrev rounded : ℕ
  rounded = (2 * ((1000000 - q) * c + q * d) + 1000000) / 2000000

  value-is : tint_value (pos c) (pos d) q ≡ pos rounded
  unfolding part_way
  value-is =
      let p = 1000000 - q in
      let whole : p + q ≡ 1000000 = omega arith in
      let sum : Diff (pos 1000000 *ℤ pos c +ℤ pos q *ℤ (pos d -ℤ pos c)) (p * c + q * d) (0 * 1000000) =
      shift (add (scale 1000000 (of-pos c)) (scale q (sub (of-pos d) (of-pos c)))) (omega (arith, ap (λ (t : ℕ). t * c) whole)) in
      same (half_at 1000000 0 (omega arith) sum) (of-pos rounded)

-- For exponents 1 to 4 and ends in 0..1, a component is a whole number within two millionths of the exact one.
pub tint-near : (x n c d : ℕ) → x ≤ 1000000 → n ≤ 3 → c ≤ 1000000 → d ≤ 1000000
    → (r : ℕ) × ((tint_value (pos c) (pos d) (tint_power x (suc n)) ≡ pos r) × Close (1000000 ^ n) (x ^ suc n) c d r)
tint-near x n c d hx hn hc hd =
    let q = tint_power x (suc n) in
    let hq : q ≤ 1000000 = power-within x n hx in
    let near = power-near x n hx in
    (rounded c d q hq, (value-is c d q hq, between (1000000 ^ n) (x ^ suc n) q (1000000 - q) c d (rounded c d q hq) n (omega arith) hn near.high near.low hc hd (omega arith) (omega arith)))
