-- The search for a gamma in tenths: what a probe compares, by limbs, is the test of the definition; and the bisection, between a number that passes it and one
-- from which on none does.
use mathlib.Core.Path.{◌≡◌, refl, sym, ap, ◌∙◌}
use mathlib.Core.Bool.{Bool, true, false}
use mathlib.Core.List.{List, ◌++◌}
use Prim.Native.Nat.{ℕ, zero, suc, ◌+◌, ◌*◌, ◌-◌, ◌^◌, ◌<◌, ◌≤◌, ◌/◌}
use native.Mathlib.Nat.{pow-suc, mul-le-mul_right, le_of_mul-le-mul_right, one-le-pow, le-div_iff_mul-le}
use native.Mathlib.Omega.{arith}
use lib.Dec.{leb}
use lib.Pow.{pow-add}
use lib.ListN.{length, take, drop}
use lib.Seq.{take-add, drop_at, length-take-le}
use Rattle.tenths.specs.Limbs.{base, Limbs, value_of, mixed}
use Rattle.tenths.specs.Tenths.{reaches, greatest_of}
use Rattle.tenths.proofs.Greatest.{greatest-is}
use Rattle.tenths.proofs.Settled.{reaches-falls, reaches-nought, leb-same}
use Rattle.tenths.proofs.Order.{value-drop, limbs-take}
use Rattle.tenths.proofs.Mixed.{mixed-above}

-- ten-thousandths in pairs
pub base-pow : (k : ℕ) → base ^ k ≡ 10000 ^ (k + k)
base-pow zero = refl
base-pow (suc k) = let e : suc k + suc k ≡ suc (suc (k + k)) = omega arith in
    let h = base-pow k in simp (e, pow-suc) (omega arith)

-- dividing by a power of 10000 before the comparison or multiplying by it after is the same
pub scaled : (a b c d f w q e : ℕ) → c + (f + f) + w ≡ q → d + w ≡ e → leb (a * 10000 ^ c) (b * 10000 ^ d / base ^ f) ≡ leb (a * 10000 ^ q) (b * 10000 ^ e)
scaled a b c d f w q e hq he =
    leb-same (a * 10000 ^ c) (b * 10000 ^ d / base ^ f) (a * 10000 ^ q) (b * 10000 ^ e)
    (λ h. rw (← wide, ← high) (mul-le-mul_right (10000 ^ w) ((le-div_iff_mul-le one).0 h)))
    (λ h. (le-div_iff_mul-le one).1 (le_of_mul-le-mul_right (rw (← wide, ← high) at h) (one-le-pow w 10000 (omega arith))))
  where
    one : 0 < base ^ f
    one = one-le-pow f base (omega arith)

    wide : a * 10000 ^ c * base ^ f * 10000 ^ w ≡ a * 10000 ^ q
    wide = rw (← hq, base-pow) (simp pow-add (omega arith))

    high : b * 10000 ^ d * 10000 ^ w ≡ b * 10000 ^ e
    high = rw (← he) (simp pow-add (omega arith))

-- the k + 1 limbs from count - k on decide
pub test-is : (e q u v k count from : ℕ) (x : List ℕ) → count ≡ from + k → Limbs x → count + 1 ≤ length x → e ≤ 2 * k → q ≤ 2 * count → 2 * count ≤ q + e
    → value_of (take (count + 1) x) ≡ mixed u q (2 * count) → leb (v ^ e * 10000 ^ (2 * k - e)) (value_of (take (k + 1) (drop from x))) ≡ reaches e q u v
unfolding reaches
test-is e q u v k count from x sum s l low up high is =
    ap (leb (v ^ e * 10000 ^ (2 * k - e))) top
    ∙ scaled (v ^ e) (u ^ q) (2 * k - e) (2 * count - q) from (q + e - 2 * count) q e (omega arith) (omega arith)
  where
    parts : take (count + 1) x ≡ take from x ++ take (k + 1) (drop from x)
    parts = let n : count + 1 ≡ from + (k + 1) = omega arith in rw n (take-add from (k + 1) x)

    lost : drop from (take (count + 1) x) ≡ take (k + 1) (drop from x)
    lost = rw parts (drop_at (take from x) (take (k + 1) (drop from x)) from (length-take-le from x (omega arith)))

    top : value_of (take (k + 1) (drop from x)) ≡ u ^ q * 10000 ^ (2 * count - q) / base ^ from
    top =
        let n : length (take (count + 1) x) ≡ count + 1 = length-take-le (count + 1) x l in
        let m : q + (2 * count - q) ≡ 2 * count = omega arith in
        ap value_of (sym lost) ∙ value-drop from (take (count + 1) x) (limbs-take (count + 1) x s) (omega arith)
        ∙ ap (λ (y : ℕ). y / base ^ from) (is ∙ ap (mixed u q) (sym m) ∙ mixed-above u q (2 * count - q))

-- what a probe found, of as many limbs
pub probe : (e q u v k count from size : ℕ) (x : List ℕ) (r : Bool) → size ≡ k + 1 → count ≡ from + k → Limbs x → count + 1 ≤ length x → e ≤ 2 * k → q ≤ 2 * count
    → 2 * count ≤ q + e → value_of (take (count + 1) x) ≡ mixed u q (2 * count) → r ≡ leb (v ^ e * 10000 ^ (2 * k - e)) (value_of (take size (drop from x)))
    → r ≡ reaches e q u v
probe e q u v k count from size x r n sum s l low up high is h =
    h ∙ ap (λ (m : ℕ). leb (v ^ e * 10000 ^ (2 * k - e)) (value_of (take m (drop from x)))) n ∙ test-is e q u v k count from x sum s l low up high is

-- where the search is: lo reaches, and from hi on nothing does
pub record Between (e p u lo hi : ℕ) : Type 0 where
  pub high : hi ≤ 10001
  pub gap : lo < hi
  pub yes : reaches e p u lo ≡ true
  pub none : (w : ℕ) → hi ≤ w → w ≤ 10000 → reaches e p u w ≡ false

pub start : (e p u : ℕ) → 1 ≤ e → Between e p u 0 10001
start e p u h = record { high = omega arith; gap = omega arith; yes = reaches-nought e p u h; none = λ w a b. let z : ⊥ = omega arith in absurd z }

pub up : {e p u lo hi : ℕ} (m : ℕ) → Between e p u lo hi → m < hi → reaches e p u m ≡ true → Between e p u m hi
up m b h y = record { high = b.high; gap = h; yes = y; none = b.none }

pub down : {e p u lo hi : ℕ} (m : ℕ) → Between e p u lo hi → lo < m → m ≤ 10001 → reaches e p u m ≡ false → Between e p u lo m
down {e} {p} {u} m b h k n = record { high = k; gap = h; yes = b.yes; none = λ w a c. reaches-falls e p u m w a n }

pub stopped : {e p u lo hi : ℕ} → Between e p u lo hi → hi - lo ≤ 1 → lo ≡ greatest_of (reaches e p u) 10000
stopped {e} {p} {u} {lo} {hi} b h =
    let g = b.gap in
    let k = b.high in
    sym (greatest-is (reaches e p u) lo 10000 (omega arith) b.yes (λ w a c. b.none w (omega arith) c))

-- the comparison of v's product, made with E factors and K pairs, where these are e and k
pub probed : (v e k E K : ℕ) (x y : List ℕ) (r : Bool) → E ≡ e → K ≡ k → e ≤ 2 * k → value_of (take (K + 1) y) ≡ mixed v E (2 * K)
    → r ≡ leb (value_of (take (K + 1) y)) (value_of x) → r ≡ leb (v ^ e * 10000 ^ (2 * k - e)) (value_of x)
probed v e k E K x y r he hk l is h =
    let m : e + (2 * k - e) ≡ 2 * k = omega arith in
    let g : mixed v E (2 * K) ≡ v ^ e * 10000 ^ (2 * k - e) = (λ t. mixed v (he t) (2 * hk t)) ∙ ap (mixed v e) (sym m) ∙ mixed-above v e (2 * k - e) in
    h ∙ (λ t. leb ((is ∙ g) t) (value_of x))
