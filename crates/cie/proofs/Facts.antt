-- Facts of colours that FORMAT.md has among its worked values, from the definitions alone.
use mathlib.Core.Path.{◌≡◌, refl, sym, ap, ◌∙◌, subst}
use mathlib.Core.Bool.{true, false, true≢false}
use Prim.Native.Nat.{ℕ, zero, suc, ◌*◌, ◌/◌, ◌%◌, ◌^◌, ◌≤◌, ◌<◌}
use native.Mathlib.Nat.{mul_comm, mul_assoc, mul-zero, zero-mul, mul-pos}
use native.Mathlib.Omega.{arith}
use lib.Dec.{T, eqb, lit<}
use borrow.Author.Tests.{eqb-false}
use lib.IntN.{ℤ, pos, negsuc}
use lib.Ieee.{Float, nan, inf, fin, binary64, mul, div, of_int, of_bits, fits, up, down, round}
use lib.Ieee.Fits.{div-fits, down_pos}
use lib.Ieee.Exact.{HasValue}
use lib.Ieee.Back.{round_whole}
use lib.Ieee.Scale.{round_same}
use lib.Ieee.Order.{round_mono}
use lib.Ieee.Positive.{positive, between}
use Rattle.cie.specs.declared.GrayClosing.{GrayClosing}
use Rattle.cie.specs.declared.LabClosing.{LabClosing}
use Rattle.fixed.specs.Numbers.{float, million, limited}
use Rattle.fixed.proofs.Decide.{cond_ind}
use Rattle.tenths.specs.Tenths.{decoded_tenths}
use Rattle.cie.specs.Steps.{whole, one, tenths_of, decoded_whole, decoded, white_of, gray_xyz, lab_p, lab_n, first, second, third, share, cubed}
use Rattle.cie.specs.Closings.{cal_gray_of, cal_lab_of}
use Rattle.cie.proofs.One.{unit, mul-1}
use Rattle.tenths.proofs.Settled.{settled-white, settled-black}

-- n / d, as floats
abbrev pub ratio : ℤ → ℕ → Float
ratio n d = div binary64 (of_int binary64 n) (whole d)

-- 1.0 is the float of 1000000 millionths
pub one-is : one ≡ unit
unfolding of_bits
one-is = refl

pub one_float : float (pos 1000000) ≡ one
unfolding of_bits of_int div
one_float = refl

unit-fits : T (fits binary64 unit)
unfolding fits
unit-fits = tt

float_fits : (v : ℤ) → T (fits binary64 (float v))
float_fits v = div-fits binary64 (of_int binary64 v) million

by_one : (v : ℤ) → mul binary64 (float v) one ≡ float v
by_one v = ap (mul binary64 (float v)) one-is ∙ mul-1 binary64 (float v) (float_fits v)

-- ---- 1 is decoded to exactly 1.0 by every gamma, in units and in tenths, so CalGray 1 is the white point

whole-one : (n : ℕ) → decoded_whole unit n ≡ unit
unfolding decoded_whole
whole-one zero = refl
whole-one (suc zero) = refl
whole-one (suc (suc n)) = ap (λ (x : Float). mul binary64 x unit) (whole-one (suc n)) ∙ mul-1 binary64 unit unit-fits

tenths-one : (p : ℕ) → decoded_tenths p (pos 1000000) ≡ one
unfolding decoded_tenths limited div of_int of_bits
tenths-one p = simp (settled-white p)

pub decoded-one : (p : ℕ) → decoded p (pos 1000000) ≡ one
unfolding decoded
decoded-one p =
    cond_ind (λ (x : Float). x ≡ one) (eqb (p % 10) 0)
    (λ _. ap (λ (x : Float). decoded_whole x (p / 10)) (one_float ∙ one-is) ∙ (whole-one (p / 10) ∙ sym one-is))
    (λ _. tenths-one p)

pub gray-white : (k : GrayClosing) → cal_gray_of k (pos 1000000) ≡ white_of k.xw k.zw
gray-white k = ap (gray_xyz (white_of k.xw k.zw)) (decoded-one (tenths_of k.gamma)) ∙ (λ i. record { x = by_one k.xw i; y = one; z = by_one k.zw i })

-- ---- Lab (100, 0, 0) is the white point

first-white : first (lab_p (pos 100000000) (pos 0)) ≡ one
unfolding first share mul div of_int of_bits
first-white = refl

second-white : second (pos 100000000) ≡ one
unfolding second share mul div of_int of_bits
second-white = refl

third-white : third (lab_n (pos 100000000) (pos 0)) ≡ one
unfolding third share mul div of_int of_bits
third-white = refl

pub lab-white : (k : LabClosing) → cal_lab_of k (pos 100000000) (pos 0) (pos 0) ≡ white_of k.xw k.zw
lab-white k = rw (first-white, second-white, third-white, by_one k.xw, by_one k.zw)

-- ---- zeros, for a white point above zero: CalGray -3, which is limited to 0, and Lab (0, 0, 0)

-- 0.0
abbrev pub nought : Float
nought = fin false 0 (pos 0)

first-black : first (lab_p (pos 0) (pos 0)) ≡ nought
unfolding first share mul div of_int
first-black = refl

second-black : second (pos 0) ≡ nought
unfolding second share mul div of_int
second-black = refl

third-black : third (lab_n (pos 0) (pos 0)) ≡ nought
unfolding third share mul div of_int
third-black = refl

round-nought : (d : ℕ) → 0 < d → round binary64 false 0 d ≡ nought
unfolding round
round-nought d h = round_same binary64 false 0 d 0 1 h (lit< tt) (zero-mul 1 ∙ sym (zero-mul d))

pub mul-nought : (x : Float) → T (positive x) → mul binary64 x nought ≡ nought
unfolding mul
mul-nought (fin false m e) t = ap (λ (n : ℕ). round binary64 false n (down e * 1)) (mul-zero (m * up e)) ∙ round-nought (down e * 1) (mul-pos (down_pos e) (lit< tt))
mul-nought (fin true m e) t = absurd t
mul-nought (inf s) t = absurd t
mul-nought nan t = absurd t

-- the float of v millionths is v / 1000000, rounded once
over-million : (x : Float) (v : ℕ) → HasValue x false v 1 → div binary64 x million ≡ round binary64 false v 1000000
unfolding div of_bits
over-million nan v h = absurd h
over-million (inf s) v h = absurd h
over-million (fin true m e) v h = absurd (true≢false h.0)
over-million (fin false m e) v h = round_same binary64 false (m * up e * 1) (15625 * 64 * down e) v 1000000 (mul-pos (lit< tt) (down_pos e)) (lit< tt)
    (ap (λ (x : ℕ). x * 1000000) h.1 ∙ mul_assoc v (down e) 1000000 ∙ ap (λ (x : ℕ). v * x) (mul_comm (down e) 1000000))

pub float_is : (v : ℕ) → v ≤ 2 ^ 53 → float (pos v) ≡ round binary64 false v 1000000
unfolding of_int
float_is v h = over-million (round binary64 false v 1) v (round_whole binary64 false v h)

ends : T (positive (round binary64 false 1 1000000)) × T (positive (round binary64 false 2147483648 1000000))
unfolding round
ends = (tt, tt)

pub float-positive : (v : ℕ) → 0 < v → v < 2 ^ 31 → T (positive (float (pos v)))
float-positive v p h =
    subst (λ (x : Float). T (positive x)) (sym (float_is v (omega arith)))
    (between (round binary64 false 1 1000000) (round binary64 false v 1000000) (round binary64 false 2147483648 1000000) ends.0 ends.1
    (round_mono binary64 1 1000000 v 1000000 (lit< tt) (lit< tt) (omega arith)) (round_mono binary64 v 1000000 2147483648 1000000 (lit< tt) (lit< tt) (omega arith)))

-- the white point is above 0, and of 32 bits
pub record Above (v : ℤ) : Type 0 where
  pub size : ℕ
  pub is : v ≡ pos size
  pub low : 0 < size
  pub high : size < 2 ^ 31

by-nought : {v : ℤ} → Above v → mul binary64 (float v) nought ≡ nought
by-nought {v} a = ap (λ (z : ℤ). mul binary64 (float z) nought) a.is ∙ mul-nought (float (pos a.size)) (float-positive a.size a.low a.high)

float-0 : float (pos 0) ≡ nought
unfolding of_bits of_int div
float-0 = refl

nought-twice : mul binary64 nought nought ≡ nought
unfolding mul
nought-twice = refl

-- and 0 to 0, by every gamma
whole-nought : (n : ℕ) → decoded_whole nought n ≡ nought
unfolding decoded_whole
whole-nought zero = refl
whole-nought (suc zero) = refl
whole-nought (suc (suc n)) = ap (λ (x : Float). mul binary64 x nought) (whole-nought (suc n)) ∙ nought-twice

tenths-nought : (p : ℕ) → 1 ≤ p → decoded_tenths p (pos 0) ≡ nought
unfolding decoded_tenths limited div of_int of_bits
tenths-nought p h = simp (settled-black p h)

pub decoded-nought : (p : ℕ) → decoded p (pos 0) ≡ nought
unfolding decoded
decoded-nought p =
    cond_ind (λ (x : Float). x ≡ nought) (eqb (p % 10) 0)
    (λ _. ap (λ (x : Float). decoded_whole x (p / 10)) float-0 ∙ whole-nought (p / 10))
    (λ e. tenths-nought p (some p (eqb-false (p % 10) 0 e)))
  where
    some : (p : ℕ) → (p % 10 ≡ 0 → ⊥) → 1 ≤ p
    some zero h = absurd (h refl)
    some (suc p) h = omega arith

limited-minus-three : limited (pos 0) (pos 1000000) (negsuc 2999999) ≡ pos 0
unfolding limited
limited-minus-three = refl

pub gray-black : (k : GrayClosing) → Above k.xw → Above k.zw → cal_gray_of k (limited (pos 0) (pos 1000000) (negsuc 2999999)) ≡ record { x = nought; y = nought; z = nought }
gray-black k a b = ap (gray_xyz (white_of k.xw k.zw)) none ∙ (λ i. record { x = by-nought a i; y = nought; z = by-nought b i })
  where
    none : decoded (tenths_of k.gamma) (limited (pos 0) (pos 1000000) (negsuc 2999999)) ≡ nought
    none = ap (decoded (tenths_of k.gamma)) limited-minus-three ∙ decoded-nought (tenths_of k.gamma)

pub lab-black : (k : LabClosing) → Above k.xw → Above k.zw → cal_lab_of k (pos 0) (pos 0) (pos 0) ≡ record { x = nought; y = nought; z = nought }
lab-black k a b = rw (first-black, second-black, third-black, by-nought a, by-nought b)

-- ---- Lab: at L* = 8 with a* = b* = 0 each is a cube, and at 7.999999 none is
pub at_8 : (first (lab_p (pos 8000000) (pos 0)) ≡ cubed (ratio (pos 3000000000) 14500000000)) × (second (pos 8000000) ≡ cubed (ratio (pos 24000000) 116000000)) × (third (lab_n (pos 8000000) (pos 0)) ≡ cubed (ratio (pos 1200000000) 5800000000))
unfolding first second third share
at_8 = (refl, refl, refl)

pub below-8 : (first (lab_p (pos 7999999) (pos 0)) ≡ ratio (pos 107999986500) 12194500000000) × (second (pos 7999999) ≡ ratio (pos 863999892) 97556000000) × (third (lab_n (pos 7999999) (pos 0)) ≡ ratio (pos 43199994600) 4877800000000)
unfolding first second third share
below-8 = (refl, refl, refl)
