-- A product by 1 rounds nothing: `mul f x 1` is x, for every x that the format holds (NaN, the infinities and -0 too).
-- Two values that fit and are the same fraction with the same sign are one value, by their bits. Assumes nothing.
use mathlib.Core.Path.{◌≡◌, refl, sym, ap, ◌∙◌, subst}
use Prim.Native.Nat.{ℕ, zero, suc, ◌+◌, ◌-◌, ◌*◌, ◌/◌, ◌%◌, ◌^◌, ◌≤◌, ◌<◌}
use native.Mathlib.Nat.{mul_assoc, mul-one, zero-mul, add_comm, lt_of_lt_of_le, lt_of_not-le, le_of_suc-le-suc, mul_right_comm, not-le_of_lt}
use native.Mathlib.Omega.{arith}
use mathlib.Core.Bool.{Bool, true, false, cond, ◌&&◌}
use lib.Dec.{T, ltb, leb, eqb, ltb→lt, leb→le}
use lib.IntN.{ℤ, pos, negsuc}
use lib.Pow.{pow-add, pow_pos, pow-lt, pow_mono, shl_lt}
use lib.Ieee.{Float, nan, inf, fin, Format, prec, emax, low, up, down, unlike, size, top, hid, round, mul, fits, to_bits, of_bits}
use lib.Ieee.Digits.{back}
use lib.Ieee.Fits.{and_l, and_r, reach, round-fits, down_pos}
use lib.Ieee.Bits.{of_bits-to_bits}
use lib.Ieee.Nearest.{div_same}
use lib.Ieee.Exact.{HasValue, round_exact}

-- 1, as a float
abbrev pub unit : Float
unit = fin false 1 (pos 0)

same_bits : (f : Format) (t s : Bool) (n m : ℕ) (d e : ℤ) → t ≡ s → n * up d * down e ≡ m * up e * down d → to_bits f (fin t n d) ≡ to_bits f (fin s m e)
unfolding to_bits
same_bits f t s n m d e p h =
    let l = 2 ^ low f in
    let q : n * up d * l / down d ≡ m * up e * l / down e = div_same (n * up d * l) (down d) (m * up e * l) (down e) (down_pos d) (down_pos e)
    (mul_right_comm (n * up d) l (down e) ∙ ap (λ (x : ℕ). x * l) h ∙ mul_right_comm (m * up e) (down d) l) in
    λ i. cond (p i) (top f) 0 + (size (q i) - prec f) * hid f + q i / 2 ^ (size (q i) - prec f)

from-value : (f : Format) (x : Float) (s : Bool) (m : ℕ) (e : ℤ) → T (fits f x) → T (fits f (fin s m e)) → HasValue x s (m * up e) (down e) → x ≡ fin s m e
from-value f nan s m e p q v = absurd v
from-value f (inf t) s m e p q v = absurd v
from-value f (fin t n d) s m e p q v = sym (of_bits-to_bits f (fin t n d) p) ∙ ap (of_bits f) (same_bits f t s n m d e v.0 v.1) ∙ of_bits-to_bits f (fin s m e) q

exact : (f : Format) (s : Bool) (m : ℕ) (e : ℤ) (j : ℕ) → T (fits f (fin s m e)) → m < 2 ^ prec f → m * 2 ^ j < 2 ^ (low f + suc (emax f)) → m * up e * 2 ^ low f ≡ m * 2 ^ j * down e
    → round f s (m * up e) (down e) ≡ fin s m e
exact f s m e j t small fine h = from-value f (round f s (m * up e) (down e)) s m e (round-fits f s (m * up e) (down e)) t (round_exact f s (m * up e) (down e) m j (down_pos e) small fine h)

pow_le_back : (i j : ℕ) → 2 ^ i ≤ 2 ^ j → i ≤ j
pow_le_back i j h = le_of_suc-le-suc (lt_of_not-le (λ (g : suc j ≤ i). not-le_of_lt (pow-lt g) h))

-- a value that fits is rounded to itself
pub round-id : (f : Format) (s : Bool) (m : ℕ) (e : ℤ) → T (fits f (fin s m e)) → round f s (m * up e) (down e) ≡ fin s m e
unfolding fits
round-id f s zero e t = exact f s zero e 0 t (pow_pos (prec f)) (subst (λ (x : ℕ). x < 2 ^ (low f + suc (emax f))) (sym (zero-mul 1)) (pow_pos (low f + suc (emax f)))) (simp zero-mul)
round-id f s (suc m) (pos k) t =
    let A = eqb (suc m % 2) 1 in
    let B = ltb (suc m) (2 ^ prec f) in
    let C = leb 1 (2 ^ low f) in
    let D = ltb (suc m * 2 ^ k) (2 ^ suc (emax f) * 1) in
    let split : suc m * 2 ^ (k + low f) ≡ suc m * 2 ^ k * 2 ^ low f = ap (λ (x : ℕ). suc m * x) (pow-add 2 k (low f)) ∙ sym (mul_assoc (suc m) (2 ^ k) (2 ^ low f)) in
    let room : suc m * 2 ^ k < 2 ^ suc (emax f) = subst (λ (x : ℕ). suc m * 2 ^ k < x) (mul-one (2 ^ suc (emax f))) (ltb→lt (suc m * 2 ^ k) (2 ^ suc (emax f) * 1) (and_r (A && B && C) D t)) in
    exact f s (suc m) (pos k) (k + low f) t
    (ltb→lt (suc m) (2 ^ prec f) (and_r A B (and_l (A && B) C (and_l (A && B && C) D t))))
    (subst (λ (x : ℕ). x < 2 ^ (low f + suc (emax f))) (sym split) (subst (λ (x : ℕ). suc m * 2 ^ k * 2 ^ low f < 2 ^ x) (add_comm (suc (emax f)) (low f)) (shl_lt (suc (emax f)) (low f) room)))
    (sym split ∙ sym (mul-one (suc m * 2 ^ (k + low f))))
round-id f s (suc m) (negsuc k) t =
    let A = eqb (suc m % 2) 1 in
    let B = ltb (suc m) (2 ^ prec f) in
    let C = leb (2 ^ suc k) (2 ^ low f) in
    let D = ltb (suc m * 1) (2 ^ suc (emax f) * 2 ^ suc k) in
    let small : suc m < 2 ^ prec f = ltb→lt (suc m) (2 ^ prec f) (and_r A B (and_l (A && B) C (and_l (A && B && C) D t))) in
    let deep : suc k ≤ low f = pow_le_back (suc k) (low f) (leb→le (2 ^ suc k) (2 ^ low f) (and_r (A && B) C (and_l (A && B && C) D t))) in
    let j = low f - suc k in
    exact f s (suc m) (negsuc k) j t small
    (lt_of_lt_of_le (shl_lt (prec f) j small) (pow_mono (fit (prec f) (low f) (suc (emax f)) (suc k) (reach f))))
    (ap (λ (x : ℕ). x * 2 ^ low f) (mul-one (suc m)) ∙ ap (λ (x : ℕ). suc m * 2 ^ x) (sym (back (low f) (suc k) deep)) ∙ ap (λ (x : ℕ). suc m * x) (pow-add 2 j (suc k)) ∙ sym (mul_assoc (suc m) (2 ^ j) (2 ^ suc k)))
  where
    fit : (p l e k : ℕ) → p ≤ e → p + (l - k) ≤ l + e
    fit p l e k h = omega arith

unlike-false : (s : Bool) → unlike s false ≡ s
unlike-false true = refl
unlike-false false = refl

pub mul-1 : (f : Format) (x : Float) → T (fits f x) → mul f x unit ≡ x
unfolding mul
mul-1 f nan t = refl
mul-1 f (inf s) t = ap inf (unlike-false s)
mul-1 f (fin s m e) t =
    (λ i. round f (unlike-false s i) (mul-one (m * up e) i) (mul-one (down e) i)) ∙ round-id f s m e t
