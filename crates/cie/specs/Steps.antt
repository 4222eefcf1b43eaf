-- FORMAT.md, Colour steps, on f64: each operation rounds once, in the order written.
use Rattle.std.specs.Prelude.{ℕ, zero, suc, ◌/◌, ◌%◌, min, Bool, cond, List, [], ◌∷◌, ℤ, pos, negsuc, ◌+ℤ◌, ◌-ℤ◌, ◌*ℤ◌, Float, eqb, get_or}
use Rattle.std.specs.Int.Signed.{le_z}
use Rattle.std.specs.Float.{binary64, nan}
use Rattle.std.specs.Float.Ieee.{add, mul, div, of_int, of_bits}
use Rattle.fixed.specs.Numbers.{float, most_tenths}
use Rattle.cie.specs.declared.Xyz.{Xyz}
use Rattle.tenths.specs.Tenths.{decoded_tenths}

-- a whole number as a float: exact below 2⁵³
abbrev pub whole : ℕ → Float
whole n = of_int binary64 (pos n)

-- 1.0, by its bits
abbrev pub one : Float
one = of_bits binary64 0x3ff0_0000_0000_0000

-- ---- Decode

-- a gamma in millionths as a count of tenths: none that is carried has more than `most_tenths`
unfoldable pub tenths_of : ℤ → ℕ
tenths_of (pos n) = min (n / 100000) most_tenths
tenths_of (negsuc n) = 0

-- a whole gamma: a to gamma 1 is a; each further unit multiplies the product so far by a
unfoldable pub decoded_whole : Float → ℕ → Float
decoded_whole a zero = a
decoded_whole a (suc zero) = a
decoded_whole a (suc (suc n)) = mul binary64 (decoded_whole a (suc n)) a

-- a component in millionths, decoded by a gamma of p tenths: its float by a whole gamma, itself by any other
unfoldable pub decoded : ℕ → ℤ → Float
decoded p a = cond (eqb (p % 10) 0) (decoded_whole (float a) (p / 10)) (decoded_tenths p a)

-- ---- CalGray

-- the white point of X and Z in millionths; its Y is 1
abbrev pub white_of : ℤ → ℤ → Xyz
white_of xw zw = record { x = float xw; y = one; z = float zw }

-- a the decoded float: X = float(XW) a, Y = a, Z = float(ZW) a
abbrev pub gray_xyz : Xyz → Float → Xyz
gray_xyz w a = record { x = mul binary64 w.x a; y = a; z = mul binary64 w.z a }

-- ---- CalRGB

-- the matrix: three rows of three floats, in the record's order, so that the first row belongs to A
abbrev pub matrix_of : ℤ → ℤ → ℤ → ℤ → ℤ → ℤ → ℤ → ℤ → ℤ → List (List Float)
matrix_of xa ya za xb yb zb xc yc zc =
    (float xa ∷ float ya ∷ float za ∷ [])
    ∷ (float xb ∷ float yb ∷ float zb ∷ [])
    ∷ (float xc ∷ float yc ∷ float zc ∷ [])
    ∷ []

-- the number in row i, column j
abbrev pub entry : List (List Float) → ℕ → ℕ → Float
entry m i j = get_or (get_or m i []) j nan

-- ((p a) + (q b)) + (r c)
abbrev pub dot : Float → Float → Float → Float → Float → Float → Float
dot p q r a b c = add binary64 (add binary64 (mul binary64 p a) (mul binary64 q b)) (mul binary64 r c)

-- X = ((XA a) + (XB b)) + (XC c), likewise Y and Z
abbrev pub rgb_xyz : List (List Float) → Float → Float → Float → Xyz
rgb_xyz m a b c =
    record {
      x = dot (entry m 0 0) (entry m 1 0) (entry m 2 0) a b c;
      y = dot (entry m 0 1) (entry m 1 1) (entry m 2 1) a b c;
      z = dot (entry m 0 2) (entry m 1 2) (entry m 2 2) a b c;
    }

-- ---- Lab, of whole l, a, b in millionths

-- p = 125 (l + 16000000) + 29 a, and n = 50 (l + 16000000) - 29 b
abbrev pub lab_p : ℤ → ℤ → ℤ
lab_p l a = pos 125 *ℤ (l +ℤ pos 16000000) +ℤ pos 29 *ℤ a

abbrev pub lab_n : ℤ → ℤ → ℤ
lab_n l b = pos 50 *ℤ (l +ℤ pos 16000000) -ℤ pos 29 *ℤ b

-- (x x) x
abbrev pub cubed : Float → Float
cubed x = mul binary64 (mul binary64 x x) x

-- the cube of v / top where the test passed, and low / bottom where it did not
unfoldable pub share : Bool → ℤ → Float → ℤ → Float → Float
share t v top low bottom = cond t (cubed (div binary64 (of_int binary64 v) top)) (div binary64 (of_int binary64 low) bottom)

-- first: if p >= 3000000000, p / 14500000000 cubed; else 108 (p - 2000000000) / 12194500000000
abbrev pub first_cubed : ℤ → Bool
first_cubed p = le_z (pos 3000000000) p

unfoldable pub first : ℤ → Float
first p = share (first_cubed p) p (whole 14500000000) (pos 108 *ℤ (p -ℤ pos 2000000000)) (whole 12194500000000)

-- second: if l >= 8000000, (l + 16000000) / 116000000 cubed; else 108 l / 97556000000
abbrev pub second_cubed : ℤ → Bool
second_cubed l = le_z (pos 8000000) l

unfoldable pub second : ℤ → Float
second l = share (second_cubed l) (l +ℤ pos 16000000) (whole 116000000) (pos 108 *ℤ l) (whole 97556000000)

-- third: if n >= 1200000000, n / 5800000000 cubed; else 108 (n - 800000000) / 4877800000000
abbrev pub third_cubed : ℤ → Bool
third_cubed n = le_z (pos 1200000000) n

unfoldable pub third : ℤ → Float
third n = share (third_cubed n) n (whole 5800000000) (pos 108 *ℤ (n -ℤ pos 800000000)) (whole 4877800000000)

-- X = float(XW) g of the first, Y = g of the second, Z = float(ZW) g of the third
abbrev pub lab_xyz : Xyz → ℤ → ℤ → ℤ → Xyz
lab_xyz w l a b = record { x = mul binary64 w.x (first (lab_p l a)); y = second l; z = mul binary64 w.z (third (lab_n l b)) }
