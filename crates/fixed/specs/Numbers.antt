-- FORMAT.md, Numbers, and the whole-number parts of Colour steps. A number is a count of millionths.
use Rattle.std.specs.Prelude.{◌≡◌, Bool, false, cond, ◌&&◌, ◌||◌, List, ℕ, zero, suc, ◌+◌, ◌*◌, ◌/◌, ◌%◌, ◌<◌, ℤ, pos, negsuc, ◌+ℤ◌, ◌-ℤ◌, ◌*ℤ◌, Float, eqb, leb, length, get_or}
use Rattle.std.specs.Float.{binary64}
use Rattle.std.specs.Float.Ieee.{div, of_int, of_bits}
use Rattle.std.specs.Int.Signed.{lt_z}

-- 1000000.0, by its bits
abbrev pub million : Float
million = of_bits binary64 0x412e_8480_0000_0000

-- the float of v: v as f64 divided by 1000000.0
abbrev pub float : ℤ → Float
float v = div binary64 (of_int binary64 v) million

-- the nearest to v in lo..hi
unfoldable pub limited : ℤ → ℤ → ℤ → ℤ
limited lo hi v = cond (lt_z v lo) lo (cond (lt_z hi v) hi v)

-- whether limiting v to lo..hi moves it: it lies outside
unfoldable pub outside : ℤ → ℤ → ℤ → Bool
outside lo hi v = lt_z v lo || lt_z hi v

-- the floor of z / m: that of -(n + 1) / m is -(n / m + 1)
abbrev pub floor_div : ℤ → ℕ → ℤ
floor_div (pos n) m = pos (n / m)
floor_div (negsuc n) m = negsuc (n / m)

-- n / d rounded half up: the floor of n / d + 1 / 2, which is (2n + d) / 2d
abbrev pub half_up : ℤ → ℕ → ℤ
half_up n d = floor_div (pos 2 *ℤ n +ℤ pos d) (2 * d)

-- the same of a number that is not negative
abbrev pub half_upℕ : ℕ → ℕ → ℕ
half_upℕ n d = (2 * n + d) / (2 * d)

-- x + q (y - x) / d, rounded half up
unfoldable pub part_way : ℕ → ℕ → ℤ → ℤ → ℤ
part_way d q x y = half_up (pos d *ℤ x +ℤ pos q *ℤ (y -ℤ x)) d

-- a palette byte v in a range lo..hi: the whole number nearest to lo + v (hi - lo) / 255. None lies midway, since 255 is odd: specs/Nearest.antt states it
unfoldable pub palette_value : ℕ → ℤ → ℤ → ℤ
palette_value v lo hi = lo +ℤ floor_div (pos v *ℤ (hi -ℤ lo) +ℤ pos 127) 255

-- a table of the values over 0..1 of the first bytes, as many as it has entries
unfoldable pub OverOne : List ℕ → Type 0
OverOne t = (k : ℕ) → k < length t → pos (get_or t k 0) ≡ palette_value k (pos 0) (pos 1000000)

-- an index: v rounded half up to an integer, then taken to the nearest in 0..hival
abbrev pub round_index : ℤ → ℕ → ℤ
round_index v hival = limited (pos 0) (pos hival) (half_up v 1000000)

-- whether limiting it to 0..hival moves the integer; rounding alone moves nothing
unfoldable pub index_outside : ℤ → ℕ → Bool
index_outside v hival = outside (pos 0) (pos hival) (half_up v 1000000)

-- a tint x of 0..1000000 to an exponent: q = x; each further unit makes q the half-up rounding of q x / 1000000
unfoldable pub tint_power : ℕ → ℕ → ℕ
tint_power x zero = x
tint_power x (suc zero) = x
tint_power x (suc (suc n)) = half_upℕ (tint_power x (suc n) * x) 1000000

-- a component of the alternate space: c₀ + q (c₁ - c₀) / 1000000, rounded half up
abbrev pub tint_value : ℤ → ℤ → ℕ → ℤ
tint_value c₀ c₁ q = part_way 1000000 q c₀ c₁

-- ---- FORMAT.md, Sizes and house limits: each exponent is whole, 1 to 4, and each gamma a whole count of tenths, 0.1 to 4.0

abbrev pub greatest : ℕ
greatest = 4

-- an exponent, which counts units
abbrev pub exponent_supported : ℕ → Bool
exponent_supported e = leb 1 e && leb e greatest

-- the greatest gamma, in tenths
abbrev pub most_tenths : ℕ
most_tenths = 40

-- a gamma, in millionths
unfoldable pub gamma_supported : ℤ → Bool
gamma_supported (pos n) = eqb (n % 100000) 0 && (leb 1 (n / 100000) && leb (n / 100000) most_tenths)
gamma_supported (negsuc n) = false
