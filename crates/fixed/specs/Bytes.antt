-- FORMAT.md, The page: numbers are big-endian, signed ones in two's complement. A byte past the end of a list is 0.
use Rattle.std.specs.Prelude.{ℕ, ◌+◌, ◌*◌, ◌/◌, ◌%◌, Bool, ◌||◌, List, [], ◌∷◌, eqb, get_or, drop, ℤ}
use Rattle.std.specs.Int.{w32}
use Rattle.std.proofs.Common.{to_z, of_z}

-- the most blocks of a page
abbrev pub blocks : ℕ
blocks = 128

-- a reference is a block number, or FF01, FF03, FF04 for DeviceGray, RGB, CMYK
abbrev pub gray_code : ℕ
gray_code = 0xFF01

abbrev pub rgb_code : ℕ
rgb_code = 0xFF03

abbrev pub cmyk_code : ℕ
cmyk_code = 0xFF04

abbrev pub device : ℕ → Bool
device n = eqb n gray_code || (eqb n rgb_code || eqb n cmyk_code)

-- the bytes from block n of a page on: its byte 0 is the block's byte 0
abbrev pub block_at : List ℕ → ℕ → List ℕ
block_at page n = drop (512 * n) page

abbrev pub byte_at : List ℕ → ℕ → ℕ
byte_at b at = get_or b at 0

-- the number in the two bytes from `at` on
abbrev pub two_at : List ℕ → ℕ → ℕ
two_at b at = byte_at b at * 256 + byte_at b (at + 1)

-- and in the four bytes from `at` on
abbrev pub four_at : List ℕ → ℕ → ℕ
four_at b at = ((byte_at b at * 256 + byte_at b (at + 1)) * 256 + byte_at b (at + 2)) * 256 + byte_at b (at + 3)

-- the number whose 32 bits are n, in two's complement: n below 2³¹, and n − 2³² from there on; and the bits of a number
abbrev pub signed : ℕ → ℤ
signed n = to_z w32 n

abbrev pub bits : ℤ → ℕ
bits z = of_z w32 z

-- the signed number in the four bytes from `at` on
unfoldable pub number_at : List ℕ → ℕ → ℤ
number_at b at = signed (four_at b at)

-- the bytes of a number of two bytes, of four, and of a signed one
unfoldable pub two_bytes : ℕ → List ℕ
two_bytes n = n / 256 % 256 ∷ n % 256 ∷ []

unfoldable pub four_bytes : ℕ → List ℕ
four_bytes n = n / 16777216 % 256 ∷ n / 65536 % 256 ∷ n / 256 % 256 ∷ n % 256 ∷ []

abbrev pub number_bytes : ℤ → List ℕ
number_bytes z = four_bytes (bits z)
