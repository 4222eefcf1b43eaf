-- ISO 32000-1, 7.3: objects, and one way to write each of them. A text may be laid out in many ways; here a name and a number have one space after them,
-- and nothing else has any.
use Rattle.std.specs.Prelude.{ℕ, zero, suc, ◌+◌, ◌/◌, ◌%◌, Bool, true, false, ◌&&◌, not, cond, List, [], ◌∷◌, ◌++◌, eqb, ltb, leb, ℤ, pos, negsuc, nat_abs, length}
use Rattle.digits.specs.Digits.{digit, digits}
use Rattle.lexical.specs.Chars.{regular}

-- a name and a string, as their bytes; a number in millionths, and a whole number; [ ] << >>
pub data Object : Type 0 where
  name : List ℕ → Object
  text : List ℕ → Object
  number : ℤ → Object
  whole : ℕ → Object
  opens : Object
  closes : Object
  begins : Object
  ends : Object

-- the bytes of each of a list, one after the other
abbrev pub each : {A : Type 0} → (A → List ℕ) → List A → List ℕ
each f [] = []
each f (x ∷ xs) = f x ++ each f xs

-- a hexadecimal digit, 0 to 9 or A to F
abbrev pub hex_digit : ℕ → ℕ
hex_digit d = cond (ltb d 10) (48 + d) (55 + d)

-- 7.3.4.3: a byte as two of them
unfoldable pub pair : ℕ → List ℕ
pair x = hex_digit (x / 16) ∷ hex_digit (x % 16) ∷ []

-- 7.3.5: a byte of a name is written as it is where it is a regular character from ! to ~ and not #
abbrev pub plain : ℕ → Bool
plain x = regular x && (leb 33 x && (leb x 126 && not (eqb x 35)))

-- and any other as # and two hexadecimal digits
unfoldable pub name_byte : ℕ → List ℕ
name_byte x = cond (plain x) (x ∷ []) (35 ∷ pair x)

-- 7.3.3: a minus stands before a number below 0
abbrev pub sign : ℤ → List ℕ
sign (pos n) = []
sign (negsuc n) = 45 ∷ []

-- the last k digits of n
unfoldable pub last_digits : ℕ → ℕ → List ℕ
last_digits zero n = []
last_digits (suc k) n = last_digits k (n / 10) ++ (digit (n % 10) ∷ [])

-- a number in millionths as its sign, its whole part, a point and six digits
unfoldable pub decimal : ℤ → List ℕ
decimal z = sign z ++ (digits (nat_abs z / 1000000) ++ (46 ∷ last_digits 6 (nat_abs z)))

-- what an object is written as
unfoldable pub bare : Object → List ℕ
bare (name w) = 47 ∷ each name_byte w
bare (text w) = 60 ∷ (each pair w ++ (62 ∷ []))
bare (number z) = decimal z
bare (whole n) = digits n
bare opens = 91 ∷ []
bare closes = 93 ∷ []
bare begins = 60 ∷ 60 ∷ []
bare ends = 62 ∷ 62 ∷ []

-- whether a space stands after it
abbrev pub spaced : Object → Bool
spaced (name w) = true
spaced (text w) = false
spaced (number z) = true
spaced (whole n) = true
spaced opens = false
spaced closes = false
spaced begins = false
spaced ends = false

-- that space, or nothing
abbrev pub blank : Bool → List ℕ
blank true = 32 ∷ []
blank false = []

-- an object with the space after it
abbrev pub written : Object → List ℕ
written o = bare o ++ blank (spaced o)

-- ---- what can be written and read back: names and strings of at most 1,024 bytes, no byte of a name being 0; numbers of 32 bits, in millionths

-- each byte is of lo..255
abbrev pub bytes_from : ℕ → List ℕ → Bool
bytes_from lo [] = true
bytes_from lo (x ∷ xs) = (leb lo x && leb x 255) && bytes_from lo xs

-- a number of 32 bits: -2147483648 to 2147483647
abbrev pub small : ℤ → Bool
small (pos n) = leb n 2147483647
small (negsuc n) = leb n 2147483647

-- such an object
abbrev pub writable : Object → Bool
writable (name w) = bytes_from 1 w && leb (length w) 1024
writable (text w) = bytes_from 0 w && leb (length w) 1024
writable (number z) = small z
writable (whole n) = leb n 2147
writable opens = true
writable closes = true
writable begins = true
writable ends = true
