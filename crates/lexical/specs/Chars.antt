-- ISO 32000-1, 7.2.2 and 7.2.3: the characters. A text is bytes, and each is white space, a delimiter or regular. Calculator text has the same.
use Rattle.std.specs.Prelude.{ℕ, ◌+◌, ◌-◌, ◌*◌, ◌%◌, Bool, false, ◌&&◌, ◌||◌, not, cond, List, [], ◌∷◌, eqb, leb}

-- the byte b is one of a table
abbrev pub among : List ℕ → ℕ → Bool
among [] b = false
among (x ∷ xs) b = eqb b x || among xs b

-- Table 1, white-space characters: NUL HT LF FF CR SP
abbrev pub white_space : List ℕ
white_space = 0 ∷ 9 ∷ 10 ∷ 12 ∷ 13 ∷ 32 ∷ []

-- Table 2, delimiter characters: ( ) < > [ ] { } / %
abbrev pub delimiters : List ℕ
delimiters = 40 ∷ 41 ∷ 60 ∷ 62 ∷ 91 ∷ 93 ∷ 123 ∷ 125 ∷ 47 ∷ 37 ∷ []

unfoldable pub white : ℕ → Bool
white b = among white_space b

unfoldable pub delimiter : ℕ → Bool
delimiter b = among delimiters b

-- all other bytes are regular characters
unfoldable pub regular : ℕ → Bool
regular b = not (white b || delimiter b)

-- an end of line is LF, CR, or CR and LF; a comment runs from % to one
abbrev pub line_end : ℕ → Bool
line_end b = eqb b 10 || eqb b 13

-- 0 to 9, and 0 to 7
abbrev pub decimal : ℕ → Bool
decimal b = leb 48 b && leb b 57

abbrev pub octal : ℕ → Bool
octal b = leb 48 b && leb b 55

-- the value of a hexadecimal digit, 0 to 9, A to F or a to f; 16 for any other byte
unfoldable pub hex_of : ℕ → ℕ
hex_of b = cond (leb 48 b && leb b 57) (b - 48) (cond (leb 65 b && leb b 70) (b - 55) (cond (leb 97 b && leb b 102) (b - 87) 16))

-- the byte of two hexadecimal digits
abbrev pub hex_byte : ℕ → ℕ → ℕ
hex_byte d h = d % 16 * 16 + h
