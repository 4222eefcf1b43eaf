-- ISO 32000-1, 7.2.3 and 7.3.3 to 7.3.7: what one byte does. First it may end what it is no part of: a token of regular characters, an octal escape, a
-- lone `<`. Then it goes on with what is open, or begins something. Each time at most one thing is handed on: a byte, a token, or bad syntax.
use Rattle.std.specs.Prelude.{ℕ, ◌+◌, ◌-◌, ◌*◌, ◌%◌, Bool, true, false, cond, eqb, ltb}
use Rattle.lexical.specs.Chars.{white, delimiter, regular, line_end, octal, hex_of, hex_byte}
use Rattle.lexer.specs.declared.types.Mode.{Mode}
use Rattle.lexer.specs.declared.types.Mode.TheVariants.{Gap, Comment, Regular, Name, Hash, HashDigit, Less, Greater, Hex, HexDigit, Text, Return, Escape, Octal, Octals}
use Rattle.lexer.specs.declared.types.Token.{Token}
use Rattle.lexer.specs.declared.types.Token.TheVariants.{NameToken, RegularToken, StringToken, ArrayOpen, ArrayClose, DictOpen, DictClose}
use Rattle.lexer.specs.declared.types.Event.TheVariants.{Quiet, Byte, Figure, WellMade, Bad}
use Rattle.lexer.specs.declared.types.Move.{Move}

-- the mode changes, and no more
abbrev pub quiet : Mode → Move
quiet m = record { mode = m; event = Quiet }

-- b is a byte of the name or string that is open
abbrev pub emit : Mode → ℕ → Move
emit m b = record { mode = m; event = Byte b }

-- b is a regular character of a number or keyword
abbrev pub figure : ℕ → Move
figure b = record { mode = Regular; event = Figure b }

-- a token is complete
abbrev pub whole : Token → Move
whole t = record { mode = Gap; event = WellMade t }

abbrev pub bad : Move
bad = record { mode = Gap; event = Bad }

-- ---- between tokens: white space, a comment, or the first byte of a token. { } and ) begin none

unfoldable pub begun : ℕ → Move
begun b =
    cond (white b) (quiet Gap)
    (cond (eqb b 37) (quiet Comment)
    (cond (eqb b 47) (quiet Name)
    (cond (eqb b 40) (quiet (Text 0))
    (cond (eqb b 60) (quiet Less)
    (cond (eqb b 62) (quiet Greater)
    (cond (eqb b 91) (whole ArrayOpen)
    (cond (eqb b 93) (whole ArrayClose)
    (cond (delimiter b) bad (figure b)))))))))

-- ---- 7.3.4.2: a literal string, in d pairs of parentheses of its own. CR, and CR LF, are read as LF

-- one more, as far as 32 bits go: no text is long enough to meet their end
unfoldable pub more : ℕ → ℕ
more x = cond (ltb x 4294967295) (x + 1) x

unfoldable pub in_text : ℕ → ℕ → Move
in_text d b =
    cond (eqb b 40) (emit (Text (more d)) 40)
    (cond (eqb b 41) (cond (eqb d 0) (whole StringToken) (emit (Text (d - 1)) 41))
    (cond (eqb b 92) (quiet (Escape d))
    (cond (eqb b 13) (emit (Return d) 10) (emit (Text d) b))))

-- Table 3: after a backslash n r t b f are LF CR HT BS FF; ( ) \ are themselves, as is any other byte, whose backslash is dropped
unfoldable pub escape_of : ℕ → ℕ
escape_of b = cond (eqb b 110) 10 (cond (eqb b 114) 13 (cond (eqb b 116) 9 (cond (eqb b 98) 8 (cond (eqb b 102) 12 b))))

-- one to three octal digits are a byte; an end of line is passed over
unfoldable pub escaped : ℕ → ℕ → Move
escaped d b =
    cond (octal b) (quiet (Octal d (b - 48)))
    (cond (eqb b 10) (quiet (Text d))
    (cond (eqb b 13) (quiet (Return d)) (emit (Text d) (escape_of b))))

-- one octal digit more; high-order overflow is ignored
abbrev pub octal_byte : ℕ → ℕ → ℕ
octal_byte v b = (v * 8 + (b - 48)) % 256

-- ---- 7.3.4.3: a hexadecimal string, between two pairs of digits, and within one. White space is passed over

unfoldable pub in_hex : ℕ → Move
in_hex b = cond (white b) (quiet Hex) (cond (eqb b 62) (whole StringToken) (cond (ltb (hex_of b) 16) (quiet (HexDigit (hex_of b))) bad))

unfoldable pub in_pair : ℕ → ℕ → Move
in_pair d b = cond (white b) (quiet (HexDigit d)) (cond (ltb (hex_of b) 16) (emit Hex (hex_byte d (hex_of b))) bad)

-- ---- 7.3.5: in a name # stands before the two hexadecimal digits of a byte, which is not 0

unfoldable pub in_hash : ℕ → Move
in_hash b = cond (ltb (hex_of b) 16) (quiet (HashDigit (hex_of b))) bad

unfoldable pub in_hash_pair : ℕ → ℕ → Move
in_hash_pair d b = cond (ltb (hex_of b) 16) (cond (eqb (hex_byte d (hex_of b)) 0) bad (emit Name (hex_byte d (hex_of b)))) bad

-- ---- First, what the byte b ends without being a part of it. A name, number or keyword ends before white space or a delimiter; `<` was a string's
-- unless `<` follows, and `>` stands only before `>`; an odd last hexadecimal digit is followed by 0.

unfoldable pub ended : Mode → ℕ → Move
ended Gap b = quiet Gap
ended Comment b = quiet Comment
ended Regular b = cond (regular b) (quiet Regular) (whole RegularToken)
ended Name b = cond (regular b) (quiet Name) (whole NameToken)
ended Hash b = cond (regular b) (quiet Hash) bad
ended (HashDigit d) b = cond (regular b) (quiet (HashDigit d)) bad
ended Less b = cond (eqb b 60) (quiet Less) (quiet Hex)
ended Greater b = cond (eqb b 62) (quiet Greater) bad
ended Hex b = quiet Hex
ended (HexDigit d) b = cond (eqb b 62) (emit Hex (hex_byte d 0)) (quiet (HexDigit d))
ended (Text d) b = quiet (Text d)
ended (Return d) b = cond (eqb b 10) (quiet (Return d)) (quiet (Text d))
ended (Escape d) b = quiet (Escape d)
ended (Octal d v) b = cond (octal b) (quiet (Octal d v)) (emit (Text d) v)
ended (Octals d v) b = cond (octal b) (quiet (Octals d v)) (emit (Text d) v)

-- ---- Then, what it is a part of.

unfoldable pub joined : Mode → ℕ → Move
joined Gap b = begun b
joined Comment b = cond (line_end b) (quiet Gap) (quiet Comment)
joined Regular b = figure b
joined Name b = cond (eqb b 35) (quiet Hash) (emit Name b)
joined Hash b = in_hash b
joined (HashDigit d) b = in_hash_pair d b
joined Less b = whole DictOpen
joined Greater b = whole DictClose
joined Hex b = in_hex b
joined (HexDigit d) b = in_pair d b
joined (Text d) b = in_text d b
joined (Return d) b = quiet (Text d)
joined (Escape d) b = escaped d b
joined (Octal d v) b = quiet (Octals d (octal_byte v b))
joined (Octals d v) b = emit (Text d) (octal_byte v b)

-- ---- The end of the text ends a name, number or keyword as white space does, and a comment; anything else stays unfinished.

abbrev pub last_move : Mode → Move
last_move Gap = quiet Gap
last_move Comment = quiet Gap
last_move Regular = whole RegularToken
last_move Name = whole NameToken
last_move Hash = bad
last_move (HashDigit d) = bad
last_move Less = quiet Less
last_move Greater = quiet Greater
last_move Hex = quiet Hex
last_move (HexDigit d) = quiet (HexDigit d)
last_move (Text d) = quiet (Text d)
last_move (Return d) = quiet (Return d)
last_move (Escape d) = quiet (Escape d)
last_move (Octal d v) = quiet (Octal d v)
last_move (Octals d v) = quiet (Octals d v)

-- between tokens
abbrev pub is_gap : Mode → Bool
is_gap Gap = true
is_gap Comment = false
is_gap Regular = false
is_gap Name = false
is_gap Hash = false
is_gap (HashDigit d) = false
is_gap Less = false
is_gap Greater = false
is_gap Hex = false
is_gap (HexDigit d) = false
is_gap (Text d) = false
is_gap (Return d) = false
is_gap (Escape d) = false
is_gap (Octal d v) = false
is_gap (Octals d v) = false
