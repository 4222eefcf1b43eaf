-- FORMAT.md, Programs, Text; clause 7.10.5 with 7.2: the tokens of a calculator text. White space and comments separate
-- them; a brace is one by itself; a run of regular characters is a number or a name. A token that is not carried, and a
-- number too fine or too large, is `other`.
use Rattle.std.specs.Prelude.{ℕ, cond, List, [], ◌∷◌, ◌++◌, ℤ, pos, eqb, ltb}
use Prim.Native.Char.{code}
use Prim.Native.String.{String, [] as []ˢ, ◌∷◌ as ◌∷ˢ◌}
use Rattle.lexical.specs.Names.{same}
use Rattle.stack.specs.Programs.{Op}
use Rattle.stack.specs.Flat.{plain_by}
use Rattle.lexical.specs.Chars.{white, regular, line_end}
use Rattle.lexical.specs.Numbers.{numeric, number_of, fits, value_of}

-- a token of the text; `other`: no token that is carried, or a number too fine or too large
pub data Token : Type 0 where
  opens : Token
  closes : Token
  if_t : Token
  ifelse_t : Token
  copy_t : Token
  index_t : Token
  roll_t : Token
  num_t : ℤ → Token
  op_t : Op → Token
  other : Token

-- a token by its code, and its value where it is a number: the codes of the flat form, with 5 for if, 6 for ifelse, 26 and 27 for the braces
unfoldable pub token_by : ℕ → ℤ → Token
token_by t z =
    cond (eqb t 26) opens
    (cond (eqb t 27) closes
    (cond (eqb t 5) if_t
    (cond (eqb t 6) ifelse_t
    (cond (eqb t 1) (num_t z)
    (cond (eqb t 2) copy_t
    (cond (eqb t 3) index_t
    (cond (eqb t 4) roll_t
    (cond (ltb t 7) other
    (cond (ltb 25 t) other (op_t (plain_by t)))))))))))

-- the bytes of a name, a byte for each character
abbrev pub bytes : String → List ℕ
bytes []ˢ = []
bytes (c ∷ˢ s) = code c ∷ bytes s

-- ---- the code of a name, 0 where it is none of these

unfoldable pub stack_named : List ℕ → ℕ
stack_named w = cond (same w (bytes "pop")) 23 (cond (same w (bytes "exch")) 24 (cond (same w (bytes "dup")) 25 0))

unfoldable pub truth_named : List ℕ → ℕ
truth_named w =
    cond (same w (bytes "and")) 16
    (cond (same w (bytes "or")) 17
    (cond (same w (bytes "not")) 20
    (cond (same w (bytes "true")) 21
    (cond (same w (bytes "false")) 22 (stack_named w)))))

unfoldable pub test_named : List ℕ → ℕ
test_named w =
    cond (same w (bytes "eq")) 10
    (cond (same w (bytes "ne")) 11
    (cond (same w (bytes "gt")) 12
    (cond (same w (bytes "ge")) 13
    (cond (same w (bytes "lt")) 14
    (cond (same w (bytes "le")) 15 (truth_named w))))))

unfoldable pub sum_named : List ℕ → ℕ
sum_named w =
    cond (same w (bytes "add")) 7
    (cond (same w (bytes "sub")) 8
    (cond (same w (bytes "mul")) 9
    (cond (same w (bytes "neg")) 18
    (cond (same w (bytes "abs")) 19 (test_named w)))))

unfoldable pub named : List ℕ → ℕ
named w =
    cond (same w (bytes "copy")) 2
    (cond (same w (bytes "index")) 3
    (cond (same w (bytes "roll")) 4
    (cond (same w (bytes "if")) 5
    (cond (same w (bytes "ifelse")) 6 (sum_named w)))))

-- ---- a text

-- the token of a run of regular characters
unfoldable pub word_token : List ℕ → Token
word_token w = cond (numeric (number_of w).part) (cond (fits (number_of w)) (num_t (value_of (number_of w))) other) (token_by (named w) (pos 0))

-- the token of a delimiter: { } ; ( ) < > [ ] / are not carried
unfoldable pub brace_token : ℕ → Token
brace_token b = cond (eqb b 123) opens (cond (eqb b 125) closes other)

-- between tokens, in a comment, or in a run of regular characters
pub data Mode : Type 0 where
  gap comment : Mode
  run : List ℕ → Mode

-- what a byte that is not regular comes to, with the tokens after it: between tokens, or in a comment
abbrev pub between : ℕ → List Token → List Token → List Token
between b after commented = cond (white b) after (cond (eqb b 37) commented (brace_token b ∷ after))

-- the tokens of a text: a comment goes from % to the end of its line
unfoldable pub lexed : Mode → List ℕ → List Token
lexed gap [] = []
lexed comment [] = []
lexed (run w) [] = word_token w ∷ []
lexed gap (b ∷ l) = cond (regular b) (lexed (run (b ∷ [])) l) (between b (lexed gap l) (lexed comment l))
lexed comment (b ∷ l) = cond (line_end b) (lexed gap l) (lexed comment l)
lexed (run w) (b ∷ l) = cond (regular b) (lexed (run (w ++ (b ∷ []))) l) (word_token w ∷ between b (lexed gap l) (lexed comment l))

-- the first zero byte ends a text
unfoldable pub before_zero : List ℕ → List ℕ
before_zero [] = []
before_zero (b ∷ l) = cond (eqb b 0) [] (b ∷ before_zero l)

-- the tokens of what stands in a run of blocks
abbrev pub tokens_of : List ℕ → List Token
tokens_of l = lexed gap (before_zero l)
