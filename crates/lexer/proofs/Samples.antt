-- Small texts, computed: numbers at their ends, and the tokens of a line.
use mathlib.Core.Path.{◌≡◌, refl}
use mathlib.Core.Bool.{true, false}
use mathlib.Core.List.{List, [], ◌∷◌}
use Prim.Native.Nat.{ℕ}
use lib.IntN.{pos, negsuc}
use Rattle.lexical.specs.Chars.{white, delimiter, regular, hex_of}
use Rattle.lexical.specs.Numbers.{numeric, with_digit, with_other, with_figure, after_other, number_of, scale_of, fits, value_of, exactly}
use Rattle.lexer.specs.Moves.{begun, more, in_text, escape_of, escaped, in_hex, in_pair, in_hash, in_hash_pair, ended, joined}
use Rattle.lexer.specs.Scans.{Progress, going, stopped, Lexeme, start, after, begun_word, placed, taken, handed, joins, step_of, fed, finished, tokens_of}
use Rattle.lexer.specs.declared.types.Token.{Token}
use Rattle.lexer.specs.declared.types.Token.TheVariants.{NameToken, RegularToken, StringToken, ArrayOpen, DictClose}

-- -1.5 is -1500000, and +.5 is 500000
pub minus : value_of (number_of (45 ∷ 49 ∷ 46 ∷ 53 ∷ [])) ≡ negsuc 1499999
unfolding value_of number_of with_figure with_digit with_other after_other scale_of
minus = refl

pub plus : value_of (number_of (43 ∷ 46 ∷ 53 ∷ [])) ≡ pos 500000
unfolding value_of number_of with_figure with_digit with_other after_other scale_of
plus = refl

-- 2147.483647 has a value and 2147.483648 none; -2147.483648 has one
pub largest : fits (number_of (50 ∷ 49 ∷ 52 ∷ 55 ∷ 46 ∷ 52 ∷ 56 ∷ 51 ∷ 54 ∷ 52 ∷ 55 ∷ [])) ≡ true
unfolding fits number_of with_figure with_digit with_other after_other scale_of
largest = refl

pub too_large : fits (number_of (50 ∷ 49 ∷ 52 ∷ 55 ∷ 46 ∷ 52 ∷ 56 ∷ 51 ∷ 54 ∷ 52 ∷ 56 ∷ [])) ≡ false
unfolding fits number_of with_figure with_digit with_other after_other scale_of
too_large = refl

pub smallest : fits (number_of (45 ∷ 50 ∷ 49 ∷ 52 ∷ 55 ∷ 46 ∷ 52 ∷ 56 ∷ 51 ∷ 54 ∷ 52 ∷ 56 ∷ [])) ≡ true
unfolding fits number_of with_figure with_digit with_other after_other scale_of
smallest = refl

-- 2.0000000 is too fine, and still exactly 2
pub too_fine : fits (number_of (50 ∷ 46 ∷ 48 ∷ 48 ∷ 48 ∷ 48 ∷ 48 ∷ 48 ∷ 48 ∷ [])) ≡ false
unfolding fits number_of with_figure with_digit with_other after_other scale_of
too_fine = refl

pub exact : exactly (number_of (50 ∷ 46 ∷ 48 ∷ 48 ∷ 48 ∷ 48 ∷ 48 ∷ 48 ∷ 48 ∷ [])) 2 ≡ true
unfolding exactly number_of with_figure with_digit with_other after_other scale_of
exact = refl

-- a sign or a point alone, --5 and 1e5 are no numbers
pub sign-alone : numeric (number_of (45 ∷ [])).part ≡ false
unfolding number_of with_figure with_digit with_other after_other
sign-alone = refl

pub two-signs : numeric (number_of (45 ∷ 45 ∷ 53 ∷ [])).part ≡ false
unfolding number_of with_figure with_digit with_other after_other
two-signs = refl

pub exponent : numeric (number_of (49 ∷ 101 ∷ 53 ∷ [])).part ≡ false
unfolding number_of with_figure with_digit with_other after_other
exponent = refl

-- where the tokens of a text begin, and which they are
abbrev places_of : List Lexeme → List ℕ
places_of [] = []
places_of (x ∷ xs) = x.at ∷ places_of xs

abbrev tokens_in : List Lexeme → List Token
tokens_in [] = []
tokens_in (x ∷ xs) = x.token ∷ tokens_in xs

abbrev lexemes_of : Progress (List Lexeme) → List Lexeme
lexemes_of (going s ts) = ts
lexemes_of (stopped n at) = []

-- /N#41 7[(a\)\101)<4>>> is a name, a number, [, two strings and >>
abbrev line : List ℕ
line = 47 ∷ 78 ∷ 35 ∷ 52 ∷ 49 ∷ 32 ∷ 55 ∷ 91 ∷ 40 ∷ 97 ∷ 92 ∷ 41 ∷ 92 ∷ 49 ∷ 48 ∷ 49 ∷ 41 ∷ 60 ∷ 52 ∷ 62 ∷ 62 ∷ 62 ∷ []

pub line-places : places_of (lexemes_of (tokens_of line)) ≡ 0 ∷ 6 ∷ 7 ∷ 8 ∷ 17 ∷ 20 ∷ []
unfolding tokens_of finished fed step_of joins handed taken start after begun_word placed more begun in_text escape_of escaped in_hex in_pair in_hash in_hash_pair ended joined white delimiter regular with_figure with_digit with_other after_other hex_of
line-places = refl

pub line-tokens : tokens_in (lexemes_of (tokens_of line)) ≡ NameToken ∷ RegularToken ∷ ArrayOpen ∷ StringToken ∷ StringToken ∷ DictClose ∷ []
unfolding tokens_of finished fed step_of joins handed taken start after begun_word placed more begun in_text escape_of escaped in_hex in_pair in_hash in_hash_pair ended joined white delimiter regular with_figure with_digit with_other after_other hex_of
line-tokens = refl
