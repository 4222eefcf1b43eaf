-- The tokens of a text one after the other: what stands before the next one, and where it ends.
use Rattle.std.specs.Prelude.{ℕ, ◌<◌, ◌-◌, ◌≡◌, Bool, true, false, cond, List, [], ◌∷◌, eqb, length, drop, Option, Some, None, IfSome}
use Rattle.std.specs.Borrow.{Bor}
use Rattle.lexical.specs.Chars.{white, regular, line_end}
use Rattle.symbols.specs.Tokens.{Token, gap, lexed}
use Rattle.symbols.specs.Symbols.{token_of}
use Rattle.symbols.specs.declared.types.Symbol.{Symbol}

-- what a byte is in a comment (true) or outside one: 0 before the next token, 1 in a comment, 2 the first byte of the next token
abbrev pub place_of : Bool → ℕ → ℕ
place_of true b = cond (line_end b) 0 1
place_of false b = cond (eqb b 37) 1 (cond (white b) 0 2)

-- what follows white space and comments
unfoldable pub skipped : Bool → List ℕ → List ℕ
skipped c [] = []
skipped c (b ∷ l) = cond (eqb (place_of c b) 2) (b ∷ l) (skipped (eqb (place_of c b) 1) l)

-- the regular characters that a text begins with
unfoldable pub run_of : List ℕ → List ℕ
run_of [] = []
run_of (b ∷ l) = cond (regular b) (b ∷ run_of l) []

-- and what follows them
unfoldable pub after_run : List ℕ → List ℕ
after_run [] = []
after_run (b ∷ l) = cond (regular b) (after_run l) (b ∷ l)

-- a token, and those of the text after it; or none
abbrev pub tokens_from : Option (Symbol × Bor (List ℕ)) → List Token
tokens_from (Some r) = token_of r.0 ∷ lexed gap r.1.now
tokens_from None = []

-- r is the first token of a text, with the text after it: a shorter part of the text, at its end
pub record Finds (text : List ℕ) (r : Option (Symbol × Bor (List ℕ))) : Type 0 where
  pub tokens : tokens_from r ≡ lexed gap text
  pub shorter : IfSome r (λ x. length x.1.now < length text)
  pub part : IfSome r (λ x. x.1.now ≡ drop (length text - length x.1.now) text)
