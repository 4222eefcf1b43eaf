-- FORMAT.md, Programs, Text and What is refused: what a calculator text is: a program, or refusal 16 for a token that
-- is not carried, a number too fine or too large, too many tokens or bad nesting.
use Rattle.std.specs.Prelude.{ℕ, cond, List, leb, length}
use Rattle.fixed.specs.Sizes.{most_tokens}
use Rattle.stack.specs.Programs.{Code}
use Rattle.symbols.specs.Tokens.{Token, tokens_of}
use Rattle.program.specs.Parse.{State, within, whole, start, bad, count_z, parsed}

-- the program of a text, or that it has none: 16
pub data Read : Type 0 where
  program : Code → Read
  unread : Read

-- a state at the end of the tokens
abbrev pub read_by : State → Read
read_by (within ls l) = unread
read_by (whole c) = program c
read_by start = unread
read_by bad = unread

-- no more than the most tokens, and a whole program
unfoldable pub read_tokens : List Token → Read
read_tokens ts = cond (leb (length ts) most_tokens) (read_by (parsed count_z ts)) unread

-- what stands in a run of blocks
abbrev pub read_of : List ℕ → Read
read_of l = read_tokens (tokens_of l)
