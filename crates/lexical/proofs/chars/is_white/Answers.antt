-- The six tests are the table's entries.
use mathlib.Core.Bool.{or-false}
use Rattle.lexical.specs.Chars.{white}
use Rattle.lexical.proofs.chars.is_white.Goals as goal

pub returns : goal.returns
unfolding white
returns c = rw or-false
