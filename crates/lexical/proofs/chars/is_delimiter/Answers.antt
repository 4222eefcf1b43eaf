-- The ten tests are the table's entries.
use mathlib.Core.Bool.{or-false}
use Rattle.lexical.specs.Chars.{delimiter}
use Rattle.lexical.proofs.chars.is_delimiter.Goals as goal

pub returns : goal.returns
unfolding delimiter
returns c = rw or-false
