-- A byte is regular where it is of neither table.
use mathlib.Core.Bool.{not, ◌||◌}
use Rattle.lexical.specs.Chars.{regular}
use Rattle.lexical.proofs.chars.is_regular.Goals as goal

pub returns : goal.returns
unfolding regular
returns c = λ i. not (c.is_white.ensures i || c.is_delimiter.ensures i)
