-- No number of its own: six times three zeros.
use mathlib.Core.Path.{◌∙◌}
use Rattle.fixed.proofs.Signs.{signed_back}
use Rattle.c_records.proofs.numbers.bare_numbers.Goals as goal

pub returns : goal.returns
returns c = c.laid.ensures ∙ simp (signed_back c.ranges.kind)
