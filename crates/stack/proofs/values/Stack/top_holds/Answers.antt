-- The top is read and compared with 0.
use Rattle.fixed.proofs.Signs.{signed-within}
use mathlib.Core.Path.{◌∙◌, ap}
use lib.Signed.{lt_z}
use lib.IntN.{pos}
use Rattle.stack.proofs.values.Stack.top_holds.Goals as goal

pub returns : goal.returns
returns c = ap (lt_z (pos 0)) (signed-within c.value_at.result c.value_at.type_inv ∙ c.value_at.ensures)
