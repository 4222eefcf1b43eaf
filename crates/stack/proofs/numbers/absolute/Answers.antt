-- The two branches of the definition.
use mathlib.Core.Path.{◌∙◌}
use Rattle.fixed.proofs.Signs.{signed_back, signed_is}
use Rattle.stack.specs.Operators.{one_of}
use Rattle.stack.proofs.numbers.absolute.Goals as goal

pub returns-then-x-lt0 : goal.returns-then-x-lt0
unfolding one_of
returns-then-x-lt0 c =
    signed_is c.negative.result c.negative.type_inv (c.negative.ensures ∙ simp (signed_back c.ranges.x) (simp (simp (signed_back c.ranges.x) at c.if-x-lt0.true)))

pub returns : goal.returns
unfolding one_of
returns c = simp (signed_back c.ranges.x) (simp (simp (signed_back c.ranges.x) at c.if-x-lt0.false))
