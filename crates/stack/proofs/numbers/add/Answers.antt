-- The library's saturating operation.
use mathlib.Core.Path.{◌∙◌}
use lib.IntN.{◌+ℤ◌}
use mir.Syntax.{w32}
use Rattle.std.specs.Int.{saturate_signed}
use Rattle.fixed.proofs.Signs.{signed_is, signed_back}
use Rattle.stack.specs.Operators.{sum_of}
use Rattle.stack.proofs.Fits.{saturated}
use Rattle.stack.proofs.numbers.add.Goals as goal

pub returns : goal.returns
unfolding sum_of
returns c =
    let r = c.saturating_add in
    signed_is r.result r.type_inv (r.ensures ∙ (λ i. saturate_signed w32 (signed_back c.ranges.x i +ℤ signed_back c.ranges.y i)) ∙ saturated (c.args.x +ℤ c.args.y))
