-- The library's saturating operation.
use mathlib.Core.Path.{◌∙◌}
use lib.IntN.{neg_ℤ}
use mir.Syntax.{w32}
use Rattle.std.specs.Int.{saturate_signed}
use Rattle.fixed.proofs.Signs.{signed_is, signed_back}
use Rattle.stack.proofs.Fits.{saturated}
use Rattle.stack.proofs.numbers.negative.Goals as goal

pub returns : goal.returns
returns c =
    let r = c.saturating_neg in signed_is r.result r.type_inv (r.ensures ∙ (λ i. saturate_signed w32 (neg_ℤ (signed_back c.ranges.x i))) ∙ saturated (neg_ℤ c.args.x))
