-- Half a million more and then the floor is rounding half up, since what raises is a whole number of millions.
use mathlib.Core.Path.{◌∙◌, ap, sym}
use mathlib.Core.Bool.{Bool}
use Rattle.fixed.specs.Numbers.{half_up}
use Rattle.fixed.proofs.Signs.{signed_is}
use Rattle.stack.specs.Operators.{fitted, signed_by}
use Rattle.stack.proofs.Fits.{product-up, product-down}
use Rattle.stack.proofs.numbers.product.Goals as goal

pub returns-then-minus : goal.returns-then-minus
returns-then-minus c =
    signed_is c.fit.result c.fit.type_inv (c.fit.ensures ∙ product-down c.args.p c.requires ∙ ap (λ (t : Bool). fitted (half_up (signed_by t c.args.p) 1000000)) (sym c.if-minus.true))

pub returns : goal.returns
returns c =
    signed_is c.fit-2.result c.fit-2.type_inv (c.fit-2.ensures ∙ product-up c.args.p ∙ ap (λ (t : Bool). fitted (half_up (signed_by t c.args.p) 1000000)) (sym c.if-minus.false))
