-- A product is that of the sizes, with a minus where just one is negative.
use mathlib.Core.Path.{◌≡◌, ◌∙◌, ap, refl}
use mathlib.Core.Bool.{Bool, true, false, not, beq, cond}
use Prim.Native.Nat.{◌*◌}
use native.Mathlib.Omega.{arith}
use Rattle.fixed.specs.Numbers.{half_up}
use Rattle.fixed.proofs.Signs.{signed_is, signed_back}
use Rattle.stack.specs.Operators.{sum_of, fitted, signed_by}
use Rattle.stack.proofs.Fits.{product_small, product-of}
use Rattle.stack.proofs.numbers.mul.Goals as goal

differ : (s t : Bool) → not (beq s t) ≡ cond s (cond t false true) t
differ true true = refl
differ true false = refl
differ false true = refl
differ false false = refl

pub overflow_mul-m : goal.overflow_mul-m
overflow_mul-m c =
    omega (arith, product_small c.size_of-m.result c.size_of-n.result c.size_of-m.ensures.small c.size_of-n.ensures.small)

pub product-requires : goal.product-requires
product-requires c =
    product_small c.size_of-m.result c.size_of-n.result c.size_of-m.ensures.small c.size_of-n.ensures.small

pub returns : goal.returns
unfolding sum_of
returns c =
    let made = λ (b : Bool). fitted (half_up (signed_by b (c.size_of-m.result * c.size_of-n.result)) 1000000) in
    signed_is c.product.result c.product.type_inv (c.product.ensures ∙ (ap made (differ _ _) ∙ product-of c.args.x c.args.y _ _ (signed_back c.ranges.x) (signed_back c.ranges.y) refl refl c.size_of-m.ensures.is c.size_of-n.ensures.is))
