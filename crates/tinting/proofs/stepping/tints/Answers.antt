use mathlib.Core.Path.{ap, ◌∙◌}
use Prim.Native.Nat.{◌<◌}
use native.Mathlib.Omega.{arith}
use lib.IntN.{pos}
use lib.ListN.{get_or, take, length-take}
use lib.Seq.{get_or-take}
use borrow.Author.Rules.{rules}
use Rattle.fixed.specs.Numbers.{limited}
use Rattle.fixed.proofs.Signs.{signed-within, signed_is}
use Rattle.form.specs.Steps.{tints_in}
use Rattle.tinting.proofs.Made.{tint-pushed}
use Rattle.tinting.proofs.stepping.tints.Goals as goal

pub loop-value-init : goal.loop-value-init
unfolding tints_in
loop-value-init c = c.new-stack.ensures

pub loop-value-preserved : goal.loop-value-preserved
loop-value-preserved c =
    let lt : c.loop-value.value-index < c.args.t = omega (arith, length-take c.args.t c.args.values.now) in
    tint-pushed c.loop-value.value-index c.args.values.now (omega arith) c.loop-value.invariant c.push.ensures
    (signed_is c.limit.result c.limit.type_inv (c.limit.ensures ∙ ap (limited (pos 0) (pos 1000000)) (signed-within (get_or (take c.args.t c.args.values.now) c.loop-value.value-index (pos 0)) (search rules) ∙ get_or-take c.args.t c.args.values.now c.loop-value.value-index (pos 0) lt)))
