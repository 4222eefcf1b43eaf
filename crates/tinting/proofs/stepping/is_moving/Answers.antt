use mathlib.Core.Path.{refl, ap, ◌∙◌}
use Prim.Native.Nat.{◌<◌}
use native.Mathlib.Omega.{arith}
use lib.IntN.{pos}
use lib.ListN.{get_or, take, length-take}
use lib.Seq.{get_or-take}
use borrow.Author.Rules.{rules}
use Rattle.fixed.specs.Numbers.{outside}
use Rattle.fixed.proofs.Signs.{signed-within}
use Rattle.form.specs.Steps.{tints_outside}
use Rattle.tinting.proofs.Made.{moving-turn}
use Rattle.tinting.proofs.stepping.is_moving.Goals as goal

pub loop-value-init : goal.loop-value-init
unfolding tints_outside
loop-value-init c = refl

pub loop-value-preserved : goal.loop-value-preserved
loop-value-preserved c =
    let lt : c.loop-value.value-index < c.args.t = omega (arith, length-take c.args.t c.args.values.now) in
    moving-turn c.loop-value.value-index c.args.values.now c.loop-value.invariant
    (c.is_outside-moving.ensures ∙ ap (outside (pos 0) (pos 1000000)) (signed-within (get_or (take c.args.t c.args.values.now) c.loop-value.value-index (pos 0)) (search rules) ∙ get_or-take c.args.t c.args.values.now c.loop-value.value-index (pos 0) lt))
