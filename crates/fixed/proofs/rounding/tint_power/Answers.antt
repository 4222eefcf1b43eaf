use mathlib.Core.Path.{refl}
use native.Mathlib.Omega.{arith}
use Rattle.fixed.specs.Numbers.{tint_power}
use Rattle.fixed.proofs.Powers.{power_small, power_le, power-turn, power-end}
use Rattle.fixed.proofs.rounding.tint_power.Goals as goal

pub loop-init : goal.loop-init
unfolding tint_power
loop-init c = (refl, omega arith, omega arith)

pub overflow_mul-q : goal.overflow_mul-q
overflow_mul-q c = omega (arith, power_small c.loop.q c.args.x c.loop.invariant.1 c.requires)

pub overflow_mul-q-in-loop : goal.overflow_mul-q-in-loop
overflow_mul-q-in-loop c = omega (arith, power_small c.loop.q c.args.x c.loop.invariant.1 c.requires)

pub overflow_add-q : goal.overflow_add-q
overflow_add-q c = omega (arith, power_small c.loop.q c.args.x c.loop.invariant.1 c.requires)

pub loop-preserved : goal.loop-preserved
loop-preserved c =
    let v = c.loop.invariant in (power-turn _ _ _ c.loop.auto.counter v.0, power_le _ _ v.1 c.requires, omega arith)

pub returns : goal.returns
returns c =
    let v = c.loop.invariant in (record { is = power-end _ _ _ _ c.loop.auto.counter c.loop-test.false v.2 v.0; small = v.1 })
