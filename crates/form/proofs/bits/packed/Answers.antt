use mathlib.Core.Path.{ap, ◌∙◌}
use Prim.Native.Nat.{◌-◌}
use native.Mathlib.Omega.{arith}
use lib.IntN.{ℤ, pos}
use lib.ListN.{get_or}
use borrow.Author.Rules.{rules}
use Rattle.fixed.proofs.Signs.{signed-within}
use Rattle.stack.specs.Stack.{truth}
use Rattle.stack.specs.Operators.{is_true}
use Rattle.form.proofs.Tables.{twice-low, twice-some, packed-turn, packed-fits, up_none}
use Rattle.form.proofs.bits.packed.Goals as goal

pub loop-i-init : goal.loop-i-init
loop-i-init c = (c.requires.0, twice-some _, up_none 0 (c.args.to - c.args.to) _ (omega arith))

pub overflow_mul-bits : goal.overflow_mul-bits
overflow_mul-bits c = omega (arith, twice-low (c.args.to - c.loop-i.i) (omega arith))

pub overflow_add-bits : goal.overflow_add-bits
overflow_add-bits c = omega (arith, c.kind_bit.ensures.low, twice-low (c.args.to - c.loop-i.i) (omega arith))

pub loop-i-preserved : goal.loop-i-preserved
loop-i-preserved c =
    let bit = c.kind_bit.ensures.is ∙ ap (λ (z : ℤ). truth (is_true z)) (signed-within (get_or c.args.kinds.now (c.loop-i.i - 1) (pos 0)) (search rules)) in (
      omega arith,
      packed-fits c.args.to c.loop-i.i c.loop-i.bits c.kind_bit.result (omega arith) (omega arith) c.kind_bit.ensures.low c.loop-i.invariant.1,
      packed-turn c.args.kinds.now c.args.from c.args.to c.loop-i.i c.loop-i.bits c.kind_bit.result c.loop-i-test.true (omega arith) bit c.kind_bit.ensures.low c.loop-i.invariant.2,
    )

pub returns-clause-low : goal.returns-clause-low
returns-clause-low c = omega (arith, twice-low (c.args.to - c.loop-i.i) (omega arith))
