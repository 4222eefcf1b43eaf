use mathlib.Core.Path.{◌≡◌, ap, ◌∙◌}
use native.Mathlib.Omega.{arith}
use lib.IntN.{ℤ, pos}
use lib.Dec.{eqb}
use lib.ListN.{get_or}
use borrow.Author.Rules.{rules}
use Rattle.fixed.proofs.Signs.{signed-within}
use Rattle.stack.specs.Stack.{truth, same_kinds}
use Rattle.stack.specs.Memory.{stack_of}
use Rattle.stack.specs.Operators.{is_true}
use Rattle.form.specs.Table.{bits_of}
use Rattle.form.proofs.Packed.{kind-differs, kind-agrees, kinds-through}
use Rattle.form.proofs.bits.is_packed.Goals as goal
use Rattle.form.proofs.bits.is_packed.Goals.{After-kind_bit}

-- the bit is the kind's
bit : (c : After-kind_bit) → truth (eqb c.kind_bit.result 1) ≡ truth (is_true (get_or c.args.kinds.now c.loop-i.i (pos 0)))
bit c = c.kind_bit.ensures.is ∙ ap (λ (z : ℤ). truth (is_true z)) (signed-within (get_or c.args.kinds.now c.loop-i.i (pos 0)) (search rules))

pub returns-then-kind_bit-rest : goal.returns-then-kind_bit-rest
returns-then-kind_bit-rest c =
    kind-differs c.args.kinds.now c.args.to c.loop-i.i c.loop-i.rest c.kind_bit.result c.loop-i-test.true (bit (goal.at.returns-then-kind_bit-rest c).After-kind_bit) c.kind_bit.ensures.low c.if-kind_bit-rest.true
    ∙ ap (same_kinds (bits_of (stack_of c.args.kinds.now c.args.to))) c.loop-i.invariant

pub loop-i-preserved : goal.loop-i-preserved
loop-i-preserved c =
    kind-agrees c.args.kinds.now c.args.to c.loop-i.i c.loop-i.rest c.kind_bit.result c.loop-i-test.true (bit (goal.at.loop-i-preserved c).After-kind_bit) c.if-kind_bit-rest.false c.loop-i.invariant

pub returns : goal.returns
returns c =
    kinds-through c.args.kinds.now c.args.to c.loop-i.i c.loop-i.rest (omega arith) ∙ ap (same_kinds (bits_of (stack_of c.args.kinds.now c.args.to))) c.loop-i.invariant
