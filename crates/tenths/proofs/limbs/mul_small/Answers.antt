use native.Mathlib.Omega.{arith}
use Rattle.tenths.proofs.Value.{part_none, part-more, part_end, step_small}
use Rattle.tenths.proofs.limbs.mul_small.Goals as goal

pub loop-i-init : goal.loop-i-init
loop-i-init c = part_none _ c.requires.2

pub overflow_mul-t : goal.overflow_mul-t
overflow_mul-t c =
    let h = c.loop-i.invariant in omega (arith, step_small _ _ _ (h.limbs.each c.loop-i.i) c.requires.1 h.carried)

pub overflow_add-t : goal.overflow_add-t
overflow_add-t c =
    let h = c.loop-i.invariant in omega (arith, step_small _ _ _ (h.limbs.each c.loop-i.i) c.requires.1 h.carried)

pub loop-i-preserved : goal.loop-i-preserved
loop-i-preserved c = part-more c.requires.1 (omega arith) c.loop-i.invariant

pub returns : goal.returns
returns c = part_end c.requires.0 c.loop-i.invariant (omega arith)
