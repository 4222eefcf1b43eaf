-- Limb by limb: `Part` says what stands once the first i limbs are multiplied, and what is still carried.
use Rattle.tenths.proofs.Value.{Part}
use Rattle.tenths.proofs.limbs.mul_small.Given as goal

abbrev pub invariant-loop-i : goal.invariant-loop-i
invariant-loop-i l = Part l.k l.initial.n l.n l.carry l.i
