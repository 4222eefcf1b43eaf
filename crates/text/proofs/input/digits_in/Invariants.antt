-- The number stays below its bound, and the digits that are left grow fewer.
use Rattle.std.proofs.Common.{length, ◌<◌}
use Rattle.text.proofs.input.digits_in.Given as goal

abbrev pub invariant-loop-rest : goal.invariant-loop-rest
invariant-loop-rest l = l.size < 10000000000

abbrev pub decreases-loop-rest : goal.decreases-loop-rest
decreases-loop-rest l = length l.rest
