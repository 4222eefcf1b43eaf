use native.Mathlib.Omega.{arith}
use Rattle.form.proofs.Forms.{number-pushed}
use Rattle.form.proofs.checking.numbers.Goals as goal

pub loop-i-preserved : goal.loop-i-preserved
loop-i-preserved c = number-pushed c.loop-i.i (omega arith) c.loop-i.invariant c.push.ensures
