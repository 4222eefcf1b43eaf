use mathlib.Core.Path.{refl}
use Rattle.digits.proofs.Putting.{one_more, all-put}
use Rattle.digits.proofs.puts.put_text.Goals as goal

pub loop-i-init : goal.loop-i-init
loop-i-init c = refl

pub loop-i-preserved : goal.loop-i-preserved
loop-i-preserved c = one_more _ _ _ _ c.loop-i-test.true c.loop-i.invariant c.put_byte.ensures

pub returns : goal.returns
returns c = all-put _ _ _ _ c.loop-i-test.false c.loop-i.invariant
