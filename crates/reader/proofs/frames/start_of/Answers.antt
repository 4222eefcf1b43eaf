-- The bracket of the innermost space, where there is one.
use Rattle.reader.proofs.Rings.{start_none, start-some}
use Rattle.reader.proofs.frames.start_of.Goals as goal

pub returns-then-n-eq0 : goal.returns-then-n-eq0
returns-then-n-eq0 c = λ names. start_none _ names _ _ c.if-n-eq0.true

pub returns : goal.returns
returns c = λ names. start-some _ names _ _ c.if-n-eq0.false
