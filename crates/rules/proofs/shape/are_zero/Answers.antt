use mathlib.Core.Path.{refl}
use Rattle.fixed.specs.Loops.{zero_between}
use Rattle.fixed.proofs.Scans.{gathered-turn, gathered-end}
use Rattle.rules.proofs.shape.are_zero.Goals as goal

pub loop-byte-preserved : goal.loop-byte-preserved
loop-byte-preserved c =
    gathered-turn _ _ _ c.loop-byte.zero _ c.loop-byte.byte-index c.loop-byte.invariant c.loop-byte-test.true refl

pub returns : goal.returns
unfolding zero_between
returns c = gathered-end _ _ _ _ _ c.loop-byte.invariant c.loop-byte-test.false
