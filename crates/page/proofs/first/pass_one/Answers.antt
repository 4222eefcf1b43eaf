use mathlib.Core.Path.{refl}
use Rattle.fixed.proofs.Numbered.{some_number}
use Rattle.fixed.proofs.Scans.{clean-start, clean-turn, clean-stop, clean_end}
use Rattle.page.proofs.first.pass_one.Goals as goal

pub loop-i-init : goal.loop-i-init
loop-i-init c = clean-start _ _ _ _

pub returns-in-Err : goal.returns-in-Err
returns-in-Err c =
    rw (c.of_block.ensures.is, c.of_block.ensures.about) (clean-stop _ _ _ _ _ _ c.loop-i.invariant c.loop-i-test.true c.in-Err.ensures (some_number c.in-Err.refusal))

pub loop-i-preserved : goal.loop-i-preserved
loop-i-preserved c =
    clean-turn _ _ _ _ _ _ c.loop-i.invariant c.loop-i-test.true c.in_default.ensures refl

pub returns : goal.returns
returns c = clean_end _ _ _ _ _ c.loop-i.invariant c.loop-i-test.false
