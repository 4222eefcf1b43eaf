use borrow.Author.Tests.{eq-eqb, ne_eqb}
use Rattle.fixed.proofs.Scans.{passing-start, passing-turn, passing-stop, passing-end}
use Rattle.ink_names.specs.Names.{same_name}
use Rattle.ink_names.proofs.names.is_same.Goals as goal

pub returns-then-s-t : goal.returns-then-s-t
unfolding same_name
returns-then-s-t c = rw (ne_eqb _ _ c.if-s-t.true)

pub loop-k-init : goal.loop-k-init
loop-k-init c = passing-start _ _ _

pub returns-then-s-k : goal.returns-then-s-k
unfolding same_name
returns-then-s-k c =
    rw (eq-eqb _ _ c.if-s-t.false) (passing-stop _ _ _ _ c.loop-k.invariant c.loop-k-test.true (ne_eqb _ _ c.if-s-k.true))

pub loop-k-preserved : goal.loop-k-preserved
loop-k-preserved c = passing-turn _ _ _ _ c.loop-k.invariant c.loop-k-test.true (eq-eqb _ _ c.if-s-k.false)

pub returns : goal.returns
unfolding same_name
returns c =
    rw (eq-eqb _ _ c.if-s-t.false) (passing-end _ _ _ _ c.loop-k.invariant c.loop-k-test.false)
