-- Each return is the branch of the definition.
use native.Mathlib.Omega.{arith}
use borrow.Author.Tests.{le-leb, lt-leb}
use Rattle.form.specs.Steps.{nearest_count}
use Rattle.form.proofs.taking.nearest_count.Goals as goal

pub returns-then-n-le1 : goal.returns-then-n-le1
unfolding nearest_count
returns-then-n-le1 c = record { is = simp (le-leb _ _ c.if-n-le1.true); small = omega arith }

pub returns-then-n : goal.returns-then-n
unfolding nearest_count
returns-then-n c =
    record { is = simp (lt-leb _ _ c.if-n-le1.false, le-leb _ _ c.if-n.true); small = (omega (arith, c.if-n-le1.false), c.if-n.true) }

pub returns : goal.returns
unfolding nearest_count
returns c =
    record { is = simp (lt-leb _ _ c.if-n-le1.false, lt-leb _ _ c.if-n.false); small = omega arith }
