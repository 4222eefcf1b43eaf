use mathlib.Core.Path.{sym, ap, ◌∙◌}
use mathlib.Core.Bool.{not}
use borrow.Author.Tests.{eq-eqb, ne_eqb}
use Rattle.record.specs.Rules.{none_zero}
use Rattle.fixed.proofs.Scans.{passing-start, passing-turn, passing-stop, passing-end}
use Rattle.rules.proofs.shape.none_zero.Goals as goal

pub loop-k-init : goal.loop-k-init
loop-k-init c = passing-start _ _ _

pub returns-then-byte_at-eq0 : goal.returns-then-byte_at-eq0
unfolding none_zero
returns-then-byte_at-eq0 c =
    passing-stop _ _ _ _ c.loop-k.invariant c.loop-k-test.true (ap not (eq-eqb _ _ (sym c.byte_at.ensures.is ∙ c.if-byte_at-eq0.true)))

pub loop-k-preserved : goal.loop-k-preserved
loop-k-preserved c =
    passing-turn _ _ _ _ c.loop-k.invariant c.loop-k-test.true (ap not (ne_eqb _ _ (λ z. c.if-byte_at-eq0.false (c.byte_at.ensures.is ∙ z))))

pub returns : goal.returns
unfolding none_zero
returns c = passing-end _ _ _ _ c.loop-k.invariant c.loop-k-test.false
