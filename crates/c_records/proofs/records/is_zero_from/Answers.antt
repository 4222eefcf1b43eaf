use mathlib.Core.Path.{sym, ◌∙◌}
use borrow.Author.Tests.{eq-eqb, ne_eqb}
use Rattle.fixed.proofs.Scans.{passing-start, passing-turn, passing-stop, passing-end}
use Rattle.c_records.specs.Records.{zero_from}
use Rattle.c_records.proofs.records.is_zero_from.Goals as goal

pub loop-k-init : goal.loop-k-init
loop-k-init c = passing-start _ _ _

pub returns-then-small_at-ne0 : goal.returns-then-small_at-ne0
unfolding zero_from
returns-then-small_at-ne0 c =
    passing-stop _ _ _ _ c.loop-k.invariant c.loop-k-test.true (ne_eqb _ _ (λ z. c.if-small_at-ne0.true (c.small_at.ensures ∙ z)))

pub loop-k-preserved : goal.loop-k-preserved
loop-k-preserved c =
    passing-turn _ _ _ _ c.loop-k.invariant c.loop-k-test.true (eq-eqb _ _ (sym c.small_at.ensures ∙ c.if-small_at-ne0.false))

pub returns : goal.returns
unfolding zero_from
returns c = passing-end _ _ _ _ c.loop-k.invariant c.loop-k-test.false
