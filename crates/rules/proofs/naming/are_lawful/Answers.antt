use mathlib.Core.Path.{sym, ◌∙◌}
use Rattle.fixed.proofs.Scans.{passing-turn, passing-stop, passing-end}
use Rattle.record.specs.Rules.{names_lawful}
use Rattle.rules.proofs.naming.are_lawful.Goals as goal

pub returns-then-not-is_fair : goal.returns-then-not-is_fair
unfolding names_lawful
returns-then-not-is_fair c =
    passing-stop _ _ _ _ c.loop-k.invariant c.loop-k-test.true (sym c.is_fair.ensures ∙ c.if-not-is_fair.true)

pub loop-k-preserved : goal.loop-k-preserved
loop-k-preserved c =
    passing-turn _ _ _ _ c.loop-k.invariant c.loop-k-test.true (sym c.is_fair.ensures ∙ c.if-not-is_fair.false)

pub returns : goal.returns
unfolding names_lawful
returns c = passing-end _ _ _ _ c.loop-k.invariant c.loop-k-test.false
