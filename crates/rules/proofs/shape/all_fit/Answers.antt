use mathlib.Core.Path.{sym, ◌∙◌}
use Rattle.fixed.proofs.Scans.{passing-turn, passing-stop, passing-end}
use Rattle.rules.proofs.shape.all_fit.Invariants.{fits}
use Rattle.rules.proofs.shape.all_fit.Goals as goal

pub returns-then-not-name_fits_at : goal.returns-then-not-name_fits_at
returns-then-not-name_fits_at c =
    passing-stop _ _ _ _ c.loop-k.invariant c.loop-k-test.true (sym (fits c.args.s.now c.loop-k.k c.name_place.ensures.is c.name_fits_at.ensures) ∙ c.if-not-name_fits_at.true)

pub loop-k-preserved : goal.loop-k-preserved
loop-k-preserved c =
    passing-turn _ _ _ _ c.loop-k.invariant c.loop-k-test.true (sym (fits c.args.s.now c.loop-k.k c.name_place.ensures.is c.name_fits_at.ensures) ∙ c.if-not-name_fits_at.false)

pub returns : goal.returns
returns c = passing-end _ _ _ _ c.loop-k.invariant c.loop-k-test.false
