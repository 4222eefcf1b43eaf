use mathlib.Core.Path.{sym, ◌∙◌}
use Rattle.fixed.proofs.Scans.{passing-start, passing-turn, passing-stop, passing-end}
use Rattle.runs.specs.Runs.{palettes}
use Rattle.runs.proofs.runs.all_palettes.Goals as goal

pub loop-k-init : goal.loop-k-init
loop-k-init c = passing-start _ _ _

pub returns-then-not-is_palette : goal.returns-then-not-is_palette
unfolding palettes
returns-then-not-is_palette c =
    passing-stop _ _ _ _ c.loop-k.invariant c.loop-k-test.true (sym c.is_palette.ensures ∙ c.if-not-is_palette.true)

pub loop-k-preserved : goal.loop-k-preserved
loop-k-preserved c =
    passing-turn _ _ _ _ c.loop-k.invariant c.loop-k-test.true (sym c.is_palette.ensures ∙ c.if-not-is_palette.false)

pub returns : goal.returns
unfolding palettes
returns c = passing-end _ _ _ _ c.loop-k.invariant c.loop-k-test.false
