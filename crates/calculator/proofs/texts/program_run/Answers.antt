use mathlib.Core.Path.{sym, ◌∙◌}
use Rattle.calculator.proofs.Runs.{counted_start, counted_stop, counted-turn, counted-end}
use borrow.Author.Rules.{rules}
use Rattle.calculator.proofs.texts.program_run.Goals as goal

pub loop-k-init : goal.loop-k-init
loop-k-init c = counted_start _ _

pub returns-then-not-is_program : goal.returns-then-not-is_program
returns-then-not-is_program c =
    let turn = c.loop-k.invariant in
    let more = c.loop-k-test.true in
    let stop = counted_stop _ _ _ more turn (sym c.is_program.ensures ∙ c.if-not-is_program.true) in (record { is = stop; small = turn.few })

pub loop-k-preserved : goal.loop-k-preserved
loop-k-preserved c =
    counted-turn _ _ _ c.loop-k-test.true c.loop-k.invariant (sym c.is_program.ensures ∙ c.if-not-is_program.false)

pub returns : goal.returns
returns c =
    record { is = counted-end _ _ _ c.loop-k-test.false c.loop-k.invariant; small = search rules }
