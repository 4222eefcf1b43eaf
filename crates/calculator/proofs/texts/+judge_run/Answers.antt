-- Of more blocks than a text lies in the first four are taken.
use mathlib.Core.Path.{sym, ap, ◌∙◌}
use Rattle.calculator.specs.Calculator.{refusal_of}
use Rattle.calculator.proofs.Runs.{run-first}
use Rattle.calculator.proofs.texts.+judge_run.Goals as goal

pub returns-then-blocks-gt-BLOCKS : goal.returns-then-blocks-gt-BLOCKS
returns-then-blocks-gt-BLOCKS t c =
    let a = c.args in
    c.judge_run.ensures ∙ ap (refusal_of a.taken a.count) (sym (run-first a.page.now a.n a.blocks c.if-blocks-gt-BLOCKS.true))
