-- No words are 16; the words of a program fit just where the program does.
use Rattle.std.proofs.lemmas.Result.{err_from_is_err_and}
use Rattle.program.specs.Texts.{read_of}
use Rattle.calculator.specs.Calculator.{refusal_of}
use Rattle.calculator.proofs.Entries.{judged-none, judged-words}
use Rattle.calculator.proofs.judging.judge.Goals as goal

pub returns-in_err-ok_or : goal.returns-in_err-ok_or
unfolding refusal_of
returns-in_err-ok_or c =
    let p = err_from_is_err_and c.from_residual.result c.from_residual.ensures.1 in
    rw (p.1, p.2) (judged-none c.args.taken c.args.count c.compile.result _ (read_of c.args.text.now) c.compile.ensures _ c.in_err-ok_or.ensures.value)

pub returns : goal.returns
unfolding refusal_of
returns c =
    let w = rw c.in_ok-ok_or.ensures.ok_part at c.compile.ensures in
    judged-words c.args.taken c.args.count _ c.compile.new.words (read_of c.args.text.now) w c.as_slice.ensures.few (rw c.as_slice.ensures.is at c.judge_form.ensures)
