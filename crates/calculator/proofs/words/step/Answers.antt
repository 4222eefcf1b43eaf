-- The words that are compiled are the program's flat form, which does what the program means.
use mathlib.Core.Path.{◌≡◌, ap, ◌∙◌}
use mathlib.Core.List.{List}
use lib.IntN.{ℤ}
use lib.Seq.{take-length}
use Rattle.program.specs.Texts.{read_of}
use Rattle.form.specs.Steps.{form_step, part_of}
use Rattle.form.proofs.Filled.{form-is-program}
use Rattle.tinting.proofs.Made.{form-made}
use Rattle.calculator.specs.Calculator.{code_in}
use Rattle.calculator.proofs.Runs.{words-code}
use Rattle.calculator.proofs.words.step.Goals as goal

pub returns : goal.returns
returns c =
    let a = c.args in
    let words = c.as_slice.ensures.is ∙ (c.compile.ensures ∙ words-code (read_of a.text.now)) in
    let all : part_of c.as_slice.result.now 0 c.len.result ≡ c.as_slice.result.now = rw (c.len.ensures.is, c.as_slice.ensures.is) (take-length _) in
    form-made a.c a.taken a.count _ c.step-out.ensures.leaves c.step-out.ensures.moves
    ∙ (ap (λ (ws : List ℤ). form_step a.taken a.count ws a.c) (all ∙ words) ∙ form-is-program a.taken a.count (code_in (read_of a.text.now)) a.c)
