-- From the contracts of `evaluate`, `write` and `run` alone: the words that were written are the recipe, and RecipeServes says what running them replies.
use mathlib.Core.Path.{sym, ap, ◌∙◌}
use mathlib.Core.List.{List}
use lib.IntN.{ℤ}
use lib.ListN.{take}
use lib.Seq.{length-take-le}
use Rattle.cie.specs.Answers.{meaning}
use Rattle.runner.specs.Runs.{ran}
use Rattle.recipe.specs.SpaceWrites.{meaning as wrote_of}
use Rattle.agreement.proofs.Written.{wrote-room, wrote-replies}
use Rattle.agreement.proofs.compare.compare_replies.Goals as goal

-- as many words were written as are lent to `run`
pub slice_bounds-run-end : goal.slice_bounds-run-end
slice_bounds-run-end c =
    let said = sym (ap wrote_of c.in-Ok.is) ∙ c.write-written.ensures.result_value in
    rw c.write-written.ensures.words_after (wrote-room c.args.page.now c.args.reference c.args.words.now _ said)

pub slice_bounds-run-end-in-Ok : goal.slice_bounds-run-end-in-Ok
slice_bounds-run-end-in-Ok c =
    let said = sym (ap wrote_of c.in-Ok.is) ∙ c.write-written.ensures.result_value in
    sym (length-take-le _ _ (rw c.write-written.ensures.words_after (wrote-room c.args.page.now c.args.reference c.args.words.now _ said)))

pub returns-in-Ok : goal.returns-in-Ok
returns-in-Ok c =
    let said = sym (ap wrote_of c.in-Ok.is) ∙ c.write-written.ensures.result_value in
    let held = ap (λ (l : List ℤ). ran (take c.in-Ok.n l) c.args.components.now) c.write-written.ensures.words_after in
    let replied = wrote-replies c.args.page.now c.args.reference c.args.words.now c.in-Ok.n said c.args.components.now in (record { writes = said; leaves = c.write-written.ensures.words_after; evaluates = c.evaluate-evaluated.ensures; agrees = c.run-ran.ensures ∙ (held ∙ (replied ∙ sym c.evaluate-evaluated.ensures)) })

pub returns-in-Err : goal.returns-in-Err
returns-in-Err c =
    let said = sym (ap wrote_of c.in-Err.is) ∙ c.write-written.ensures.result_value in (record { writes = said; leaves = c.write-written.ensures.words_after; evaluates = c.evaluate-evaluated.ensures; agrees = ap meaning c.from-ran.ensures })
