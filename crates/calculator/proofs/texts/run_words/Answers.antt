use native.Mathlib.Omega.{arith}
use Rattle.std.proofs.lemmas.Grind.{common_steps}
use Rattle.calculator.specs.Calculator.{run_text}
use Rattle.calculator.proofs.Lengths.{words-few}
use Rattle.calculator.proofs.texts.run_words.Goals as goal

pub returns-clause-small : goal.returns-clause-small
returns-clause-small c =
    let few = words-few (run_text c.args.page.now c.args.n c.args.blocks) in
    let text = c.as_slice.ensures in
    grind (arith, common_steps)
