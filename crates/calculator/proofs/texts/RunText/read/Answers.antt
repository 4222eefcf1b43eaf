use mathlib.Core.Path.{◌≡◌, refl, ap, ◌∙◌}
use native.Mathlib.Omega.{arith}
use lib.ListN.{length-set}
use Rattle.calculator.specs.Calculator.{text_of, run_text}
use Rattle.calculator.proofs.Turns.{text-turn}
use Rattle.calculator.proofs.texts.RunText.read.Goals as goal

pub loop-j-init : goal.loop-j-init
unfolding text_of
loop-j-init c = (refl, refl)

pub loop-j-preserved : goal.loop-j-preserved
loop-j-preserved c =
    ((simp length-set) ∙ c.loop-j.invariant.0, text-turn _ _ _ _ _ (omega (arith, c.loop-j.invariant.0)) c.loop-j.invariant.1 c.text_byte.ensures)

pub returns : goal.returns
unfolding run_text
returns c =
    let e : c.loop-j.j ≡ c.run_size-size.result = omega arith in
    rw e at c.loop-j.invariant.1 ∙ ap (text_of c.args.page.now c.args.n) c.run_size-size.ensures.is
