-- What evaluating replies, as C has it.
use mathlib.Core.Path.{ap, ◌∙◌}
use Rattle.cie.specs.Answers.{Reply}
use Rattle.sktelbaan_runner.specs.Replies.{reply_of, floats_of}
use Rattle.sktelbaan.proofs.sktelbaan_evaluate.Goals as goal

pub returns : goal.returns
returns c =
    record { value = c.put_answer.ensures.value ∙ ap reply_of c.evaluate.ensures; floats_after = c.put_answer.ensures.floats_after ∙ ap (λ (r : Reply). floats_of r c.args.floats.now) c.evaluate.ensures }
