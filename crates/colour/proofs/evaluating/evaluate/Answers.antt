-- What validation finds is given, and only on an accepted page is the colour evaluated.
use mathlib.Core.Path.{sym, ap, ◌∙◌}
use Rattle.page.specs.Outcomes.{meaning as judged}
use Rattle.colour.proofs.Replies.{page-accepted, page-refused}
use Rattle.colour.proofs.evaluating.evaluate.Goals as goal

pub returns-in-Ok : goal.returns-in-Ok
returns-in-Ok c =
    c.evaluate_space.ensures ∙ page-accepted _ _ _ (sym (ap judged c.in-Ok.is) ∙ c.validate.ensures)

pub returns-in-Err : goal.returns-in-Err
returns-in-Err c = rw c.from.ensures (page-refused _ _ _ _ _ (sym (ap judged c.in-Err.is) ∙ c.validate.ensures))
