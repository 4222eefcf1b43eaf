-- FORMAT.md, Operations, evaluating: the refusals of validation, 8, 9. A colour of the space at a number of a page, whatever the page.
use Rattle.std.specs.Prelude.{ℕ, List, ℤ}
use Rattle.cie.specs.Answers.{Reply, refusal}
use Rattle.page.specs.Outcomes.{Outcome, accepted, refused}
use Rattle.page.specs.Validation.{validated}
use Rattle.space.specs.Pages.{space_at}
use Rattle.colour.specs.Colours.{answered}

-- the refusal of validation, or else the reply r
abbrev pub on_accepted : Outcome → Reply → Reply
on_accepted accepted r = r
on_accepted (refused number block) r = refusal number block

unfoldable pub evaluated : List ℕ → ℕ → List ℤ → Reply
evaluated page n cs = on_accepted (validated page) (answered (space_at page n) cs)
