-- FORMAT.md, Operations, writing a recipe: the refusals of validation, 8, 10. The recipe of the space at a number of a page, whatever the page.
use Rattle.std.specs.Prelude.{ℕ, List, ℤ}
use Rattle.page.specs.Outcomes.{Outcome, accepted, refused}
use Rattle.page.specs.Validation.{validated}
use Rattle.space.specs.Pages.{space_at}
use Rattle.recipe.specs.SpaceWrites.{Reply, refusal, replied, words_after}

-- the refusal of validation, or else the reply r
abbrev pub on_accepted : Outcome → Reply → Reply
on_accepted accepted r = r
on_accepted (refused number block) r = refusal number block

-- words w of a page that is accepted; else what they were
abbrev pub where_accepted : Outcome → List ℤ → List ℤ → List ℤ
where_accepted accepted w words = w
where_accepted (refused number block) w words = words

unfoldable pub write_reply : List ℕ → ℕ → List ℤ → Reply
write_reply page n words = on_accepted (validated page) (replied (space_at page n) words)

unfoldable pub write_words : List ℕ → ℕ → List ℤ → List ℤ
write_words page n words = where_accepted (validated page) (words_after (space_at page n) words) words
