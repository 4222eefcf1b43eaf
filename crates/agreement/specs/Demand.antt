-- FORMAT.md, The recipe and the page: a recipe in place of the page. The sentences of the customer's paper, in its order, as one statement.
use Rattle.std.specs.Prelude.{◌≡◌, true, false, List, ◌++◌, ℕ, ◌≤◌, ◌<◌, ℤ, length, drop}
use Rattle.cie.specs.Answers.{Reply, answer, refusal}
use Rattle.space.specs.Numbers.{asked}
use Rattle.space.specs.Spaces.{count_of}
use Rattle.space.specs.Pages.{space_at}
use Rattle.page.specs.Outcomes.{accepted}
use Rattle.page.specs.Validation.{validated}
use Rattle.colour.specs.Evaluating.{evaluated}
use Rattle.recipe.specs.SpaceWrites.{wrote, refusal as unwritten}
use Rattle.recipe.specs.PageWrites.{write_reply, write_words}
use Rattle.fixed.specs.Sizes.{longest}
use Rattle.runner.specs.Runs.{ran}

-- a reply that is an answer, with its floats, and no refusal
abbrev pub IsAnswer : Reply → Type 0
IsAnswer (answer kind floats moved) = Unit {0}
IsAnswer (refusal number block) = ⊥

-- what the recipe of a number on a page does, n being its count of words
pub record Serves (page : List ℕ) (number : ℕ) (recipe : List ℤ) : Type 0 where
  -- "A recipe longer than 1,084 words is ill-formed" (1,045 before request 2026-06): this one is not
  pub short : length recipe ≤ longest
  -- "Lent n words or more, writing replies n and the first n of them are the recipe"; those after them are as they were
  pub written : (words : List ℤ) → length recipe ≤ length words → write_reply page number words ≡ wrote (length recipe)
  pub left : (words : List ℤ) → length recipe ≤ length words → write_words page number words ≡ recipe ++ drop (length recipe) words
  -- "lent fewer, it replies 10", and none of them is altered
  pub refused : (words : List ℤ) → length words < length recipe → write_reply page number words ≡ unwritten 10 0
  pub unaltered : (words : List ℤ) → length words < length recipe → write_words page number words ≡ words
  -- "Running is then lent just those n words, unaltered, and a colour: no page and no other storage. For every list of components, of whatever length, its
  -- reply equals the reply to the same list and number on the page as it stood when the recipe was written"
  pub replies : (components : List ℤ) → ran recipe components ≡ evaluated page number components
  -- "the same answer, every float in every bit", and the same word on whether a limit moved anything (request 2026-07): to as many components as the space has, and never a refusal
  pub right : (components : List ℤ) → length components ≡ count_of (space_at page number) → IsAnswer (ran recipe components)
  -- "or 9 on both sides": to any other count of them
  pub wrong : (components : List ℤ) → (length components ≡ count_of (space_at page number) → ⊥) → ran recipe components ≡ refusal 9 0

-- what every other number meets: 8, to each list of components and for whatever words are lent, none of which is altered
pub record MeetsEight (page : List ℕ) (number : ℕ) : Type 0 where
  pub colour : (components : List ℤ) → evaluated page number components ≡ refusal 8 0
  pub recipe : (words : List ℤ) → write_reply page number words ≡ unwritten 8 0
  pub unaltered : (words : List ℤ) → write_words page number words ≡ words

-- the third of the three demands (FORMAT.md)
pub record RecipeServes : Type 0 where
  -- "it takes every accepted page and every number asked for that does not meet refusal 8 there, device codes included. The page and that number fix the
  -- recipe, before any colour is given."
  pub serves : (page : List ℕ) (number : ℕ) → validated page ≡ accepted → asked page number ≡ true → (recipe : List ℤ) × Serves page number recipe
  -- refusal 8, "the number asked for is neither a device code nor a block of kinds 1 to 5": all such numbers meet it, and by the line above no others
  pub eight : (page : List ℕ) (number : ℕ) → validated page ≡ accepted → asked page number ≡ false → MeetsEight page number
