-- FORMAT.md, Operations: replies of validating and of writing a recipe, as C has them. What a reply is, and what an
-- answer is as one, stands in `sktelbaan_runner`.
use Rattle.std.specs.Prelude.{ℕ}
use Rattle.page.specs.Outcomes.{Outcome, accepted, refused}
use Rattle.recipe.specs.SpaceWrites.{Reply as Wrote, wrote, refusal as unwritten}
pub use Rattle.sktelbaan_runner.specs.Replies.{in_halves}

-- validation: nothing is given where a page is accepted
abbrev pub verdict_of : Outcome → ℕ
verdict_of accepted = in_halves 0 0
verdict_of (refused number block) = in_halves number block

-- writing a recipe: its count of words
abbrev pub wrote_of : Wrote → ℕ
wrote_of (wrote n) = in_halves 0 n
wrote_of (unwritten number block) = in_halves number block
