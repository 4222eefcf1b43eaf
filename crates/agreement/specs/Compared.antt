-- FORMAT.md, The recipe and the page: a recipe written, then run, beside the colour on the page.
use Rattle.cie.specs.Answers.{Reply, refusal}
use Rattle.recipe.specs.SpaceWrites.{Reply as Wrote, wrote, refusal as unwritten}

-- what running just the words that were written replies, where evaluating replies e: e itself; where none were written, that refusal
abbrev pub agreed : Wrote → Reply → Reply
agreed (wrote n) e = e
agreed (unwritten number block) e = refusal number block
