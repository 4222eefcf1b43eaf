-- What writing a recipe replies, as C has it; the words are those that it leaves.
use mathlib.Core.Path.{ap, ◌∙◌}
use Rattle.c_layout.specs.Replies.{wrote_of}
use Rattle.sktelbaan.proofs.sktelbaan_write_recipe.Goals as goal

pub returns : goal.returns
returns c =
    record { value = c.count.ensures ∙ ap wrote_of c.write.ensures.result_value; words_after = c.write.ensures.words_after }
