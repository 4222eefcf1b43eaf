use Rattle.space.specs.Levels.{rank_in}
use Rattle.recipe.proofs.writing.+put_steps.Given as goal

abbrev pub decreases-put_steps : goal.decreases-put_steps
decreases-put_steps l = rank_in l.l
