use Rattle.space.specs.Levels.{rank_in}
use Rattle.colour.proofs.answers.+value_in.Given as goal

abbrev pub decreases-value_in : goal.decreases-value_in
decreases-value_in l = rank_in l.l
