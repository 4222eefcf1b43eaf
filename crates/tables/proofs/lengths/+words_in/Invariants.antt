use Rattle.space.specs.Levels.{rank_in}
use Rattle.tables.proofs.lengths.+words_in.Given as goal

abbrev pub decreases-words_in : goal.decreases-words_in
decreases-words_in l = rank_in l.l
