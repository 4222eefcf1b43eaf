-- `words`: the level that was read is the space at the number.
use native.Mathlib.Omega.{arith}
use Rattle.space.specs.Spaces.{words_of}
use Rattle.space.proofs.Levels.{space-read, rank_most}
use Rattle.tables.proofs.lengths.words.Goals as goal

pub returns : goal.returns
returns c =
    record { is = space-read _ _ c.level_at.ensures words_of c.words_in.ensures.is; small = omega (arith, c.words_in.ensures.small, rank_most c.level_at.result) }
