-- `components`: the level that was read is the space at the number.
use Rattle.space.specs.Spaces.{count_of}
use Rattle.space.proofs.Levels.{space-read}
use Rattle.space.proofs.ranges.components.Goals as goal

pub returns : goal.returns
returns c =
    record { is = space-read _ _ c.level_at.ensures count_of (c.count.ensures.is _); small = c.count.ensures.small }
