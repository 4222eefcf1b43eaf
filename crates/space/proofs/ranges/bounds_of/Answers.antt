-- A plain space's by its closing step, 0 to 1 for the others.
use Rattle.space.specs.Levels.{space_in}
use Rattle.space.proofs.Ends.{other_ends}
use Rattle.space.proofs.ranges.bounds_of.Goals as goal

pub returns-in-Plain : goal.returns-in-Plain
unfolding space_in
returns-in-Plain c = λ page. rw c.in-Plain.is (record { low = c.plain_bounds.ensures.low; high = c.plain_bounds.ensures.high })

pub returns-in_default : goal.returns-in_default
returns-in_default c = λ page. rw (c.unit_bounds.ensures.lows, c.unit_bounds.ensures.highs) (other_ends page c.args.l c.in_default.not-Plain)
