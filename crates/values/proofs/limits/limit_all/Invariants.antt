-- The loop's invariant: the first k values are limited, each to its range in every space that the bounds are the ends of, and the flag is that of these limits.
use mathlib.Core.Path.{◌≡◌}
use Rattle.space.specs.Spaces.{Space}
use Rattle.space.specs.Levels.{Ends}
use Rattle.values.specs.Limits.{limited_to}
use Rattle.values.proofs.limits.limit_all.Given as goal

abbrev pub invariant-loop-k : goal.invariant-loop-k
invariant-loop-k l = (s : Space) → Ends s l.bounds.lo l.bounds.hi → l.colour ≡ limited_to s l.k l.initial.colour
