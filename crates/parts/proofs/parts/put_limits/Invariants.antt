-- The loop's invariant: the limits of k components are stored, those of every space that has these bounds.
use mathlib.Core.Path.{◌≡◌}
use lib.ListN.{length}
use lib.Seq.{sets}
use Rattle.space.specs.Spaces.{Space}
use Rattle.space.specs.Levels.{Ends}
use Rattle.parts.specs.Recipes.{limits_of}
use Rattle.parts.proofs.parts.put_limits.Given as goal

abbrev pub invariant-loop-k : goal.invariant-loop-k
invariant-loop-k l = record {
  room : length l.words ≡ length l.initial.words;
  stored : (s : Space) → Ends s l.bounds.lo l.bounds.hi → l.words ≡ sets l.initial.words l.at (limits_of s l.k);
}
