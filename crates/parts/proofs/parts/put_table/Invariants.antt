-- The loop's invariant: the first j entries are stored, over every space that has these bounds, and k is the component of the next one.
use mathlib.Core.Path.{◌≡◌}
use Prim.Native.Nat.{◌<◌, ◌%◌}
use lib.ListN.{length}
use lib.Seq.{sets}
use Rattle.fixed.specs.Values.{listed}
use Rattle.space.specs.Spaces.{Space}
use Rattle.space.specs.Pages.{entry_of}
use Rattle.space.specs.Levels.{Ranged}
use Rattle.parts.proofs.parts.put_table.Given as goal

abbrev pub invariant-loop-j : goal.invariant-loop-j
invariant-loop-j l = record {
  room : length l.words ≡ length l.initial.words;
  stored : (s : Space) → Ranged s l.m l.bounds.lo l.bounds.hi → l.words ≡ sets l.initial.words l.at (listed (entry_of l.page l.n s) l.j);
  low : l.k < l.m;
  component : l.k ≡ l.j % l.m;
}
