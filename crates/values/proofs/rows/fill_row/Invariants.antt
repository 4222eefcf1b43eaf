-- The loop's invariant: the first k values are entries of the row, over every space that has these bounds. Entry k of a row is of component k.
use mathlib.Core.Path.{◌≡◌}
use Prim.Native.Nat.{◌+◌, ◌*◌}
use Rattle.fixed.specs.Values.{filled}
use Rattle.space.specs.Spaces.{Space}
use Rattle.space.specs.Pages.{entry_of}
use Rattle.space.specs.Levels.{Ranged}
use Rattle.values.proofs.rows.fill_row.Given as goal

abbrev pub invariant-loop-k : goal.invariant-loop-k
invariant-loop-k l = (s : Space) → Ranged s l.m l.bounds.lo l.bounds.hi → l.values ≡ filled (λ j. entry_of l.page l.n s (l.row * l.m + j)) l.k l.initial.values
