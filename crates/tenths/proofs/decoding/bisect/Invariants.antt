-- A bisection: lo reaches, and from hi on nothing does (`Between`). Where they are neighbours, lo is the greatest.
use Prim.Native.Nat.{◌-◌}
use Rattle.tenths.proofs.Search.{Between}
use Rattle.tenths.proofs.decoding.bisect.Given as goal

abbrev pub invariant-loop-hi : goal.invariant-loop-hi
invariant-loop-hi l = Between l.e l.q l.u l.lo l.hi

abbrev pub decreases-loop-hi : goal.decreases-loop-hi
decreases-loop-hi l = l.hi - l.lo
