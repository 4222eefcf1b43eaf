-- `none_zero` scans: the bytes below k pass.
use Prim.Native.Nat.{◌*◌}
use lib.ListN.{get_or, drop}
use mathlib.Core.Bool.{not}
use lib.Dec.{eqb}
use Rattle.fixed.proofs.Scans.{Passing}
use Rattle.rules.proofs.shape.none_zero.Given as goal

abbrev pub invariant-loop-k : goal.invariant-loop-k
invariant-loop-k l = Passing (λ j. not (eqb (get_or (drop (512 * l.n) l.page) j 0) 0)) l.from l.to l.k
