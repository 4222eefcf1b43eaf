-- `add_row` goes across the columns: those before the next one have the row.
use Prim.Native.Nat.{◌*◌}
use lib.ListN.{drop}
use Rattle.sums.proofs.TwoSums.{Turned}
use Rattle.sums.proofs.check.add_row.Given as goal

abbrev pub invariant-loop-k : goal.invariant-loop-k
invariant-loop-k l = Turned (drop (512 * l.n) l.page) l.sums l.runnings l.row l.k
