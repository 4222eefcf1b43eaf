-- `sum_columns` goes across the columns, with each sum and running in two parts.
use Prim.Native.Nat.{◌*◌}
use lib.ListN.{drop}
use Rattle.sums.proofs.TwoSums.{Parted}
use Rattle.sums.proofs.check.sum_columns.Given as goal

abbrev pub invariant-loop-k : goal.invariant-loop-k
invariant-loop-k l = Parted (drop (512 * l.n) l.page) l.sum_high l.sum_low l.running_high l.running_low l.place_high l.place_low l.k
