-- `sum_rows` goes down the rows.
use Prim.Native.Nat.{◌*◌}
use lib.ListN.{drop}
use Rattle.sums.specs.Columns.{DownAll}
use Rattle.sums.proofs.check.sum_rows.Given as goal

abbrev pub invariant-loop-row : goal.invariant-loop-row
invariant-loop-row l = DownAll (drop (512 * l.n) l.page) l.c.sums l.c.runnings l.row
