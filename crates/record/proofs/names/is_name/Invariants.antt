-- `is_name` compares the length first, then scans: the bytes below k are the name's.
use Prim.Native.Nat.{ℕ, ◌+◌, ◌*◌}
use lib.Dec.{eqb}
use lib.ListN.{length, get_or, drop}
use mathlib.Core.Bool.{Bool}
use mathlib.Core.List.{List}
use Rattle.fixed.proofs.Scans.{Passing}
use Rattle.record.proofs.names.is_name.Given as goal

-- byte j of the name is that of the block
abbrev pub Same : List ℕ → ℕ → ℕ → List ℕ → ℕ → Bool
Same page n at name j = eqb (get_or (drop (512 * n) page) (at + 1 + j) 0) (get_or name j 0)

abbrev pub invariant-loop-k : goal.invariant-loop-k
invariant-loop-k l = Passing (Same l.page l.n l.at l.name) 0 (length l.name) l.k
