-- `is_same_name` compares the lengths first, then scans.
use Prim.Native.Nat.{ℕ, ◌+◌}
use lib.Dec.{eqb}
use lib.ListN.{get_or}
use mathlib.Core.Bool.{Bool}
use mathlib.Core.List.{List}
use Rattle.fixed.proofs.Scans.{Passing}
use Rattle.record.proofs.names.is_same_name.Given as goal

-- byte j of both names is the same
abbrev pub Same : List ℕ → ℕ → ℕ → ℕ → Bool
Same s p q j = eqb (get_or s (p + 1 + j) 0) (get_or s (q + 1 + j) 0)

abbrev pub invariant-loop-k : goal.invariant-loop-k
invariant-loop-k l = Passing (Same l.s l.p l.q) 0 l.size l.k
