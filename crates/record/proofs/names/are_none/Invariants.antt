-- The names below k are None.
use mathlib.Core.Bool.{Bool}
use mathlib.Core.List.{List}
use Prim.Native.Nat.{ℕ}
use Rattle.fixed.proofs.Scans.{Passing}
use Rattle.record.specs.Reading.{the_none, name_is, name_place}
use Rattle.record.proofs.names.are_none.Given as goal

-- name k is None
abbrev pub IsNone : List ℕ → ℕ → Bool
IsNone s k = name_is s (name_place s k) the_none

abbrev pub invariant-loop-k : goal.invariant-loop-k
invariant-loop-k l = Passing (IsNone l.s) 0 l.n l.k
