-- The entries from m to below k are zero.
use mathlib.Core.Bool.{Bool}
use mathlib.Core.List.{List}
use Prim.Native.Nat.{ℕ}
use lib.IntN.{ℤ}
use Rattle.fixed.specs.Values.{value}
use Rattle.fixed.proofs.Scans.{Passing}
use Rattle.record.specs.Rules.{is_zero}
use Rattle.rules.proofs.spare.entries_end.Given as goal

-- the entries as the code has them, in the list a
abbrev pub Zero : List ℤ → ℕ → Bool
Zero a j = is_zero (value a j)

abbrev pub invariant-loop-k : goal.invariant-loop-k
invariant-loop-k l = Passing (Zero l.entries) l.m 4 l.k
