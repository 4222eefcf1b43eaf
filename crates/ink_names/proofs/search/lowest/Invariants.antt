-- `lowest`: no block below i is an ink of that name.
use Prim.Native.Nat.{ℕ}
use Rattle.std.specs.Prelude.{Option, Some, None}
use Rattle.fixed.proofs.Scans.{Clean}
use Rattle.ink_names.proofs.Found.{mark}
use Rattle.ink_names.proofs.search.lowest.Given as goal

abbrev pub invariant-loop-i : goal.invariant-loop-i
invariant-loop-i l = Clean {A = Option ℕ} None (λ _ k. Some k) (mark l.page l.name) l.n l.i
