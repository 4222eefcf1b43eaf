-- The second pass: blocks below i have no fault, and `claimed` is what the last Indexed block, or Separation with a program, before i still claims.
use mathlib.Core.Path.{◌≡◌}
use mathlib.Core.List.{List}
use Prim.Native.Nat.{ℕ}
use Rattle.fixed.proofs.Scans.{Clean}
use Rattle.page.specs.Outcomes.{accepted, refused}
use Rattle.runs.specs.Runs.{claimed_at}
use Rattle.page.specs.Validation.{fault_two}
use Rattle.page.proofs.second.pass_two.Given as goal

pub record At (page : List ℕ) (n i claimed : ℕ) : Type 0 where
  pub clean : Clean accepted refused (fault_two page) n i
  pub claimed-is : claimed ≡ claimed_at page i

abbrev pub invariant-loop-i : goal.invariant-loop-i
invariant-loop-i l = At l.page l.n l.i l.claimed
