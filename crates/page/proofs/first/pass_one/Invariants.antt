-- The first pass: blocks below i have no fault.
use Rattle.fixed.proofs.Scans.{Clean}
use Rattle.page.specs.Outcomes.{accepted, refused}
use Rattle.page.specs.Validation.{fault_one}
use Rattle.page.proofs.first.pass_one.Given as goal

abbrev pub invariant-loop-i : goal.invariant-loop-i
invariant-loop-i l = Clean accepted refused (fault_one l.page) l.n l.i
