-- The invariant: what the steps that are left reply to the values is what all of them reply to those given.
-- Each turn reads a step, which closes or leaves other values.
use mathlib.Core.Path.{◌≡◌}
use Prim.Native.Nat.{◌≤◌}
use lib.ListN.{length, drop}
use Rattle.runner.specs.Runs.{runs}
use Rattle.runner.proofs.running.run_steps.Given as goal

abbrev pub invariant-loop-s : goal.invariant-loop-s
invariant-loop-s l = (length l.rest ≤ length l.words) × (runs l.n l.count l.rest l.v ≡ runs l.n l.count (drop 1 l.words) l.initial.v)

abbrev pub decreases-loop-s : goal.decreases-loop-s
decreases-loop-s l = length l.rest
