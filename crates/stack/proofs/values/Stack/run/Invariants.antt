-- What is left to run from `at` on is what there was to run: each turn takes one item off the front.
use mathlib.Core.Path.{◌≡◌}
use Prim.Native.Nat.{◌-◌, ◌≤◌}
use lib.ListN.{length, drop}
use Rattle.stack.specs.Flat.{runs}
use Rattle.stack.proofs.values.Stack.run.Given as goal

abbrev pub invariant-items : goal.invariant-items
invariant-items l = (l.at ≤ length l.words) × (runs (drop l.at l.words) l.self ≡ runs l.words l.initial.self)

abbrev pub decreases-items : goal.decreases-items
decreases-items l = length l.words - l.at
