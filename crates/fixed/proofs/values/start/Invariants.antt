-- Each turn gives one more value; all of them are `given`.
use mathlib.Core.Path.{◌≡◌}
use Rattle.fixed.specs.Values.{value, filled}
use Rattle.fixed.proofs.values.start.Given as goal

abbrev pub invariant-loop-k : goal.invariant-loop-k
invariant-loop-k l = l.value-items ≡ filled (value l.components) l.k l.initial.value-items
