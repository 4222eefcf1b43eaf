-- Each turn looks at one more value.
use mathlib.Core.Path.{◌≡◌}
use Rattle.form.specs.Steps.{tints_outside}
use Rattle.tinting.proofs.stepping.is_moving.Given as goal

abbrev pub invariant-loop-value : goal.invariant-loop-value
invariant-loop-value l = l.moving ≡ tints_outside l.value-index l.values
