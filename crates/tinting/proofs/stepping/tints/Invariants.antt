-- Each turn puts one more value on the stack.
use mathlib.Core.Path.{◌≡◌}
use Rattle.form.specs.Steps.{tints_in}
use Rattle.tinting.proofs.stepping.tints.Given as goal

abbrev pub invariant-loop-value : goal.invariant-loop-value
invariant-loop-value l = l.stack ≡ tints_in l.value-index l.values
