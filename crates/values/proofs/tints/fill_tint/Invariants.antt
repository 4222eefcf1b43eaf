-- The loop's invariant: the first k values are tinted.
use mathlib.Core.Path.{◌≡◌}
use Rattle.fixed.specs.Numbers.{tint_value}
use Rattle.fixed.specs.Values.{value, filled}
use Rattle.values.proofs.tints.fill_tint.Given as goal

abbrev pub invariant-loop-k : goal.invariant-loop-k
invariant-loop-k l = l.values ≡ filled (λ j. tint_value (value l.c0 j) (value l.c1 j) l.q) l.k l.initial.values
