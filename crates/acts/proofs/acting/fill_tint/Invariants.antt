-- Each turn stores one more component.
use mathlib.Core.Path.{◌≡◌}
use Prim.Native.Nat.{◌+◌}
use Rattle.fixed.specs.Numbers.{tint_value}
use Rattle.fixed.specs.Values.{value, filled}
use Rattle.acts.proofs.acting.fill_tint.Given as goal

abbrev pub invariant-loop-k : goal.invariant-loop-k
invariant-loop-k l = l.values ≡ filled (λ j. tint_value (value l.l (3 + j)) (value l.l (3 + l.m + j)) l.q) l.k l.initial.values
