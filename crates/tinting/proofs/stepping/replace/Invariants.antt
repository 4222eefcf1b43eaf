-- The first k values are replaced.
use mathlib.Core.Path.{◌≡◌}
use Prim.Native.Nat.{◌-◌}
use Rattle.fixed.specs.Values.{value, filled}
use Rattle.tinting.proofs.stepping.replace.Given as goal

abbrev pub invariant-loop-k : goal.invariant-loop-k
invariant-loop-k l = l.values ≡ filled (λ j. value l.stack (l.m - 1 - j)) l.k l.initial.values
