-- Each turn stores one more word.
use mathlib.Core.Path.{◌≡◌}
use Prim.Native.Nat.{◌+◌}
use Rattle.fixed.specs.Values.{value, filled}
use Rattle.acts.proofs.acting.fill_row.Given as goal

abbrev pub invariant-loop-k : goal.invariant-loop-k
invariant-loop-k l = l.values ≡ filled (λ j. value l.l (l.at + j)) l.k l.initial.values
