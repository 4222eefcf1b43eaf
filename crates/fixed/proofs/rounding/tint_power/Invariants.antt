-- The loop makes one power after the other; none is above 1.
use mathlib.Core.Path.{◌≡◌}
use Prim.Native.Nat.{◌≤◌, ◌-◌, ◌+◌}
use Rattle.fixed.specs.Numbers.{tint_power}
use Rattle.fixed.proofs.rounding.tint_power.Given as goal

abbrev pub invariant-loop : goal.invariant-loop
invariant-loop l = (l.q ≡ tint_power l.x l.counter) × (l.q ≤ 1000000) × (l.counter ≤ (l.exponent - 1) + 1)
