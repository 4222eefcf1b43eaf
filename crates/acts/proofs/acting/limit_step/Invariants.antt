-- One value is limited, where the loop comes to its place; it moved where it lay outside.
use mathlib.Core.Path.{◌≡◌}
use Prim.Native.Nat.{◌≤◌, ◌<◌}
use Rattle.fixed.specs.Values.{limit_step}
use Rattle.fixed.specs.declared.values.Colour.{Colour}
use Rattle.acts.proofs.acting.limit_step.Given as goal

abbrev pub invariant-loop-i : goal.invariant-loop-i
invariant-loop-i l = let start : Colour = record { values = l.initial.values; moved = l.initial.moved } in
    let now : Colour = record { values = l.values; moved = l.moved } in
    (l.i ≤ l.k → now ≡ start) × (l.k < l.i → now ≡ limit_step l.k l.lo l.hi start)
