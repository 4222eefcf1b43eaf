-- Each turn passes over one name: its length and so many bytes.
use mathlib.Core.Path.{◌≡◌}
use Prim.Native.Nat.{◌*◌, ◌≤◌}
use Rattle.record.specs.Reading.{name_place}
use Rattle.record.proofs.names.name_place.Given as goal

abbrev pub invariant-loop : goal.invariant-loop
invariant-loop l = (l.at ≡ name_place l.s l.counter) × (l.at ≤ 256 * l.counter)
