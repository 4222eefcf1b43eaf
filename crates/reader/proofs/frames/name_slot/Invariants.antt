-- The length and then the bytes, one by one: `name-put` of Rings.
use mathlib.Core.Path.{◌≡◌}
use Prim.Native.Nat.{◌+◌, ◌*◌}
use lib.ListN.{length, take}
use lib.Seq.{sets}
use Rattle.reader.specs.Kept.{ring}
use Rattle.reader.proofs.frames.name_slot.Given as goal

abbrev pub invariant-loop-i : goal.invariant-loop-i
invariant-loop-i l = (length l.names ≡ 128 * ring) × (l.names ≡ sets l.initial.names (l.at + 1) (take l.i l.word))
