-- The loop has unpacked the first i kinds; what is left of the bits are those above.
use mathlib.Core.Path.{◌≡◌}
use Prim.Native.Nat.{◌-◌, ◌+◌}
use lib.ListN.{length}
use Rattle.form.specs.Table.{kinds_up}
use Rattle.form.proofs.bits.unpack.Given as goal

abbrev pub invariant-loop-i : goal.invariant-loop-i
invariant-loop-i l = (length l.stack ≡ l.i + length l.initial.stack) × (kinds_up l.rest (l.n - l.i) l.stack ≡ kinds_up l.bits l.n l.initial.stack)
