-- The loop has packed the kinds from i upward; a bit more in front is a kind more below.
use mathlib.Core.Path.{◌≡◌}
use Prim.Native.Nat.{◌-◌, ◌≤◌, ◌<◌}
use Rattle.stack.specs.Memory.{stack_of}
use Rattle.form.specs.Table.{kinds_up, bits_of}
use Rattle.form.proofs.Tables.{twice}
use Rattle.form.proofs.bits.packed.Given as goal

abbrev pub invariant-loop-i : goal.invariant-loop-i
invariant-loop-i l = (l.from ≤ l.i) × (l.bits < twice (l.to - l.i)) × (kinds_up l.bits (l.to - l.i) (bits_of (stack_of l.kinds l.i)) ≡ bits_of (stack_of l.kinds l.to))
