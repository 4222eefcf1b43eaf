-- The kinds below i are those of the bits, whose rest are those from i on.
use mathlib.Core.Path.{◌≡◌}
use Prim.Native.Nat.{◌-◌}
use Rattle.stack.specs.Memory.{stack_of}
use Rattle.form.specs.Table.{kinds_up, bits_of}
use Rattle.form.proofs.bits.is_packed.Given as goal

abbrev pub invariant-loop-i : goal.invariant-loop-i
invariant-loop-i l = kinds_up l.rest (l.to - l.i) (bits_of (stack_of l.kinds l.i)) ≡ kinds_up l.bits (l.to - l.from) (bits_of (stack_of l.kinds l.from))
