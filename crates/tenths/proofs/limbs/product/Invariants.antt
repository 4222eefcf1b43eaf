-- Two factors to a turn: the first i + 1 limbs are the product of the first 2 i factors.
use Prim.Native.Nat.{◌+◌, ◌*◌}
use mathlib.Core.Path.{◌≡◌}
use lib.ListN.{take}
use Rattle.tenths.specs.Limbs.{Limbs, value_of, mixed}
use Rattle.tenths.proofs.limbs.product.Given as goal

abbrev pub invariant-loop-i : goal.invariant-loop-i
invariant-loop-i l = Limbs l.n × (value_of (take (l.i + 1) l.n) ≡ mixed l.u l.p (2 * l.i))
