-- The weighted sum of two raised numbers, and its rounded quotient: the laws are in Way.
use borrow.Author.Rules.{rules}
use mathlib.Core.Path.{◌∙◌, sym}
use native.Mathlib.Omega.{arith}
use Prim.Native.Nat.{ℕ, ◌+◌, ◌*◌, ◌-◌, ◌/◌, ◌≤◌, ◌<◌, ◌^◌}
use Rattle.fixed.specs.Numbers.{part_way}
use Rattle.fixed.proofs.Diff.{Diff, of_eq, eq-sub}
use Rattle.fixed.proofs.Signs.{signed_back}
use Rattle.fixed.proofs.Way.{sum-le, quot-lt, point}
use Rattle.fixed.proofs.rounding.part_way.Goals as goal

-- what is known once both are raised
module _ (c : goal.After-raised-b) where
  abbrev d : ℕ
  d = c.args.d

  abbrev q : ℕ
  q = c.args.q

  abbrev a : ℕ
  a = c.raised-a.result

  abbrev b : ℕ
  b = c.raised-b.result

  sum-small : (d - q) * a + q * b ≤ d * 4294967295
  sum-small = sum-le _ _ _ _ c.requires.0 c.raised-a.ensures.0 c.raised-b.ensures.0

  quot-small : (2 * ((d - q) * a + q * b) + d) / (2 * d) < 2 ^ 32
  quot-small = quot-lt _ _ _ _ c.requires.0 c.raised-a.ensures.0 c.raised-b.ensures.0 c.requires.1

  right : Diff (part_way d q c.args.x c.args.y) ((2 * ((d - q) * a + q * b) + d) / (2 * d)) (2 ^ 31)
  right = point _ _ _ _ c.requires.0 c.raised-a.ensures.0 c.raised-b.ensures.0 c.requires.1 (of_eq _ _ (sym (signed_back c.ranges.x) ∙ c.raised-a.ensures.1)) (of_eq _ _ (sym (signed_back c.ranges.y) ∙ c.raised-b.ensures.1))

pub overflow_mul-n : goal.overflow_mul-n
overflow_mul-n c = omega (arith, sum-small c)

pub overflow_mul-n-2 : goal.overflow_mul-n-2
overflow_mul-n-2 c = omega (arith, sum-small c)

pub overflow_add-n : goal.overflow_add-n
overflow_add-n c = omega (arith, sum-small c)

pub overflow_mul-n-3 : goal.overflow_mul-n-3
overflow_mul-n-3 c = omega (arith, sum-small c)

pub overflow_add-n-2 : goal.overflow_add-n-2
overflow_add-n-2 c = omega (arith, sum-small c)

pub lowered-requires : goal.lowered-requires
lowered-requires c = quot-small c

pub returns : goal.returns
returns c = (search (rules) ∙ c.lowered.ensures ∙ sym (eq-sub (right c.before)))
