-- `sum_up` takes the last four bytes off what the columns come to.
use mathlib.Core.Path.{ap}
use Prim.Native.Nat.{ℕ, ◌%◌}
use native.Mathlib.Omega.{arith}
use Rattle.record.specs.Layout.{plain, weighed}
use Rattle.sums.proofs.TwoSums.{settles}
use Rattle.sums.proofs.check.sum_up.Goals as goal

pub overflow_sub-result : goal.overflow_sub-result
overflow_sub-result c =
    let z = settles _ _ _ _ _ _ _ _ c.sum_columns-t.ensures c.byte_at-a.ensures.is c.byte_at-b.ensures.is c.byte_at-c.ensures.is c.byte_at-d.ensures.is in
    omega (arith, z.sum-least)

pub overflow_sub-result-2 : goal.overflow_sub-result-2
overflow_sub-result-2 c =
    let z = settles _ _ _ _ _ _ _ _ c.sum_columns-t.ensures c.byte_at-a.ensures.is c.byte_at-b.ensures.is c.byte_at-c.ensures.is c.byte_at-d.ensures.is in
    omega (arith, z.over-least)

pub returns : goal.returns
unfolding plain weighed
returns c =
    let z = settles _ _ _ _ _ _ _ _ c.sum_columns-t.ensures c.byte_at-a.ensures.is c.byte_at-b.ensures.is c.byte_at-c.ensures.is c.byte_at-d.ensures.is in
    (ap (λ (x : ℕ). x % 65535) z.plain-is, ap (λ (x : ℕ). x % 65535) z.weighed-is)
