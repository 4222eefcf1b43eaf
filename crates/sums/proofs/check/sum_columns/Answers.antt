use mathlib.Core.Path.{◌≡◌}
use native.Mathlib.Omega.{arith}
use Rattle.sums.proofs.TwoSums.{aside, parts, parted}
use Rattle.sums.proofs.check.sum_columns.Goals as goal

pub loop-k-init : goal.loop-k-init
loop-k-init c = aside _

pub overflow_add-sum_high : goal.overflow_add-sum_high
overflow_add-sum_high c =
    let loop = c.loop-k in
    let rows = c.sum_rows in
    let q = parts _ loop.k _ _ c.loop-k-test.true (rows.ensures.column loop.k c.loop-k-test.true) in
    omega (arith, loop.invariant.sh-most, q.high-most)

pub overflow_add-running_high : goal.overflow_add-running_high
overflow_add-running_high c =
    let loop = c.loop-k in
    let rows = c.sum_rows in
    let q = parts _ loop.k _ _ c.loop-k-test.true (rows.ensures.column loop.k c.loop-k-test.true) in
    omega (arith, loop.invariant.rh-most, q.running-high-most)

pub overflow_mul-place_high : goal.overflow_mul-place_high
overflow_mul-place_high c =
    let loop = c.loop-k in
    let rows = c.sum_rows in
    let q = parts _ loop.k _ _ c.loop-k-test.true (rows.ensures.column loop.k c.loop-k-test.true) in
    omega (arith, q.place-high-most)

pub overflow_add-place_high : goal.overflow_add-place_high
overflow_add-place_high c =
    let loop = c.loop-k in
    let rows = c.sum_rows in
    let q = parts _ loop.k _ _ c.loop-k-test.true (rows.ensures.column loop.k c.loop-k-test.true) in
    omega (arith, loop.invariant.ph-most, q.place-high-most)

pub overflow_mul-place_low : goal.overflow_mul-place_low
overflow_mul-place_low c =
    let loop = c.loop-k in
    let rows = c.sum_rows in
    let q = parts _ loop.k _ _ c.loop-k-test.true (rows.ensures.column loop.k c.loop-k-test.true) in
    omega (arith, q.place-low-most)

pub overflow_add-place_low : goal.overflow_add-place_low
overflow_add-place_low c =
    let loop = c.loop-k in
    let rows = c.sum_rows in
    let q = parts _ loop.k _ _ c.loop-k-test.true (rows.ensures.column loop.k c.loop-k-test.true) in
    omega (arith, loop.invariant.pl-most, q.place-low-most)

pub loop-k-preserved : goal.loop-k-preserved
loop-k-preserved c =
    let loop = c.loop-k in
    let rows = c.sum_rows in
    parted _ _ _ _ _ _ _ loop.k _ _ loop.invariant c.loop-k-test.true (rows.ensures.column loop.k c.loop-k-test.true)

pub returns : goal.returns
returns c =
    let loop = c.loop-k in
    let e : loop.k ≡ 32 = omega (arith, loop.invariant.across.within) in rw e at loop.invariant.across
