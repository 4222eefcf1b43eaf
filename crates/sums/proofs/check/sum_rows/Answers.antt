use mathlib.Core.Path.{◌≡◌}
use native.Mathlib.Omega.{arith}
use Rattle.sums.proofs.TwoSums.{above}
use Rattle.sums.proofs.check.sum_rows.Goals as goal

pub loop-row-init : goal.loop-row-init
loop-row-init c = above _

pub returns : goal.returns
returns c =
    let loop = c.loop-row in
    let e : loop.row ≡ 16 = omega (arith, (loop.invariant.column 0 (omega arith)).within) in rw e at loop.invariant
