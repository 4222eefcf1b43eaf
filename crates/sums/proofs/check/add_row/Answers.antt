use mathlib.Core.Path.{◌≡◌, ap, sym, ◌∙◌}
use Prim.Native.Nat.{ℕ, ◌+◌, ◌*◌}
use native.Mathlib.Nat.{le_refl}
use native.Mathlib.Omega.{arith}
use lib.ListN.{get_or}
use lib.Seq.{get_or-drop}
use Rattle.sums.proofs.TwoSums.{turned}
use Rattle.sums.proofs.check.add_row.Goals as goal

pub loop-k-init : goal.loop-k-init
loop-k-init c =
    let columns = c.requires.2 in
    record {
      within = omega arith;
      sums-long = columns.sums-long;
      runnings-long = columns.runnings-long;
      done = λ j h. absurd (omega arith);
      left = λ j _ h. columns.column j h;
    }

pub overflow_add-sum : goal.overflow_add-sum
overflow_add-sum c =
    let row = c.args in
    let loop = c.loop-k in
    let byte = c.type_inv.page (512 * row.n + 32 * row.row + loop.k) in
    omega (arith, byte, c.from.ensures, (loop.invariant.left loop.k (le_refl loop.k) c.loop-k-test.true).sum-most)

pub overflow_add-runnings : goal.overflow_add-runnings
overflow_add-runnings c =
    let row = c.args in
    let loop = c.loop-k in
    let byte = c.type_inv.page (512 * row.n + 32 * row.row + loop.k) in
    let column = loop.invariant.left loop.k (le_refl loop.k) c.loop-k-test.true in
    omega (arith, byte, c.from.ensures, column.sum-most, column.running-most)

pub loop-k-preserved : goal.loop-k-preserved
loop-k-preserved c =
    let row = c.args in
    let asked = c.requires in
    let loop = c.loop-k in
    let start = 512 * row.n in
    let at : start + 32 * row.row + loop.k ≡ start + (32 * row.row + loop.k) = omega arith in
    let byte = c.type_inv.page (start + 32 * row.row + loop.k) in
    turned _ _ _ row.row loop.k _ loop.invariant asked.1 c.loop-k-test.true
    (c.from.ensures ∙ ap (λ (i : ℕ). get_or row.page.now i 0) at ∙ sym (get_or-drop start row.page.now (32 * row.row + loop.k) 0)) (omega (arith, byte, c.from.ensures))

pub returns : goal.returns
returns c =
    let loop = c.loop-k in
    let e : loop.k ≡ 32 = omega (arith, loop.invariant.within) in
    record { sums-long = loop.invariant.sums-long; runnings-long = loop.invariant.runnings-long; column = λ j h. loop.invariant.done j (rw e h) }
