use mathlib.Core.Path.{◌≡◌, sym, ap, ◌∙◌}
use Prim.Native.Nat.{ℕ}
use native.Mathlib.Omega.{arith}
use lib.ListN.{drop}
use lib.Seq.{drop-length}
use Rattle.tenths.proofs.Order.{turn-differs, turn-same, same-most}
use Rattle.tenths.proofs.limbs.at_most.Goals as goal

pub loop-i-init : goal.loop-i-init
loop-i-init c =
    let b = c.args.b.now in drop-length c.args.a.now ∙ sym (ap (λ (n : ℕ). drop n b) c.requires.0 ∙ drop-length b)

pub returns-then-a-i : goal.returns-then-a-i
returns-then-a-i c =
    let p = c.requires in turn-differs c.args.a.now c.args.b.now c.loop-i.i p.0 p.1 p.2 c.loop-i-test.true c.loop-i.auto.i c.loop-i.invariant c.if-a-i.true

pub loop-i-preserved : goal.loop-i-preserved
loop-i-preserved c =
    let p = c.requires in turn-same c.args.a.now c.args.b.now c.loop-i.i p.0 p.1 p.2 c.loop-i-test.true c.loop-i.auto.i c.loop-i.invariant c.if-a-i.false

pub returns : goal.returns
returns c =
    let z : c.loop-i.i ≡ 0 = omega arith in same-most (rw z at c.loop-i.invariant)
