use Prim.Native.Nat.{◌-◌, ◌+◌, ◌/◌}
use mathlib.Core.Path.{◌≡◌, sym, ◌∙◌}
use native.Mathlib.Omega.{arith}
use Rattle.tenths.specs.Tenths.{reaches}
use Rattle.tenths.proofs.Search.{start, up, down, stopped, probe}
use Rattle.tenths.proofs.decoding.bisect.Goals as goal

pub loop-hi-init : goal.loop-hi-init
loop-hi-init c = start _ _ _ (omega arith)

-- `t` is what the probe in the middle says, in the definition's terms
pub loop-hi-preserved-then-settles : goal.loop-hi-preserved-then-settles
loop-hi-preserved-then-settles c =
    let s = c.args in
    let l = c.loop-hi in
    let n = c.pairs-count in
    let x = c.product in
    let from = n.result - c.div_ceil.result in
    let t : c.settles.result ≡ reaches s.e s.q s.u ((l.lo + l.hi) / 2) =
    probe s.e s.q s.u ((l.lo + l.hi) / 2) ((s.e + 1) / 2) n.result from (n.result + 1 - from) x.new.n c.settles.result (omega (arith, c.div_ceil.ensures)) (omega (arith, c.div_ceil.ensures))
    x.ensures.0 (omega (arith, x.auto.n)) (omega arith) n.ensures.2 n.ensures.3 x.ensures.1 c.settles.ensures
    in
    up _ l.invariant (omega arith) (sym t ∙ c.if-settles.true)

pub loop-hi-preserved : goal.loop-hi-preserved
loop-hi-preserved c =
    let s = c.args in
    let l = c.loop-hi in
    let n = c.pairs-count in
    let x = c.product in
    let from = n.result - c.div_ceil.result in
    let t : c.settles.result ≡ reaches s.e s.q s.u ((l.lo + l.hi) / 2) =
    probe s.e s.q s.u ((l.lo + l.hi) / 2) ((s.e + 1) / 2) n.result from (n.result + 1 - from) x.new.n c.settles.result (omega (arith, c.div_ceil.ensures)) (omega (arith, c.div_ceil.ensures))
    x.ensures.0 (omega (arith, x.auto.n)) (omega arith) n.ensures.2 n.ensures.3 x.ensures.1 c.settles.ensures
    in
    down _ l.invariant (omega arith) (omega arith) (sym t ∙ c.if-settles.false)

pub returns : goal.returns
returns c = stopped c.loop-hi.invariant (omega arith)
