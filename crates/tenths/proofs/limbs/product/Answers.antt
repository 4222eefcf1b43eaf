use Prim.Native.Nat.{ℕ, ◌≤◌, ◌*◌}
use mathlib.Core.Path.{◌≡◌, sym, ◌∙◌}
use lib.ListN.{length-set}
use native.Mathlib.Omega.{arith}
use Rattle.tenths.specs.Limbs.{base, factor_of}
use Rattle.tenths.proofs.Value.{limbs-set}
use Rattle.tenths.proofs.Mixed.{factor-small, pair_small, mixed-none, mixed_two}
use Rattle.tenths.proofs.limbs.product.Goals as goal

pub loop-i-init : goal.loop-i-init
loop-i-init c =
    let s = c.args in (limbs-set c.requires.2 0 1 (omega arith), mixed-none s.u s.p s.n.now (omega arith))

-- a pair of factors is at most the base
pair : (u p i j : ℕ) {a b : ℕ} → u ≤ 10000 → a ≡ factor_of u p i → b ≡ factor_of u p j → a * b ≤ base
pair u p i j h e f = pair_small (rw e (factor-small u p i h)) (rw f (factor-small u p j h))

pub overflow_mul-a : goal.overflow_mul-a
overflow_mul-a c =
    omega (arith, pair c.args.u c.args.p _ _ c.requires.1 c.factor-a.ensures c.factor-b.ensures)

pub mul_small-requires : goal.mul_small-requires
mul_small-requires c =
    let l = length-set c.args.n.now 0 1 in
    (omega arith, pair c.args.u c.args.p _ _ c.requires.1 c.factor-a.ensures c.factor-b.ensures, c.loop-i.invariant.0)

pub loop-i-preserved : goal.loop-i-preserved
loop-i-preserved c =
    let a = c.args in
    let value = c.mul_small.ensures.value
    ∙ (λ t. c.factor-a.ensures t * c.factor-b.ensures t * c.loop-i.invariant.1 t)
    ∙ sym (mixed_two a.u a.p c.loop-i.i) in
    (c.mul_small.ensures.limbs, value)

pub returns : goal.returns
returns c =
    let e : c.loop-i.i ≡ c.args.count = omega arith in (c.loop-i.invariant.0, rw e at c.loop-i.invariant.1)
