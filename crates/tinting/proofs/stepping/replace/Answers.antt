use mathlib.Core.Path.{◌≡◌, refl, ap, ◌∙◌}
use Prim.Native.Nat.{ℕ, ◌-◌, ◌≤◌, min}
use native.Mathlib.Omega.{arith}
use borrow.Author.Rules.{rules}
use lib.ListN.{length}
use Rattle.fixed.specs.Values.{value, filled}
use Rattle.fixed.proofs.Signs.{signed_is}
use Rattle.fixed.proofs.Listed.{filled-turn}
use Rattle.form.specs.Steps.{results}
use Rattle.tinting.proofs.Made.{filled-min}
use Rattle.tinting.proofs.stepping.replace.Goals as goal

pub loop-k-init : goal.loop-k-init
unfolding filled
loop-k-init c = refl

pub loop-k-preserved : goal.loop-k-preserved
loop-k-preserved c =
    filled-turn (λ j. value c.args.stack.now (c.args.m - 1 - j)) _ _ c.loop-k.invariant (signed_is c.value_at.result c.value_at.type_inv c.value_at.ensures)

pub returns : goal.returns
unfolding results
returns c =
    let e : c.loop-k.k ≡ min c.args.m 8 = omega arith in
    let f = λ (j : ℕ). value c.args.stack.now (c.args.m - 1 - j) in
    let l : length c.args.values.now ≤ 8 = search rules in
    c.loop-k.invariant ∙ (ap (λ (k : ℕ). filled f k c.args.values.now) e ∙ filled-min f c.args.m 8 c.args.values.now l)
