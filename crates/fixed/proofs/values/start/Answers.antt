use mathlib.Core.Path.{◌≡◌, refl, ◌∙◌}
use mathlib.Core.Bool.{false}
use native.Mathlib.Omega.{arith}
use Rattle.fixed.specs.Values.{places, value, listed, filled, given}
use Rattle.fixed.proofs.Signs.{signed_is}
use Rattle.fixed.proofs.Listed.{filled-turn}
use Rattle.fixed.proofs.values.start.Goals as goal

pub loop-k-init : goal.loop-k-init
unfolding filled
loop-k-init c = refl

pub loop-k-preserved : goal.loop-k-preserved
loop-k-preserved c =
    filled-turn (value c.args.components.now) _ _ c.loop-k.invariant (signed_is _ c.value_at.type_inv c.value_at.ensures)

pub returns : goal.returns
unfolding filled listed
returns c =
    let e : c.loop-k.k ≡ places = omega arith in
    let all : c.loop-k.value-items ≡ given places c.args.components.now = c.loop-k.invariant ∙ rw e in
    λ i. record { values = all i; moved = false }
