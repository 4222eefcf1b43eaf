use mathlib.Core.Path.{◌≡◌, refl, ap, ◌∙◌}
use native.Mathlib.Omega.{arith}
use mir.Syntax.{w32}
use mir.Val.{to_z, of_z}
use Rattle.fixed.specs.Numbers.{limited, outside}
use Rattle.fixed.specs.Values.{value, limit_step}
use Rattle.fixed.specs.declared.values.Colour.{Colour}
use Rattle.fixed.proofs.Signs.{signed-within, signed_is, signed_back}
use Rattle.fixed.proofs.Steps.{limit-made}
use Rattle.acts.proofs.acting.limit_step.Goals as goal
use Rattle.acts.proofs.acting.limit_step.Goals.{then-i-k, else-i-k}

pub loop-i-init : goal.loop-i-init
loop-i-init c = (λ _. refl, λ h. absurd (omega arith))

pub loop-i-preserved : goal.loop-i-preserved
loop-i-preserved c =
    let turn = c.loop-i in
    let a = c.args in
    let lo = to_z w32 (of_z w32 a.lo) in
    let hi = to_z w32 (of_z w32 a.hi) in
    let now : Colour = record { values = turn.values; moved = turn.moved } in
    elim c.if-i-k.branch [
      | then-i-k w ↦
          let v = signed-within (value turn.values turn.i) w.v-1.given in
          let x = signed_is _ w.limit.type_inv (w.limit.ensures ∙ ap (limited lo hi) v) in
          let t = w.is_outside-moved.ensures ∙ ap (outside lo hi) v in
          let made = limit-made now turn.i lo hi x t in (
            λ h. absurd (omega arith),
            λ _. (λ j. record { values = w.values-is j; moved = w.moved-is j }) ∙ made ∙ (λ j. limit_step (w.if-i-k.true j) lo hi (turn.invariant.0 (omega arith) j)),
          )
      | else-i-k w ↦
          let stays : ◌≡◌ {A = Colour} (record { values = c.if-i-k.values; moved = c.if-i-k.moved }) now = λ j. record { values = w.values-is j; moved = w.moved-is j } in
          (λ h. stays ∙ turn.invariant.0 (omega arith), λ h. stays ∙ turn.invariant.1 (omega arith))
    ]

pub returns : goal.returns
returns c =
    let a = c.args in
    c.loop-i.invariant.1 (omega arith) ∙ (λ i. limit_step a.k (signed_back c.ranges.lo i) (signed_back c.ranges.hi i) a.c)
