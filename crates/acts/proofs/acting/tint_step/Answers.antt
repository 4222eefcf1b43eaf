-- The tint is value 0 limited, to its exponent; the components are `fill_tint`'s.
use mathlib.Core.Path.{◌≡◌, ◌∙◌}
use mir.Syntax.{w32}
use mir.Val.{to_z, of_z}
use borrow.Author.Rules.{rules}
use Rattle.fixed.specs.Values.{value}
use Rattle.fixed.proofs.Steps.{tint-made}
use Rattle.acts.proofs.Acts.{tint-taken}
use Rattle.acts.proofs.acting.tint_step.Goals as goal

pub returns : goal.returns
returns c =
    let a = c.args in
    let x : to_z w32 (of_z w32 (value a.c.values 0)) ≡ value a.c.values 0 = search rules in
    tint-made a.c a.e a.m _ _ _
    (c.fill_tint.ensures ∙ tint-taken a.l.now a.c.values a.e a.m c.unit_part.result c.tint_power-q.result _ c.unit_part.ensures.is c.tint_power-q.ensures.is x)
    c.is_outside.ensures x
