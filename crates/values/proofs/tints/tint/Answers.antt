-- The tint is value 0 limited, to its exponent; the components are `fill_tint`'s.
use mathlib.Core.Path.{◌≡◌, ◌∙◌}
use borrow.Author.Rules.{rules}
use mir.Syntax.{w32}
use mir.Val.{to_z, of_z}
use Rattle.fixed.specs.Numbers.{tint_value}
use Rattle.fixed.specs.Values.{value, filled}
use Rattle.fixed.proofs.Steps.{tint-made}
use Rattle.values.proofs.Steps.{tint-taken}
use Rattle.values.proofs.tints.tint.Goals as goal

pub returns : goal.returns
returns c =
    let x : to_z w32 (of_z w32 (value c.args.c.values 0)) ≡ value c.args.c.values 0 = search rules in
    tint-made c.args.c c.args.p.exponent c.args.m _ _ _
    (c.fill_tint.ensures ∙
    (λ i. filled (λ k. tint_value (value (c.entries_of.ensures i) k) (value (c.entries_of-2.ensures i) k) c.tint_power-q.result) c.args.m c.args.c.values) ∙
    tint-taken c.args.p.exponent c.args.m _ c.tint_power-q.result (to_z w32 (of_z w32 (value c.args.c.values 0))) _ _ c.args.c.values x c.unit_part.ensures.is c.tint_power-q.ensures.is)
    c.is_outside.ensures x
