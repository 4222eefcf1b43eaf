use mathlib.Core.Path.{sym, ◌∙◌}
use native.Mathlib.Omega.{arith}
use borrow.Author.Tests.{eq-eqb, ne_eqb}
use Rattle.record.specs.Reading.{name_is}
use Rattle.fixed.proofs.Scans.{passing-turn, passing-stop, passing-end}
use Rattle.record.proofs.Compared.{as_long}
use Rattle.record.proofs.names.is_name.Goals as goal

pub returns-then-byte_at-from : goal.returns-then-byte_at-from
unfolding name_is
returns-then-byte_at-from c =
    as_long _ _ _ c.byte_at-size.ensures.is _ _ c.if-size-name.false (passing-stop _ _ _ _ c.loop-k.invariant (omega arith) (ne_eqb _ _ (λ z. c.if-byte_at-from.true (c.byte_at.ensures.is ∙ z ∙ sym c.from.ensures))))

pub loop-k-preserved : goal.loop-k-preserved
loop-k-preserved c =
    passing-turn _ _ _ _ c.loop-k.invariant (omega arith) (eq-eqb _ _ (sym c.byte_at.ensures.is ∙ c.if-byte_at-from.false ∙ c.from.ensures))

pub returns : goal.returns
unfolding name_is
returns c =
    as_long _ _ _ c.byte_at-size.ensures.is _ _ c.if-size-name.false (passing-end _ _ _ _ c.loop-k.invariant (omega arith))
