use mathlib.Core.Path.{sym, ap, ◌∙◌}
use Prim.Native.Nat.{ℕ}
use borrow.Author.Tests.{eq-eqb, ne_eqb}
use Rattle.fixed.specs.Loops.{all_between}
use Rattle.record.specs.Reading.{same_names}
use Rattle.fixed.proofs.Scans.{passing-turn, passing-stop, passing-end}
use Rattle.record.proofs.Compared.{as_long}
use Rattle.record.proofs.names.is_same_name.Invariants.{Same}
use Rattle.record.proofs.names.is_same_name.Goals as goal

pub returns-then-byte_at : goal.returns-then-byte_at
unfolding same_names
returns-then-byte_at c =
    as_long _ _ _ c.byte_at-size.ensures.is _ _ (c.if-size-byte_at.false ∙ c.byte_at.ensures.is) (passing-stop _ _ _ _ c.loop-k.invariant c.loop-k-test.true (ne_eqb _ _ (λ z. c.if-byte_at.true (c.byte_at-in-loop-k.ensures.is ∙ (z ∙ sym c.byte_at-in-loop-k-2.ensures.is)))) ∙ ap (λ (n : ℕ). all_between (Same c.args.s.now c.args.p c.args.q) 0 n) c.byte_at-size.ensures.is)

pub loop-k-preserved : goal.loop-k-preserved
loop-k-preserved c =
    passing-turn _ _ _ _ c.loop-k.invariant c.loop-k-test.true (eq-eqb _ _ (sym c.byte_at-in-loop-k.ensures.is ∙ (c.if-byte_at.false ∙ c.byte_at-in-loop-k-2.ensures.is)))

pub returns : goal.returns
unfolding same_names
returns c =
    as_long _ _ _ c.byte_at-size.ensures.is _ _ (c.if-size-byte_at.false ∙ c.byte_at.ensures.is) (passing-end _ _ _ _ c.loop-k.invariant c.loop-k-test.false ∙ ap (λ (n : ℕ). all_between (Same c.args.s.now c.args.p c.args.q) 0 n) c.byte_at-size.ensures.is)
