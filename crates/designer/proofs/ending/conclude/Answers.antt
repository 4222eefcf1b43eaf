-- `conclude`: each way out is one law.
use mathlib.Core.Path.{sym, ap, ◌∙◌}
use Prim.Native.Nat.{ℕ}
use lib.ListN.{length}
use Rattle.reader.specs.Texts.{refusal}
use Rattle.judging.proofs.Judged.{ends-refused, ends_same}
use Rattle.designer.proofs.Endings.{concluded-refused, concluded-unfinished, concluded-short, concluded-judged}
use Rattle.designer.proofs.ending.conclude.Goals as goal

pub returns-then-s-ne0 : goal.returns-then-s-ne0
returns-then-s-ne0 c =
    let a = c.args in
    λ values word marks names. ends-refused _ _ _ (concluded-refused (length a.out.now) a.s values word marks names a.opens.now a.blocks.now c.if-s-ne0.true)

pub returns-then-not-is_whole : goal.returns-then-not-is_whole
returns-then-not-is_whole c =
    let a = c.args in
    λ values word marks names. ends-refused _ _ _
    (concluded-unfinished (length a.out.now) a.s values word marks names a.opens.now a.blocks.now c.if-s-ne0.false
    (sym c.is_whole.ensures ∙ c.if-not-is_whole.true) ∙ ap (λ (n : ℕ). refusal n a.s.lexer.seen) (sym c.number-number.ensures))

pub returns-then-out-g : goal.returns-then-out-g
returns-then-out-g c =
    let a = c.args in
    λ values word marks names. ends-refused _ _ _
    (concluded-short (length a.out.now) a.s values word marks names a.opens.now a.blocks.now c.if-s-ne0.false
    (sym c.is_whole.ensures ∙ c.if-not-is_whole.false) c.if-out-g.true ∙ ap (λ (n : ℕ). refusal n a.s.lexer.seen) (sym c.number-number-then-out-g.ensures))

pub returns : goal.returns
returns c =
    let a = c.args in
    λ values word marks names. ends_same _ _ _ (c.judge.ensures values marks names)
    (concluded-judged (length a.out.now) a.s values word marks names a.opens.now a.blocks.now c.if-s-ne0.false
    (sym c.is_whole.ensures ∙ c.if-not-is_whole.false) c.if-out-g.false)
