use mathlib.Core.Path.{sym, ◌∙◌}
use Rattle.std.proofs.lemmas.List.{take_rest}
use Rattle.symbols.proofs.Lexed.{skip-comment, skip-percent, skip-white, skip-stops, skip-ends}
use Rattle.symbols.proofs.lexing.skip.Goals as goal
use Rattle.symbols.proofs.lexing.skip.Goals.{then-commented, else-commented+then-b-eq37, else-commented+else-b-eq37+else-not-is_white}

pub returns-then-not-is_white : goal.returns-then-not-is_white
returns-then-not-is_white c =
    let text = c.args.text.now in
    let i = c.loop-i.i in
    take_rest text i ∙ (sym (skip-stops text i c.loop-i-test.true c.if-b-eq37.false (sym c.is_white.ensures ∙ c.if-not-is_white.true)) ∙ rw c.if-commented.false at c.loop-i.invariant)

pub loop-i-preserved : goal.loop-i-preserved
loop-i-preserved c =
    let text = c.args.text.now in
    let i = c.loop-i.i in
    elim c.if-commented.branch [
      | then-commented w ↦
          rw w.commented-is
          (sym (skip-comment text i c.loop-i-test.true w.is_line_end-commented.ensures)
          ∙ rw w.if-commented.true at c.loop-i.invariant)
      | else-commented+then-b-eq37 w ↦
          rw w.commented-is
          (sym (skip-percent text i c.loop-i-test.true w.if-b-eq37.true) ∙ rw w.if-commented.false at c.loop-i.invariant)
      | else-commented+else-b-eq37+else-not-is_white w ↦
          rw (w.commented-is, w.if-commented.false)
          (sym (skip-white text i c.loop-i-test.true w.if-b-eq37.false (sym w.is_white.ensures ∙ w.if-not-is_white.false))
          ∙ rw w.if-commented.false at c.loop-i.invariant)
    ]

pub returns : goal.returns
returns c = sym (skip-ends c.loop-i.commented c.args.text.now c.loop-i.i c.loop-i-test.false) ∙ c.loop-i.invariant
