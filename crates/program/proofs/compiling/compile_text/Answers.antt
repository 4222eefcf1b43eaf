use mathlib.Core.Path.{◌∙◌}
use native.Mathlib.Omega.{arith}
use Rattle.program.proofs.Taken.{none-read, first-other, not-whole, first-open, compiling-turn, compiling-many, compiling-end}
use Rattle.program.proofs.compiling.compile_text.Goals as goal

pub returns-in_err-first : goal.returns-in_err-first
returns-in_err-first c = rw c.from_residual.ensures (none-read _ c.in_err-first.ensures.tokens)

pub returns-in_default : goal.returns-in_default
returns-in_default c = first-other _ _ _ c.in_ok-first.ensures.tokens c.in_default.not-Open

pub loop-symbol-init : goal.loop-symbol-init
loop-symbol-init c =
    rw (c.clear.ensures, c.new-outers.ensures)
    (record {
      few = omega arith;
      room = omega arith;
      compiling = first-open _ _ (rw c.in-Open.is at c.in_ok-first.ensures.tokens);
    })

pub returns-then-count-ge-TOKENS : goal.returns-then-count-ge-TOKENS
returns-then-count-ge-TOKENS c =
    compiling-many _ _ _ _ c.loop-symbol.invariant.compiling _ _ c.in-Some.ensures.tokens c.if-count-ge-TOKENS.true

pub loop-symbol-preserved : goal.loop-symbol-preserved
loop-symbol-preserved c =
    record {
      few = omega arith;
      room = omega (arith, c.token-state.ensures.grown, c.loop-symbol.invariant.room);
      compiling = compiling-turn _ _ _ _ c.loop-symbol.invariant.compiling _ _ _ c.in-Some.ensures.tokens c.token-state.ensures.is;
    }

pub returns-in-Whole : goal.returns-in-Whole
returns-in-Whole c =
    let e = compiling-end _ _ _ _ c.loop-symbol.invariant.compiling c.in_default-next.ensures.tokens c.loop-symbol.invariant.few in
    rw c.in-Whole.is at e

pub returns-in_default-state : goal.returns-in_default-state
returns-in_default-state c =
    not-whole c.loop-symbol.state _ _ c.in_default-state.not-Whole
    ∙ compiling-end _ _ _ _ c.loop-symbol.invariant.compiling c.in_default-next.ensures.tokens c.loop-symbol.invariant.few
