use mathlib.Core.Path.{◌∙◌}
use native.Mathlib.Omega.{arith}
use Rattle.form.proofs.Passes.{end-mid, end_is}
use Rattle.form.proofs.checking.check.Goals as goal

pub returns-then-m-gt0 : goal.returns-then-m-gt0
returns-then-m-gt0 c = record { is = end-mid c.args.words.now c.loop-p.t c.loop-p.p c.loop-p.m (omega arith) c.if-m-gt0.true ∙ c.loop-p.invariant.2 }

pub returns-else-m-gt0 : goal.returns-else-m-gt0
returns-else-m-gt0 c =
    record { is = end_is c.args.words.now c.loop-p.t c.loop-p.p c.loop-p.m (omega arith) c.if-m-gt0.false c.head.result c.head.ensures ∙ c.loop-p.invariant.2 }
