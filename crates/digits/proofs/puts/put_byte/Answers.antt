-- `put_byte`: a store where there is room; where there is none, a store past the end, which changes nothing.
use mathlib.Core.Path.{ap, sym, ◌∙◌}
use native.Mathlib.Omega.{arith}
use lib.ListN.{length, length-set}
use lib.Seq.{set_out}
use Rattle.digits.proofs.puts.put_byte.Goals as goal
use Rattle.digits.proofs.puts.put_byte.Goals.{then-at-out, else-at-out}

pub shape_of-out : goal.shape_of-out
shape_of-out c = elim c.if-at-out.branch [ then-at-out w ↦ ap length w.out-is ∙ simp length-set | else-at-out w ↦ ap length w.out-is ]

pub returns : goal.returns
returns c =
    record {
      stored = elim c.if-at-out.branch [ then-at-out w ↦ w.out-is | else-at-out w ↦ w.out-is ∙ sym (set_out _ _ _ w.if-at-out.false) ];
      ends = omega arith;
      short = omega arith;
    }
