-- There is room, or nothing is put.
use native.Mathlib.Omega.{arith}
use Rattle.calculator.proofs.Turns.{put-out, put_in}
use Rattle.calculator.proofs.words.put_fitting.Goals as goal
use Rattle.calculator.proofs.words.put_fitting.Goals.{else-at-out-via-then-at-out+else-words-out, else-at-out-via-else-at-out}

pub returns-then-words-out : goal.returns-then-words-out
returns-then-words-out c =
    put_in c.args.out.now c.args.at c.args.words.now _ _ (omega arith) (omega arith) c.copy_from_slice.ensures.after

pub returns-else-at-out : goal.returns-else-at-out
returns-else-at-out c =
    elim c.else-at-out.branch [
      | else-at-out-via-then-at-out+else-words-out w ↦ put-out c.args.out.now c.args.at c.args.words.now (omega arith)
      | else-at-out-via-else-at-out w ↦ put-out c.args.out.now c.args.at c.args.words.now (omega arith)
    ]
