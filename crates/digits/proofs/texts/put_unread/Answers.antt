-- `put_unread`: the parts of the line, one after the other.
use mathlib.Core.List.{append_assoc}
use native.Mathlib.Omega.{arith}
use Rattle.digits.specs.Refused.{unread_text}
use Rattle.digits.proofs.Putting.{then, same, wider}
use Rattle.digits.proofs.texts.put_unread.Goals as goal

pub returns : goal.returns
unfolding unread_text
returns c =
    wider 33 (omega arith)
    (same (simp append_assoc) (then (then (then c.put_text-a.ensures c.put_number-b.ensures) c.put_text-c.ensures) c.put_column.ensures))
