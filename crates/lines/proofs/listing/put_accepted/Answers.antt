-- `put_accepted`: the count of blocks, and then their lines.
use mathlib.Core.List.{append_assoc}
use native.Mathlib.Omega.{arith}
use Rattle.lines.specs.Listing.{accepted_text, longest}
use Rattle.digits.proofs.Putting.{then, same, wider}
use Rattle.lines.proofs.listing.put_accepted.Goals as goal

pub returns : goal.returns
unfolding accepted_text
returns c =
    wider longest (omega arith) (same (simp append_assoc) (then (then c.put_text-a.ensures c.put_column-b.ensures) c.put_lines.ensures))
