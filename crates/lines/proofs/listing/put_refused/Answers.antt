-- `put_refused`: the parts of the line, one after the other.
use mathlib.Core.Path.{◌≡◌, ap}
use mathlib.Core.List.{append_assoc}
use native.Mathlib.Omega.{arith}
use Rattle.fixed.specs.Refusals.{number_of}
use Rattle.digits.specs.Digits.{digits}
use Rattle.lines.specs.Listing.{refused_text, longest}
use Rattle.digits.proofs.Putting.{then, same, wider}
use Rattle.lines.proofs.listing.put_refused.Goals as goal

pub returns : goal.returns
unfolding refused_text
returns c =
    let is : c.number.result ≡ number_of c.args.refused.refusal = c.number.ensures in
    let number = same (ap digits is) c.put_number-b.ensures in
    wider longest (omega arith)
    (same (simp append_assoc) (then (then (then c.put_text-a.ensures number) c.put_text-c.ensures) c.put_column.ensures))
