-- `put_family`: the name of the kind that it is, or the last where it is none of the others.
use native.Mathlib.Omega.{arith}
use Rattle.lines.specs.Listing.{family_of}
use Rattle.digits.proofs.Putting.{wider}
use Rattle.lines.proofs.Lines.{last-family}
use Rattle.lines.proofs.listing.put_family.Goals as goal

pub returns-in-1 : goal.returns-in-1
unfolding family_of
returns-in-1 c = rw c.in-1.is (wider 11 (omega arith) c.put_text.ensures)

pub returns-in-2 : goal.returns-in-2
unfolding family_of
returns-in-2 c = rw c.in-2.is (wider 11 (omega arith) c.put_text-in-2.ensures)

pub returns-in-3 : goal.returns-in-3
unfolding family_of
returns-in-3 c = rw c.in-3.is (wider 11 (omega arith) c.put_text-in-3.ensures)

pub returns-in-4 : goal.returns-in-4
unfolding family_of
returns-in-4 c = rw c.in-4.is (wider 11 (omega arith) c.put_text-in-4.ensures)

pub returns-in-8 : goal.returns-in-8
unfolding family_of
returns-in-8 c = rw c.in-8.is (wider 11 (omega arith) c.put_text-in-8.ensures)

pub returns-in_default : goal.returns-in_default
returns-in_default c =
    let none = c.in_default.in_default-own.rest in
    rw (last-family _ none.0.0.0.0.1 none.0.0.0.1 none.0.0.1 none.0.1 none.1) (wider 11 (omega arith) c.put_text-in_default.ensures)
