-- The innermost space gets its name.
use Prim.Native.Nat.{◌≤◌}
use native.Mathlib.Omega.{arith}
use borrow.Author.Tests.{le-leb}
use Rattle.reader.specs.Tokens.{took_ink, inked}
use Rattle.reader.proofs.Turning.{ring-named}
use Rattle.reader.proofs.opening.take_ink.Goals as goal

pub returns-in-Name : goal.returns-in-Name
unfolding took_ink inked
returns-in-Name c = λ values marks opens page.
    let a = c.args in
    let low : 1 ≤ a.l.size = omega arith in
    let high : a.l.size ≤ 127 = omega arith in
    simp (
      c.in-Name.is,
      le-leb 1 a.l.size low,
      le-leb a.l.size 127 high,
      ring-named a.h marks a.names.now _ _ c.slot.result c.slot.ensures.is (c.name_slot.ensures marks),
    )
