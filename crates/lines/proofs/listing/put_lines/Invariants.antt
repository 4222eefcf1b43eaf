-- `put_lines`: the loop's invariant is that the lines of the first i blocks are put.
use Prim.Native.Nat.{◌*◌}
use Rattle.lines.specs.Listing.{lines_of}
use Rattle.digits.specs.Puts.{Put}
use Rattle.lines.proofs.listing.put_lines.Given as goal

abbrev pub invariant-loop-i : goal.invariant-loop-i
invariant-loop-i l = Put (44 * l.i) l.initial.out l.at (lines_of l.page l.i) l.out l.next
