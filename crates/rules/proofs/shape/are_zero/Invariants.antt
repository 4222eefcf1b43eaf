-- It gathers whether the bytes passed so far are zero.
use lib.Dec.{eqb}
use lib.ListN.{length, get_or}
use Rattle.fixed.proofs.Scans.{Gathered}
use Rattle.rules.proofs.shape.are_zero.Given as goal

abbrev pub invariant-loop-byte : goal.invariant-loop-byte
invariant-loop-byte l = Gathered (λ j. eqb (get_or l.bytes j 0) 0) 0 (length l.bytes) l.zero l.byte-index
