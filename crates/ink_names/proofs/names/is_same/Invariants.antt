-- `is_same`: the bytes below k are the same; at the end all are.
use lib.Dec.{eqb}
use lib.ListN.{length, get_or}
use Rattle.fixed.proofs.Scans.{Passing}
use Rattle.ink_names.proofs.names.is_same.Given as goal

abbrev pub invariant-loop-k : goal.invariant-loop-k
invariant-loop-k l = Passing (λ i. eqb (get_or l.s i 0) (get_or l.t i 0)) 0 (length l.t) l.k
