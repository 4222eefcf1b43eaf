-- `is_zero_from` scans: the numbers below k pass.
use lib.Dec.{eqb}
use Rattle.fixed.proofs.Scans.{Passing}
use Rattle.c_records.specs.Records.{small}
use Rattle.c_records.proofs.records.is_zero_from.Given as goal

abbrev pub invariant-loop-k : goal.invariant-loop-k
invariant-loop-k l = Passing (λ j. eqb (small l.v j) 0) l.from 20 l.k
