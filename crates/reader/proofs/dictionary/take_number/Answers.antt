-- A number that is not refused fits, and is no more than 4 as an exponent.
use mathlib.Core.Path.{sym}
use Rattle.reader.proofs.Faults.{fault-fits, fault-whole}
use Rattle.reader.proofs.dictionary.take_number.Goals as goal

pub value_of-requires : goal.value_of-requires
value_of-requires c = fault-fits _ _ _ (sym c.in_ok-number_fault.ensures)

pub exponent_of-requires : goal.exponent_of-requires
exponent_of-requires c = (fault-fits _ _ _ (sym c.in_ok-number_fault.ensures), λ e. fault-whole _ _ _ (sym c.in_ok-number_fault.ensures) e)
