-- `find`: what validation finds of each page is given, and only where both are accepted is the ink looked for.
use Rattle.ink_names.specs.Search.{found_ink}
use Rattle.ink_names.proofs.Found.{past-accepted, at-refused}
use Rattle.inks.proofs.asking.find.Goals as goal

pub returns-in-Err : goal.returns-in-Err
unfolding found_ink
returns-in-Err c = at-refused _ _ _ c.in-Err.ensures

pub returns-in-Err-validate : goal.returns-in-Err-validate
unfolding found_ink
returns-in-Err-validate c = past-accepted _ _ _ c.in_default.ensures (at-refused _ _ _ c.in-Err-validate.ensures)

pub returns : goal.returns
unfolding found_ink
returns c = past-accepted _ _ _ c.in_default.ensures (past-accepted _ _ _ c.in_default-validate.ensures c.find_in_both.ensures)
