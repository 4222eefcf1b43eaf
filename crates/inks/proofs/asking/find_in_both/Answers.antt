-- `find_in_both`: the block that the search gives of the job's page, or what it gives of the house page.
use mathlib.Core.Path.{ap}
use Rattle.std.specs.Prelude.{None}
use Rattle.ink_names.specs.Search.{either}
use Rattle.ink_names.proofs.Found.{at_first, past_first}
use Rattle.inks.proofs.asking.find_in_both.Goals as goal

pub returns-in-Some : goal.returns-in-Some
returns-in-Some c = at_first _ _ _ c.in-Some.ensures

pub returns-in-Some-lowest : goal.returns-in-Some-lowest
returns-in-Some-lowest c = past_first _ _ c.in_default.ensures (ap (either None) c.in-Some-lowest.ensures)

pub returns : goal.returns
returns c = past_first _ _ c.in_default.ensures (ap (either None) c.in_default-lowest.ensures)
