-- From the top: the limbs from i on are the same, and the first that differs decides.
use mathlib.Core.Path.{◌≡◌}
use lib.ListN.{drop}
use Rattle.tenths.proofs.limbs.at_most.Given as goal

abbrev pub invariant-loop-i : goal.invariant-loop-i
invariant-loop-i l = drop l.i l.a ≡ drop l.i l.b
