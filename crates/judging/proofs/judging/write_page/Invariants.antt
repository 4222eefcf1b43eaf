-- `write_page`: the bytes stored so far are the first ones of the page.
use mathlib.Core.Path.{◌≡◌}
use lib.ListN.{take, length}
use lib.Seq.{sets}
use Rattle.judging.proofs.judging.write_page.Given as goal

abbrev pub invariant-loop-i : goal.invariant-loop-i
invariant-loop-i l = (length l.out ≡ length l.initial.out) × (l.out ≡ sets l.initial.out 0 (take l.i l.page))
