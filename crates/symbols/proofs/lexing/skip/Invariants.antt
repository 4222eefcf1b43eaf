-- What is left to skip from i on is what there was to skip.
use mathlib.Core.Path.{◌≡◌}
use mathlib.Core.Bool.{false}
use lib.ListN.{drop}
use Rattle.symbols.specs.Lexing.{skipped}
use Rattle.symbols.proofs.lexing.skip.Given as goal

abbrev pub invariant-loop-i : goal.invariant-loop-i
invariant-loop-i l = skipped l.commented (drop l.i l.text) ≡ skipped false l.text
