-- The first j bytes of the text stand in their room.
use mathlib.Core.Path.{◌≡◌}
use lib.ListN.{length, take}
use Rattle.calculator.specs.Calculator.{text_of}
use Rattle.calculator.proofs.texts.RunText.read.Given as goal

abbrev pub invariant-loop-j : goal.invariant-loop-j
invariant-loop-j l = (length l.bytes ≡ 2016) × (take l.j l.bytes ≡ text_of l.page l.n l.j)
