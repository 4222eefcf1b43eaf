-- What is found from byte i on is what is found from the start: each way out and the turn are one law of Findings.
use mathlib.Core.Path.{◌≡◌}
use Prim.Native.Nat.{◌-◌}
use lib.ListN.{length, drop}
use Rattle.lexer.specs.Scans.{found, scan_at, longest}
use Rattle.lexer.proofs.scans.look.Given as goal

abbrev pub invariant-loop-i : goal.invariant-loop-i
invariant-loop-i l = (length l.word ≡ longest) × (found (scan_at l.s l.word) (drop l.i l.text) ≡ found (scan_at l.initial.s l.initial.word) (drop l.from l.text))

abbrev pub decreases-loop-i : goal.decreases-loop-i
decreases-loop-i l = length l.text - l.i
