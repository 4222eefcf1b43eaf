-- `skip_pairs`: what is found from byte i on is what is found from the start, since each pair passed over is a byte of the string.
use mathlib.Core.Path.{◌≡◌}
use Prim.Native.Nat.{◌-◌, ◌≤◌}
use lib.ListN.{length, drop}
use Rattle.lexer.specs.Scans.{found, hex_scan, longest}
use Rattle.lexer.proofs.plain.skip_pairs.Given as goal

abbrev pub invariant-loop-a : goal.invariant-loop-a
invariant-loop-a l = (l.from ≤ l.i) × (length l.word ≡ longest) × (found (hex_scan l.l.number l.size l.seen l.l.first l.word) (drop l.i l.text) ≡ found (hex_scan l.l.number l.initial.size l.initial.seen l.l.first l.initial.word) (drop l.from l.text))

abbrev pub decreases-loop-a : goal.decreases-loop-a
decreases-loop-a l = length l.text - l.i
