-- `skip`: what is found from byte i on is what is found from the start, since each byte passed over is plain; and the mode stays.
use mathlib.Core.Path.{◌≡◌}
use Prim.Native.Nat.{◌-◌, ◌≤◌}
use lib.ListN.{length, drop}
use Rattle.lexer.specs.Scans.{found, scan_at, longest}
use Rattle.lexer.proofs.plain.skip.Given as goal

abbrev pub invariant-loop-b : goal.invariant-loop-b
invariant-loop-b l = (l.from ≤ l.i) × (length l.word ≡ longest) × (l.s.mode ≡ l.m) × (found (scan_at l.s l.word) (drop l.i l.text) ≡ found (scan_at l.initial.s l.initial.word) (drop l.from l.text))

abbrev pub decreases-loop-b : goal.decreases-loop-b
decreases-loop-b l = length l.text - l.i
