-- A byte at the most is put at each turn.
use Rattle.std.proofs.Common.{◌≤◌}
use Rattle.text.proofs.input.bytes_in.Given as goal

abbrev pub invariant-loop-byte : goal.invariant-loop-byte
invariant-loop-byte l = l.n ≤ l.byte-index
