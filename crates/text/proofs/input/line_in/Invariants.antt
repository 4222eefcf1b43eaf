-- The bytes before the place are those that the reader has lost, and no more are put than there is room for.
use Rattle.std.proofs.Common.{length, take, ◌≡◌, ◌≢◌}
use Rattle.std.specs.Prelude.{All}
use Rattle.std.specs.Io.KnownBytes.{Consumes}
use Rattle.text.proofs.input.line_in.Given as goal

abbrev pub invariant-loop-n : goal.invariant-loop-n
invariant-loop-n g l = record {
  room : length l.out ≡ length l.initial.out;
  bytes : Consumes (g.R.Read.remaining l.fn.input) (g.R.Read.remaining l.input) (take l.n l.out);
  line : All (λ x. x ≢ 10) (take l.n l.out);
}
