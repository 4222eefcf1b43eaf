-- The blocks of a program's text are counted one after the other.
use Rattle.calculator.proofs.Runs.{Counted}
use Rattle.calculator.proofs.texts.program_run.Given as goal

abbrev pub invariant-loop-k : goal.invariant-loop-k
invariant-loop-k l = Counted l.page l.n l.k
