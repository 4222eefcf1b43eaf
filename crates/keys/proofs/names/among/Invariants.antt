-- `among`: what the rows from the one in hand on answer is what all answer.
use mathlib.Core.Path.{◌≡◌}
use lib.ListN.{drop}
use Rattle.keys.specs.Names.{among}
use Rattle.keys.specs.Rows.{rows_of}
use Rattle.keys.proofs.names.among.Given as goal

abbrev pub invariant-loop-row : goal.invariant-loop-row
invariant-loop-row l = among (rows_of (drop l.row-index l.table)) l.word ≡ among (rows_of l.table) l.word
