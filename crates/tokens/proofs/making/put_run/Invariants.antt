-- `put_run`: the blocks stored so far are the run so far.
use Prim.Native.Nat.{◌+◌, ◌*◌}
use mathlib.Core.Path.{◌≡◌}
use mathlib.Core.List.{◌++◌}
use lib.ListN.{take, drop}
use Rattle.reader.specs.Spaces.{run_of}
use Rattle.tokens.proofs.making.put_run.Given as goal

abbrev pub invariant-loop-j : goal.invariant-loop-j
invariant-loop-j l = l.blocks ≡ take (512 * l.own) l.initial.blocks ++ (run_of l.own l.j l.palette ++ drop (512 * (l.own + l.j)) l.initial.blocks)
