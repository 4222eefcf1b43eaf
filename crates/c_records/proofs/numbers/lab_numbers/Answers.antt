-- White, black and the four numbers of the ranges, once their bits are read back, and zeros.
use mathlib.Core.Path.{◌∙◌}
use native.Mathlib.Omega.{arith}
use Rattle.fixed.proofs.Signs.{signed-within}
use Rattle.c_records.proofs.numbers.lab_numbers.Goals as goal

pub returns : goal.returns
returns c =
    let q = c.args.g.range in
    c.laid.ensures
    ∙ simp (
      c.triple-first.ensures,
      c.triple-last.ensures,
      signed-within q.amin (omega arith),
      signed-within q.amax (omega arith),
      signed-within q.bmin (omega arith),
      signed-within q.bmax (omega arith),
    )
