-- Three numbers of the body and twice four, once their bits are read back, and zeros.
use mathlib.Core.Path.{◌∙◌}
use native.Mathlib.Omega.{arith}
use mir.Syntax.{w32}
use mir.ValLaws.{to_z_pos}
use Rattle.fixed.proofs.Signs.{signed-within}
use Rattle.c_records.proofs.numbers.ink_numbers.Goals as goal

pub returns : goal.returns
returns c =
    let p = c.args.p in
    c.laid.ensures
    ∙ simp (
      c.triple-first.ensures,
      c.triple-second.ensures,
      c.triple-third.ensures,
      c.triple-last.ensures,
      to_z_pos w32 p.alternate (omega arith),
      to_z_pos w32 p.exponent (omega arith),
      to_z_pos w32 p.name_len (omega arith),
      signed-within p.c0.a (omega arith),
      signed-within p.c0.b (omega arith),
      signed-within p.c0.c (omega arith),
      signed-within p.c0.d (omega arith),
      signed-within p.c1.a (omega arith),
      signed-within p.c1.b (omega arith),
      signed-within p.c1.c (omega arith),
      signed-within p.c1.d (omega arith),
    )
