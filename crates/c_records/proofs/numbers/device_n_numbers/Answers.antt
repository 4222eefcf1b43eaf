-- The two numbers of the body, and zeros.
use mathlib.Core.Path.{◌∙◌}
use native.Mathlib.Omega.{arith}
use mir.Syntax.{w32}
use mir.ValLaws.{to_z_pos}
use Rattle.c_records.proofs.numbers.device_n_numbers.Goals as goal

pub returns : goal.returns
returns c =
    c.laid.ensures ∙ simp (c.triple-first.ensures, to_z_pos w32 c.args.alternate (omega arith), to_z_pos w32 c.args.count (omega arith))
