-- White, black and gamma, once its bits are read back, and zeros.
use mathlib.Core.Path.{◌∙◌}
use Rattle.fixed.proofs.Signs.{signed-within}
use Rattle.c_records.proofs.numbers.gray_numbers.Goals as goal

pub returns : goal.returns
returns c =
    c.laid.ensures ∙ simp (c.triple-gamma.ensures, signed-within c.args.g.gamma c.struct_told-1.given.1.1.0.1)
