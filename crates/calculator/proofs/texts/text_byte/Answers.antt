-- 504 bytes to a block.
use Rattle.calculator.specs.Calculator.{text_byte}
use native.Mathlib.Omega.{arith}
use Rattle.calculator.proofs.texts.text_byte.Goals as goal

pub overflow_cast-result : goal.overflow_cast-result
overflow_cast-result c = omega (arith, c.palette_at.ensures.small)

pub returns : goal.returns
unfolding text_byte
returns c = c.palette_at.ensures.is
