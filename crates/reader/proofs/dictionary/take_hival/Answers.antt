-- A hival is at most 255.
use mathlib.Core.Path.{sym, ◌∙◌}
use native.Mathlib.Omega.{arith}
use Rattle.reader.proofs.Faults.{whole-high}
use Rattle.reader.proofs.dictionary.take_hival.Goals as goal

pub overflow_cast-hival : goal.overflow_cast-hival
overflow_cast-hival c = omega (arith, c.whole-hival.ensures, whole-high _ _ _ (sym c.is_whole.ensures ∙ c.if-not-is_whole.false))
