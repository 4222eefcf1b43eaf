-- `palette_size`: the base's components times the rows, no more than any table has entries.
use mathlib.Core.Path.{refl}
use native.Mathlib.Omega.{arith}
use Rattle.space.proofs.Counts.{few-entries}
use borrow.Author.Rules.{rules}
use Rattle.runs.proofs.runs.palette_size.Goals as goal

pub overflow_mul-result : goal.overflow_mul-result
overflow_mul-result c = omega (arith, few-entries c.args.m c.args.hival c.requires (search rules))

pub returns : goal.returns
returns c = record { is = refl; small = few-entries c.args.m c.args.hival c.requires (search rules) }
