use mathlib.Core.Path.{refl}
use Rattle.form.specs.Table.{bits_of}
use Rattle.form.proofs.Packed.{came-to}
use Rattle.form.proofs.paths.come.Goals as goal

pub returns-then-arrive-clause-stands : goal.returns-then-arrive-clause-stands
returns-then-arrive-clause-stands c = (refl, came-to c.args.t.now c.arrive.new.t c.args.n c.args.q (bits_of c.args.stack.now) c.if-arrive.ensures.is)
