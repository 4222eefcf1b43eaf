-- The value that is read is pushed.
use mathlib.Core.Path.{◌∙◌, ap}
use lib.IntN.{ℤ}
use Rattle.fixed.proofs.Signs.{signed_is}
use Rattle.stack.specs.Stack.{pushed}
use Rattle.stack.proofs.values.Stack.index.Goals as goal

pub returns : goal.returns
returns c =
    c.push.ensures ∙ ap (λ (x : ℤ). pushed x c.args.self.now) (signed_is c.value_at-x.result c.value_at-x.type_inv c.value_at-x.ensures)
