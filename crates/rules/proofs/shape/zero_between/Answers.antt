-- What the page has of the bytes is looked at.
use mathlib.Core.Path.{◌∙◌}
use Prim.Native.Nat.{◌*◌}
use Rattle.rules.proofs.Zeros.{zeros-there}
use Rattle.rules.proofs.shape.zero_between.Goals as goal

pub returns : goal.returns
returns c = c.are_zero.ensures ∙ zeros-there c.args.page.now (512 * c.args.n) c.args.from c.args.to _ _ c.min-end.ensures c.min-from.ensures
