-- A stack in an array is as long as its height.
use mathlib.Core.Path.{◌∙◌, ap, sym}
use lib.ListN.{length}
use Rattle.stack.proofs.Stacks.{stack-length}
use Rattle.stack.proofs.values.Stack.height.Goals as goal

pub returns-clause-is : goal.returns-clause-is
returns-clause-is c = sym (stack-length c.self.inside.items c.self.inside.height) ∙ ap length c.self.view_is
