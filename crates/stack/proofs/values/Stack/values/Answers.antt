-- The first values of the array, up to the height.
use mathlib.Core.Path.{◌∙◌}
use native.Mathlib.Omega.{arith}
use Rattle.stack.proofs.Stacks.{stack_part}
use Rattle.stack.proofs.values.Stack.values.Goals as goal

pub returns-clause-is : goal.returns-clause-is
returns-clause-is c = let s = c.self.inside in stack_part s.items s.height (omega arith) ∙ c.self.view_is
