-- A lower height is a stack with fewer on top.
use mathlib.Core.Path.{◌∙◌, ap, sym}
use lib.ListN.{drop}
use Rattle.stack.specs.Memory.{stack_of}
use Rattle.stack.proofs.Stacks.{stack-drop}
use Rattle.stack.proofs.values.Stack.discard.Goals as goal

pub returns : goal.returns
returns c =
    let s = c.self.inside in ap (stack_of s.items) c.saturating_sub-self-inside.ensures ∙ sym (stack-drop s.items s.height c.args.n) ∙ ap (drop c.args.n) c.self.view_is
