-- The array read from the height downward is the stack.
use borrow.Author.Rules.{rules}
use mathlib.Core.Path.{◌∙◌, ap, sym}
use Prim.Native.Nat.{◌-◌}
use lib.IntN.{ℤ, pos}
use lib.ListN.{get_or}
use mathlib.Core.List.{List}
use Rattle.fixed.specs.Values.{value}
use Rattle.fixed.proofs.Signs.{signed-within}
use Rattle.stack.proofs.Stacks.{stack-get, stack-past}
use Rattle.stack.proofs.values.Stack.value_at.Goals as goal

pub returns-then-n-self : goal.returns-then-n-self
returns-then-n-self c =
    let s = c.self.inside in
    signed-within (get_or s.items (s.height - 1 - c.args.n) (pos 0)) (search rules)
    ∙ sym (stack-get s.items s.height c.args.n c.if-n-self.true)
    ∙ ap (λ (l : List ℤ). value l c.args.n) c.self.view_is

pub returns-else-n-self : goal.returns-else-n-self
returns-else-n-self c =
    let s = c.self.inside in sym (stack-past s.items s.height c.args.n c.if-n-self.false) ∙ ap (λ (l : List ℤ). value l c.args.n) c.self.view_is
