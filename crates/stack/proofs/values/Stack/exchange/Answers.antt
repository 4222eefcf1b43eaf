-- Where there are two, the array's are swapped; else nothing turns.
use mathlib.Core.Path.{◌∙◌, ap, sym}
use mathlib.Core.List.{List}
use lib.IntN.{ℤ}
use native.Mathlib.Omega.{arith}
use Rattle.stack.specs.Stack.{rolled}
use Rattle.stack.specs.Memory.{stack_of}
use Rattle.stack.proofs.Stacks.{stack-length, rolled-short, exchange_is}
use Rattle.stack.proofs.values.Stack.exchange.Goals as goal

pub returns-then-self-ge2 : goal.returns-then-self-ge2
returns-then-self-ge2 c =
    let s = c.self.inside in ap (λ (a : List ℤ). stack_of a s.height) c.swap.ensures.after ∙ exchange_is s.items s.height c.if-self-ge2.true (omega arith) ∙ ap (rolled 2 1) c.self.view_is

pub returns-else-self-ge2 : goal.returns-else-self-ge2
returns-else-self-ge2 c =
    let s = c.self.inside in
    sym c.self.view_is ∙ rolled-short 2 1 (stack_of s.items s.height) (rw (stack-length s.items s.height) c.if-self-ge2.false) ∙ ap (rolled 2 1) c.self.view_is
