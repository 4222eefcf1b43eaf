-- A store at the height is a stack with one more on top.
use mathlib.Core.Path.{◌∙◌, ap, sym}
use native.Mathlib.Omega.{arith}
use Rattle.fixed.proofs.Signs.{signed_back}
use Rattle.stack.specs.Stack.{pushed}
use Rattle.stack.proofs.Stacks.{push-is, push-full}
use Rattle.stack.proofs.values.Stack.push.Goals as goal

pub returns-then-self-lt-MOST : goal.returns-then-self-lt-MOST
returns-then-self-lt-MOST c =
    let s = c.self.inside in push-is s.items s.height c.args.x _ (signed_back c.ranges.x) (omega arith) c.if-self-lt-MOST.true ∙ ap (pushed c.args.x) c.self.view_is

pub returns-else-self-lt-MOST : goal.returns-else-self-lt-MOST
returns-else-self-lt-MOST c =
    let s = c.self.inside in sym c.self.view_is ∙ push-full s.items s.height c.args.x c.if-self-lt-MOST.false ∙ ap (pushed c.args.x) c.self.view_is
