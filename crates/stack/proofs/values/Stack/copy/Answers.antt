-- Where there are n, and room for as many, the top n are pushed once more; else nothing is.
use mathlib.Core.Path.{◌∙◌, ap}
use lib.ListN.{length}
use native.Mathlib.Omega.{arith}
use Rattle.stack.proofs.Stacks.{stack-length, copy_start, copy-turn, copy-end, copy-low, copy-full}
use Rattle.stack.proofs.values.Stack.copy.Goals as goal
use Rattle.stack.proofs.values.Stack.copy.Goals.{else-n-self-via-then-n-self+else-n-self-2, else-n-self-via-else-n-self}

pub loop-i-init : goal.loop-i-init
loop-i-init c = copy_start c.args.n c.args.self.now (omega (arith, ap length c.self.view_is, stack-length c.self.inside.items c.self.inside.height))

pub loop-i-preserved : goal.loop-i-preserved
loop-i-preserved c =
    copy-turn c.args.n c.args.self.now (omega (arith, ap length c.self.view_is, stack-length c.self.inside.items c.self.inside.height)) (omega (arith, ap length c.self.view_is, stack-length c.self.inside.items c.self.inside.height))
    c.loop-i.i c.loop-i-test.true c.loop-i.invariant c.index.ensures

pub returns-after-loop-i : goal.returns-after-loop-i
returns-after-loop-i c =
    c.loop-i.invariant
    ∙ copy-end c.args.n c.args.self.now (omega (arith, ap length c.self.view_is, stack-length c.self.inside.items c.self.inside.height)) (omega (arith, ap length c.self.view_is, stack-length c.self.inside.items c.self.inside.height))
    c.loop-i.i c.loop-i-test.false

pub returns-else-n-self : goal.returns-else-n-self
returns-else-n-self c =
    elim c.else-n-self.branch [
      | else-n-self-via-then-n-self+else-n-self-2 w ↦ copy-full c.args.n c.args.self.now (omega (arith, ap length c.self.view_is, stack-length c.self.inside.items c.self.inside.height)) (omega (arith, ap length c.self.view_is, stack-length c.self.inside.items c.self.inside.height))
      | else-n-self-via-else-n-self w ↦ copy-low c.args.n c.args.self.now (omega (arith, ap length c.self.view_is, stack-length c.self.inside.items c.self.inside.height))
    ]
