use mathlib.Core.Path.{sym, ap, ◌∙◌}
use Prim.Native.Nat.{◌-◌}
use native.Mathlib.Omega.{arith}
use Rattle.program.specs.Outers.{outers_by}
use Rattle.program.proofs.Open.{outers-pop}
use Rattle.program.proofs.state.Outers.pop.Goals as goal

pub returns-then-self-eq0 : goal.returns-then-self-eq0
unfolding outers_by
returns-then-self-eq0 c =
    let e = sym c.self.view_is ∙ ap (outers_by c.self.inside.pairs) c.if-self-eq0.true in (e, e)

pub returns : goal.returns
returns c = sym c.self.view_is ∙ outers-pop c.self.inside.pairs c.self.inside.depth (c.self.inside.depth - 1) (omega arith)
