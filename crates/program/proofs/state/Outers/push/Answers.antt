use mathlib.Core.Path.{sym, ap, ◌∙◌}
use mathlib.Core.List.{◌∷◌}
use native.Mathlib.Omega.{arith}
use lib.ListN.{length}
use Rattle.program.specs.Outers.{outer_by}
use Rattle.program.proofs.Open.{outers-length, outers-push}
use Rattle.program.proofs.state.Outers.push.Goals as goal

pub bounds-self-inside-self-inside : goal.bounds-self-inside-self-inside
bounds-self-inside-self-inside c =
    let e = ap length (sym c.self.view_is) ∙ outers-length c.self.inside.pairs c.self.inside.depth in
    omega (arith, e)

pub invariant_of-self : goal.invariant_of-self
invariant_of-self c =
    let e = ap length (sym c.self.view_is) ∙ outers-length c.self.inside.pairs c.self.inside.depth in
    omega (arith, e)

pub returns : goal.returns
returns c =
    let e = ap length (sym c.self.view_is) ∙ outers-length c.self.inside.pairs c.self.inside.depth in
    outers-push c.self.inside.pairs c.self.inside.depth c.args.pair (omega (arith, e)) ∙ ap (λ l. outer_by c.args.pair ∷ l) c.self.view_is
