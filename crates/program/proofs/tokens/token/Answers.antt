-- A second pair after the one that waits.
use mathlib.Core.Path.{◌≡◌}
use Rattle.program.specs.Words.{token_k}
use Rattle.program.specs.Kept.{held_by}
use Rattle.program.specs.declared.state.Waiting.TheVariants.{One}
use Rattle.program.proofs.tokens.token.Goals as goal

pub returns-in-Open-clause-is : goal.returns-in-Open-clause-is
unfolding token_k
returns-in-Open-clause-is c =
    let w = c.in-Within-One-default in
    let e : w.waiting ≡ One w.f = rw w.is at w.waiting-is in
    rw (w.is, e, c.in-Open.is) (c.open_second.ensures.is (held_by w.held))
