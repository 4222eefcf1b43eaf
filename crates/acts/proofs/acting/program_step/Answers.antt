-- The values are those that the words leave; limiting the tints that they take moves the colour.
use Rattle.tinting.proofs.Made.{form-made}
use Rattle.acts.proofs.acting.program_step.Goals as goal

pub returns : goal.returns
returns c =
    let a = c.args in
    form-made a.c a.t a.m _ c.step-out.ensures.leaves c.step-out.ensures.moves
