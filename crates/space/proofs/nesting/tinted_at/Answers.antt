-- `tinted_at`: what it takes of a level is the space that the definition has.
use mathlib.Core.Path.{sym, ap, ◌∙◌}
use Rattle.space.proofs.Levels.{tinted, tinted-read, tinted_other}
use Rattle.space.proofs.nesting.tinted_at.Goals as goal

pub returns-in-Indexed : goal.returns-in-Indexed
returns-in-Indexed c =
    let r = tinted-read _ _ c.level_at-l.ensures (c.nothing.ensures ∙ sym (ap tinted c.in-Indexed.is)) in
    record { is = r.0; falls = r.1 }

pub returns-in_default : goal.returns-in_default
returns-in_default c =
    let r = tinted-read _ _ c.level_at-l.ensures (tinted_other _ c.in_default.not-Indexed) in
    record { is = r.0; falls = r.1 }
