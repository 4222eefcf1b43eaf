-- `plain_at`: what it takes of a level is the space that the definition has.
use mathlib.Core.Path.{◌≡◌, refl, sym, ap, ◌∙◌}
use Rattle.fixed.proofs.Decide.{is-yes, is-no}
use Rattle.space.specs.Levels.{nothing}
use Rattle.space.proofs.Levels.{plain, plain-read, plain_other}
use Rattle.space.proofs.nesting.plain_at.Goals as goal
use Rattle.space.proofs.nesting.plain_at.Goals.{in_default-via-in-Plain+else-not-is_named, in_default-via-in_default}

pub returns-in-Plain : goal.returns-in-Plain
returns-in-Plain c =
    let r = plain-read _ _ c.level_at-l.ensures (is-no _ _ _ _ c.is_named.ensures c.if-not-is_named.true refl ∙ sym (ap plain c.in-Plain.is)) in
    record { is = r.0; falls = r.1 }

pub returns-in-Separation : goal.returns-in-Separation
returns-in-Separation c =
    let r = plain-read _ _ c.level_at-l.ensures (c.nothing.ensures ∙ sym (ap plain c.in-Separation.is)) in
    record { is = r.0; falls = r.1 }

pub returns-in_default : goal.returns-in_default
returns-in_default c =
    let e : nothing ≡ plain c.level_at-l.result = elim c.in_default.branch [
      | in_default-via-in-Plain+else-not-is_named w ↦ is-yes _ _ _ _ w.is_named.ensures w.if-not-is_named.false refl ∙ sym (ap plain w.in-Plain.is)
      | in_default-via-in_default w ↦ plain_other _ w.in_default.not-Plain
    ] in
    let r = plain-read _ _ c.level_at-l.ensures (c.nothing-in_default.ensures ∙ e) in
    record { is = r.0; falls = r.1 }
