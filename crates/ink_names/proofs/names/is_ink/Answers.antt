-- `is_ink`: no block but a Separation is an ink; of that, what stands at the place of its name is the name in its room.
use mathlib.Core.Path.{◌≡◌, refl, sym, ap, ◌∙◌}
use mathlib.Core.Bool.{false}
use mathlib.Core.List.{List}
use Prim.Native.Nat.{ℕ}
use Rattle.record.specs.declared.types.Body.{Body}
use Rattle.record.specs.declared.types.Separation.{Separation as Ink}
use Rattle.record.specs.declared.types.Body.TheVariants.{Free, CalGray, CalRgb, Lab, Indexed, Separation, Palette, Program, DeviceN}
use Rattle.ink_names.specs.Names.{same_name, ink_named}
use Rattle.ink_names.proofs.Named.{ink-by, name-room, ink-stands}
use Rattle.ink_names.proofs.names.is_ink.Goals as goal

-- no other is an ink
other : (y : Body) (s name : List ℕ) → ((p : Ink) → y ≡ Separation p → ⊥) → false ≡ ink_named y s name
unfolding ink_named
other Free s name h = refl
other (CalGray g) s name h = refl
other (CalRgb g) s name h = refl
other (Lab g) s name h = refl
other (Indexed base hival) s name h = refl
other (Separation p) s name h = absurd (h p refl)
other Palette s name h = refl
other Program s name h = refl
other (DeviceN alternate count) s name h = refl

pub returns-in_default : goal.returns-in_default
returns-in_default c =
    let body = c.body_at in
    let a = c.args in
    other body.result _ a.name.now c.in_default.not-Separation ∙ sym (ink-by a.page.now a.name.now a.n body.ensures)

pub name_part-requires : goal.name_part-requires
name_part-requires c =
    let a = c.args in
    name-room a.page.now c.requires.0 a.n c.requires.1 _ (sym c.in-Separation.is ∙ c.body_at.ensures)

pub returns : goal.returns
returns c =
    let a = c.args in
    let stands = ink-stands a.page.now c.requires.0 a.n c.requires.1 a.name.now _ (sym c.in-Separation.is ∙ c.body_at.ensures) in
    c.is_same.ensures ∙ ap (λ (s : List ℕ). same_name s a.name.now) c.name_part.ensures.bytes ∙ sym stands
