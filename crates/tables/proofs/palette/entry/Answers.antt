-- `entry`: its palette byte over the range of its component.
use mathlib.Core.Path.{◌∙◌}
use Rattle.fixed.proofs.Signs.{signed-within, signed_is}
use Rattle.space.proofs.Ends.{entry-is}
use Rattle.tables.proofs.palette.entry.Goals as goal

pub returns : goal.returns
returns c =
    let a = c.args in
    λ s m r at.
    signed_is _ c.palette_value.type_inv
    (c.palette_value.ensures ∙
    entry-is _ _ a.j r a.k c.requires.1 at _ _ _ c.palette_byte.ensures.is
    (signed-within _ c.palette_value-arg-1.given) (signed-within _ c.palette_value-arg-2-1.given))
