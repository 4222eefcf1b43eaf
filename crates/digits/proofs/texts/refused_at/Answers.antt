-- `refused_at`: a text put from the first byte on is `over` what was there.
use mathlib.Core.Path.{◌∙◌}
use native.Mathlib.Omega.{arith}
use Rattle.digits.proofs.Putting.{sets_over}
use Rattle.digits.proofs.texts.refused_at.Goals as goal

pub returns : goal.returns
returns c =
    let put = c.put_unread.ensures in (record { size = omega (arith, put.ends); put = put.stored ∙ sets_over _ _; short = omega (arith, put.ends, put.short) })
