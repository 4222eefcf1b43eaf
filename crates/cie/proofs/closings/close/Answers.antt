-- A CIE space answers the point that its values give, read back; any other what `close_bare` has for it.
use mathlib.Core.Path.{ap, ◌∙◌}
use mathlib.Core.List.{[], ◌∷◌}
use Rattle.fixed.proofs.Signs.{signed_back}
use Rattle.cie.specs.declared.Xyz.{Xyz}
use Rattle.cie.specs.Closings.{closed_by, in_three, cal_gray_of, cal_rgb_of, cal_lab_of}
use Rattle.cie.proofs.Closes.{no_numbers-is}
use Rattle.cie.proofs.closings.close.Goals as goal

pub returns-in-CalGray : goal.returns-in-CalGray
unfolding closed_by
returns-in-CalGray c =
    let f = c.ranges in
    λ m. rw c.in-CalGray.is
    (ap (λ (p : Xyz). in_three p m) (c.close_gray.ensures ∙ (λ i. cal_gray_of c.in-CalGray.g (signed_back f.a i))))

pub returns-in-CalRgb : goal.returns-in-CalRgb
unfolding closed_by
returns-in-CalRgb c =
    let f = c.ranges in
    λ m. rw c.in-CalRgb.is
    (ap (λ (p : Xyz). in_three p m) (c.close_rgb.ensures ∙ (λ i. cal_rgb_of c.in-CalRgb.g (signed_back f.a i) (signed_back f.b i) (signed_back f.c i))))

pub returns-in-Lab : goal.returns-in-Lab
unfolding closed_by
returns-in-Lab c =
    let f = c.ranges in
    λ m. rw c.in-Lab.is
    (ap (λ (p : Xyz). in_three p m) (c.close_lab.ensures ∙ (λ i. cal_lab_of c.in-Lab.g (signed_back f.a i) (signed_back f.b i) (signed_back f.c i))))

pub returns-in_default : goal.returns-in_default
returns-in_default c =
    let f = c.ranges in
    let same = no_numbers-is _ c.in_default.not-CalGray c.in_default.not-CalRgb c.in_default.not-Lab in
    λ m. c.close_bare.ensures m ∙ (λ i. closed_by (same i) (signed_back f.a i ∷ signed_back f.b i ∷ signed_back f.c i ∷ signed_back f.d i ∷ []) m)
