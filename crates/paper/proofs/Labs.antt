-- Lab with 0 within both ranges: (100, 0, 0) gives the white point's floats, and (0, 0, 0) zeros.
use mathlib.Core.Path.{◌≡◌, refl, sym, ap, ◌∙◌}
use mathlib.Core.Bool.{false, ◌||◌, true≢false}
use mathlib.Core.List.{[], ◌∷◌}
use lib.IntN.{ℤ, pos, negsuc}
use lib.Ieee.{Float}
use borrow.Author.Tests.{ltb-true}
use Rattle.fixed.specs.Numbers.{float, limited, outside}
use Rattle.fixed.specs.Values.{listed, limited_at, limit_step}
use Rattle.fixed.proofs.Floors.{limited-inside}
use Rattle.cie.specs.declared.LabClosing.{LabClosing}
use Rattle.cie.specs.declared.Xyz.{Xyz}
use Rattle.cie.specs.Answers.{answer, in_xyz}
use Rattle.cie.specs.Closings.{cal_lab_of, in_three, closed_by}
use Rattle.cie.proofs.Facts.{Above, one_float, lab-white, lab-black}
use Rattle.space.specs.Spaces.{lab}
use Rattle.values.specs.Limits.{limited_to}
use Rattle.colour.specs.Colours.{valued, answered}
use Rattle.paper.specs.Paper.{Within, White, nought}

pub above : (v : ℤ) → White v → Above v
above (pos n) w = record { size = n; is = refl; low = ltb-true 0 n w.above; high = w.number.sfits }
above (negsuc n) w = absurd (true≢false (sym w.above))

module _ (k : LabClosing) (al ah bl bh : ℤ) where
  -- each component is limited, then the closing step
  colour : (l a b : ℤ) → answered (lab k al ah bl bh) (l ∷ a ∷ b ∷ [])
      ≡ in_three (cal_lab_of k (limited (pos 0) (pos 100000000) l) (limited al ah a) (limited bl bh b)) ((outside (pos 0) (pos 100000000) l || outside al ah a) || outside bl bh b)
  unfolding answered valued closed_by limited_to limit_step limited_at listed
  colour l a b = refl

  module _ (wa : Within al ah) (wb : Within bl bh) where
    still : (lo hi : ℤ) → Within lo hi → outside lo hi (pos 0) ≡ false
    unfolding outside
    still lo hi w = rw (w.low, w.high)

    inside : (l : ℤ) → limited (pos 0) (pos 100000000) l ≡ l → outside (pos 0) (pos 100000000) l ≡ false
        → answered (lab k al ah bl bh) (l ∷ pos 0 ∷ pos 0 ∷ []) ≡ in_three (cal_lab_of k l (pos 0) (pos 0)) false
    inside l e f =
        colour l (pos 0) (pos 0) ∙
        (λ i. in_three (cal_lab_of k (e i) (limited-inside al ah (pos 0) wa.low wa.high i) (limited-inside bl bh (pos 0) wb.low wb.high i)) ((f i || still al ah wa i) || still bl bh wb i))

    white-still : outside (pos 0) (pos 100000000) (pos 100000000) ≡ false
    unfolding outside
    white-still = refl

    black-still : outside (pos 0) (pos 100000000) (pos 0) ≡ false
    unfolding outside
    black-still = refl

    pub lab-100 : answered (lab k al ah bl bh) (pos 100000000 ∷ pos 0 ∷ pos 0 ∷ []) ≡ answer in_xyz (float k.xw ∷ float (pos 1000000) ∷ float k.zw ∷ []) false
    lab-100 =
        inside (pos 100000000) (limited-inside (pos 0) (pos 100000000) (pos 100000000) refl refl) white-still ∙
        (ap (λ (p : Xyz). in_three p false) (lab-white k) ∙ ap (λ (y : Float). answer in_xyz (float k.xw ∷ y ∷ float k.zw ∷ []) false) (sym one_float))

    pub lab-0 : White k.xw → White k.zw → answered (lab k al ah bl bh) (pos 0 ∷ pos 0 ∷ pos 0 ∷ []) ≡ answer in_xyz (nought ∷ nought ∷ nought ∷ []) false
    lab-0 wx wz =
        inside (pos 0) (limited-inside (pos 0) (pos 100000000) (pos 0) refl refl) black-still ∙
        ap (λ (p : Xyz). in_three p false) (lab-black k (above k.xw wx) (above k.zw wz))
