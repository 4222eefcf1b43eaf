-- FORMAT.md, Colour steps and Recipes: the closing steps, from values, which they read as they stand, to a reply. Evaluating a colour and running a recipe both
-- end here.
use Rattle.std.specs.Prelude.{Bool, List, [], ◌∷◌, ℤ}
use Rattle.fixed.specs.Numbers.{float}
use Rattle.fixed.specs.Values.{value}
use Rattle.fixed.specs.declared.values.Colour.{Colour}
use Rattle.cie.specs.declared.Xyz.{Xyz}
use Rattle.cie.specs.declared.Decoded.{Decoded}
use Rattle.cie.specs.declared.GrayClosing.{GrayClosing}
use Rattle.cie.specs.declared.RgbClosing.{RgbClosing}
use Rattle.cie.specs.declared.LabClosing.{LabClosing}
use Rattle.cie.specs.declared.Closing.{Closing}
use Rattle.cie.specs.declared.Closing.TheVariants.{Nothing, Gray, Rgb, Cmyk, CalGray, CalRgb, Lab, NoMark, EveryInk}
use Rattle.cie.specs.Answers.{Reply, answer, refusal, in_gray, in_rgb, in_cmyk, in_xyz, no_mark, every_ink}
use Rattle.cie.specs.Steps.{tenths_of, decoded, white_of, gray_xyz, matrix_of, rgb_xyz, lab_xyz}

-- CalGray, of a component in millionths
abbrev pub cal_gray_of : GrayClosing → ℤ → Xyz
cal_gray_of k a = gray_xyz (white_of k.xw k.zw) (decoded (tenths_of k.gamma) a)

-- CalRGB's components, each decoded by its own gamma
abbrev pub decoded_of : RgbClosing → ℤ → ℤ → ℤ → Decoded
decoded_of k a b c = record { a = decoded (tenths_of k.ga) a; b = decoded (tenths_of k.gb) b; c = decoded (tenths_of k.gc) c }

-- CalRGB, of components that are decoded
abbrev pub mixed_of : RgbClosing → Decoded → Xyz
mixed_of k d = rgb_xyz (matrix_of k.xa k.ya k.za k.xb k.yb k.zb k.xc k.yc k.zc) d.a d.b d.c

-- CalRGB, of components in millionths
abbrev pub cal_rgb_of : RgbClosing → ℤ → ℤ → ℤ → Xyz
cal_rgb_of k a b c = mixed_of k (decoded_of k a b c)

-- Lab, of components in millionths
abbrev pub cal_lab_of : LabClosing → ℤ → ℤ → ℤ → Xyz
cal_lab_of k l a b = lab_xyz (white_of k.xw k.zw) l a b

-- the floats of an X, Y and Z
abbrev pub in_three : Xyz → Bool → Reply
in_three p m = answer in_xyz (p.x ∷ p.y ∷ p.z ∷ []) m

-- what values v reply, where m says whether anything has moved; a number that is no space's has refusal 8
unfoldable pub closed_by : Closing → List ℤ → Bool → Reply
closed_by Nothing v m = refusal 8 0
closed_by Gray v m = answer in_gray (float (value v 0) ∷ []) m
closed_by Rgb v m = answer in_rgb (float (value v 0) ∷ float (value v 1) ∷ float (value v 2) ∷ []) m
closed_by Cmyk v m = answer in_cmyk (float (value v 0) ∷ float (value v 1) ∷ float (value v 2) ∷ float (value v 3) ∷ []) m
closed_by (CalGray k) v m = in_three (cal_gray_of k (value v 0)) m
closed_by (CalRgb k) v m = in_three (cal_rgb_of k (value v 0) (value v 1) (value v 2)) m
closed_by (Lab k) v m = in_three (cal_lab_of k (value v 0) (value v 1) (value v 2)) m
closed_by NoMark v m = answer no_mark [] m
closed_by EveryInk v m = answer every_ink (float (value v 0) ∷ []) m

-- what a colour replies at its closing step, which limits nothing and hands the flag on
abbrev pub closed : Closing → Colour → Reply
closed k c = closed_by k c.values c.moved
