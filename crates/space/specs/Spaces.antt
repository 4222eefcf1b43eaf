-- FORMAT.md, Component counts, Limits, and The recipe of a space: a colour space, its components, their ranges, its closing step, and the words of its recipe.
use Rattle.std.specs.Prelude.{ℕ, ◌+◌, ◌*◌, cond, List, ℤ, pos, eqb, length}
use Rattle.stack.specs.Programs.{Code}
use Rattle.stack.specs.Flat.{flat}
use Rattle.form.specs.Steps.{taken_by, head_words}
use Rattle.form.specs.declared.Tints.{Tints}
use Rattle.cie.specs.declared.GrayClosing.{GrayClosing}
use Rattle.cie.specs.declared.RgbClosing.{RgbClosing}
use Rattle.cie.specs.declared.LabClosing.{LabClosing}
use Rattle.cie.specs.declared.Closing.{Closing}
use Rattle.cie.specs.declared.Closing.TheVariants.{Nothing, Gray, Rgb, Cmyk, CalGray, CalRgb, Lab, NoMark, EveryInk}

-- `none` is what a number that is no space's stands for. lab: amin amax bmin bmax. no_mark: a Separation named None, or a DeviceN all of whose names are None.
-- every_ink: a Separation named All. separation, of any other name: the exponent, C0 and C1 of the alternate's count, and the alternate. calculated: a Separation of
-- any other name, or a DeviceN, with a program that takes its tints, and the alternate. indexed: hival, the palette's values row by row, and the base.
pub data Space : Type 0 where
  none : Space
  gray : Space
  rgb : Space
  cmyk : Space
  cal_gray : GrayClosing → Space
  cal_rgb : RgbClosing → Space
  lab : LabClosing → ℤ → ℤ → ℤ → ℤ → Space
  no_mark : Tints → Space
  every_ink : Space
  separation : ℕ → List ℤ → List ℤ → Space → Space
  calculated : Tints → Code → Space → Space
  indexed : ℕ → List ℤ → Space → Space

-- component counts
abbrev pub count_of : Space → ℕ
count_of none = 0
count_of gray = 1
count_of rgb = 3
count_of cmyk = 4
count_of (cal_gray k) = 1
count_of (cal_rgb k) = 3
count_of (lab k al ah bl bh) = 3
count_of (no_mark i) = taken_by i
count_of every_ink = 1
count_of (separation e c0 c1 s) = 1
count_of (calculated i c s) = taken_by i
count_of (indexed h t s) = 1

-- the range of component k: Lab L* 0..100, a* and b* by Range, all others 0..1
abbrev pub pick3 : ℤ → ℤ → ℤ → ℕ → ℤ
pick3 x y z k = cond (eqb k 0) x (cond (eqb k 1) y z)

abbrev pub low_of : Space → ℕ → ℤ
low_of none k = pos 0
low_of gray k = pos 0
low_of rgb k = pos 0
low_of cmyk k = pos 0
low_of (cal_gray g) k = pos 0
low_of (cal_rgb g) k = pos 0
low_of (lab g al ah bl bh) k = pick3 (pos 0) al bl k
low_of (no_mark i) k = pos 0
low_of every_ink k = pos 0
low_of (separation e c0 c1 s) k = pos 0
low_of (calculated i c s) k = pos 0
low_of (indexed h t s) k = pos 0

abbrev pub high_of : Space → ℕ → ℤ
high_of none k = pos 1000000
high_of gray k = pos 1000000
high_of rgb k = pos 1000000
high_of cmyk k = pos 1000000
high_of (cal_gray g) k = pos 1000000
high_of (cal_rgb g) k = pos 1000000
high_of (lab g al ah bl bh) k = pick3 (pos 100000000) ah bh k
high_of (no_mark i) k = pos 1000000
high_of every_ink k = pos 1000000
high_of (separation e c0 c1 s) k = pos 1000000
high_of (calculated i c s) k = pos 1000000
high_of (indexed h t s) k = pos 1000000

-- how many of its components are limited: all, but none where there is no mark
abbrev pub limit_count : Space → ℕ
limit_count none = 0
limit_count gray = 1
limit_count rgb = 3
limit_count cmyk = 4
limit_count (cal_gray k) = 1
limit_count (cal_rgb k) = 3
limit_count (lab k al ah bl bh) = 3
limit_count (no_mark i) = 0
limit_count every_ink = 1
limit_count (separation e c0 c1 s) = 1
limit_count (calculated i c s) = taken_by i
limit_count (indexed h t s) = 1

-- the closing step of a plain space
abbrev pub closing_of : Space → Closing
closing_of none = Nothing
closing_of gray = Gray
closing_of rgb = Rgb
closing_of cmyk = Cmyk
closing_of (cal_gray k) = CalGray k
closing_of (cal_rgb k) = CalRgb k
closing_of (lab k al ah bl bh) = Lab k
closing_of (no_mark i) = NoMark
closing_of every_ink = EveryInk
closing_of (separation e c0 c1 s) = Nothing
closing_of (calculated i c s) = Nothing
closing_of (indexed h t s) = Nothing

-- the words of its recipe: Gray 6, RGB 14, CMYK 18, CalGray 9, CalRGB 26, Lab 16; None 2, All 6; Indexed adds 3 + m (hival + 1), Separation 3 + 2m, m being the
-- count of the space within, one with a program 3 + the words of its flat form, and a DeviceN 4 + those. For `none` no recipe is written: it would be its count alone
abbrev pub words_of : Space → ℕ
words_of none = 1
words_of gray = 6
words_of rgb = 14
words_of cmyk = 18
words_of (cal_gray k) = 9
words_of (cal_rgb k) = 26
words_of (lab k al ah bl bh) = 16
words_of (no_mark i) = 2
words_of every_ink = 6
words_of (separation e c0 c1 s) = 3 + 2 * count_of s + words_of s
words_of (calculated i c s) = length (head_words i) + 2 + length (flat c) + words_of s
words_of (indexed h t s) = 3 + count_of s * (h + 1) + words_of s
