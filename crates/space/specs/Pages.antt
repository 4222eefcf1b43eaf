-- The space at a number of a page (FORMAT.md, Kinds and Palettes): a plain one, a Separation or a DeviceN over a plain one, or an Indexed over one of those, so
-- nesting falls at each step.
use Rattle.std.specs.Prelude.{ℕ, ◌+◌, ◌*◌, ◌%◌, cond, List, ℤ, ltb, eqb, take}
use Rattle.fixed.specs.Numbers.{palette_value}
use Rattle.fixed.specs.Bytes.{blocks, gray_code, rgb_code, cmyk_code, block_at}
use Rattle.fixed.specs.Values.{places, listed, row_step}
use Rattle.fixed.specs.declared.values.Colour.{Colour}
use Rattle.cie.specs.declared.GrayClosing.{GrayClosing}
use Rattle.cie.specs.declared.RgbClosing.{RgbClosing}
use Rattle.cie.specs.declared.LabClosing.{LabClosing}
use Rattle.record.specs.Layout.{entries_of}
use Rattle.record.specs.Reading.{body_at, names_at, the_none, the_all, ink_is, all_none}
use Rattle.record.specs.declared.types.CalGray.{CalGray as GraySpace}
use Rattle.record.specs.declared.types.CalRgb.{CalRgb as RgbSpace}
use Rattle.record.specs.declared.types.Lab.{Lab as LabSpace}
use Rattle.record.specs.declared.types.Separation.{Separation as Ink}
use Rattle.record.specs.declared.types.Body.{Body}
use Rattle.record.specs.declared.types.Body.TheVariants.{Free, CalGray, CalRgb, Lab, Indexed, Separation, Palette, Program, DeviceN}
use Rattle.form.specs.declared.Tints.{Tints}
use Rattle.form.specs.declared.Tints.TheVariants.{One, Inks}
use Rattle.calculator.specs.Calculator.{code_after}
use Rattle.space.specs.Numbers.{palette_byte}
use Rattle.space.specs.Spaces.{Space, none, gray, rgb, cmyk, cal_gray, cal_rgb, lab, no_mark, every_ink, separation, calculated, indexed, count_of, low_of, high_of}

-- the numbers of a record that its closing step has: X and Z of the white point, gammas, the matrix
abbrev pub gray_numbers : GraySpace → GrayClosing
gray_numbers g = record { xw = g.white.x; zw = g.white.z; gamma = g.gamma }

abbrev pub rgb_numbers : RgbSpace → RgbClosing
rgb_numbers g =
    record {
      ga = g.gammas.x;
      gb = g.gammas.y;
      gc = g.gammas.z;
      xa = g.a.x;
      ya = g.a.y;
      za = g.a.z;
      xb = g.b.x;
      yb = g.b.y;
      zb = g.b.z;
      xc = g.c.x;
      yc = g.c.y;
      zc = g.c.z;
    }

abbrev pub lab_numbers : LabSpace → LabClosing
lab_numbers g = record { xw = g.white.x; zw = g.white.z }

-- a device space, by its code
unfoldable pub device_of : ℕ → Space
device_of n = cond (eqb n gray_code) gray (cond (eqb n rgb_code) rgb (cond (eqb n cmyk_code) cmyk none))

-- what a number of a page is: its block, as f takes it, or a device space
abbrev pub numbered : List ℕ → (Body → Space) → ℕ → Space
numbered page f n = cond (ltb n blocks) (f (body_at (block_at page n))) (device_of n)

-- CalGray, CalRGB or Lab; a plain space is one of these or a device space
unfoldable pub plain_of : Body → Space
plain_of Free = none
plain_of (CalGray g) = cal_gray (gray_numbers g)
plain_of (CalRgb g) = cal_rgb (rgb_numbers g)
plain_of (Lab g) = lab (lab_numbers g) g.range.amin g.range.amax g.range.bmin g.range.bmax
plain_of (Indexed base hival) = none
plain_of (Separation p) = none
plain_of Palette = none
plain_of Program = none
plain_of (DeviceN alternate count) = none

abbrev pub plain_at : List ℕ → ℕ → Space
plain_at page n = numbered page plain_of n

-- C0 and C1 of a Separation p, as many entries as the alternate s has components
abbrev pub c0_of : Ink → Space → List ℤ
c0_of p s = take (count_of s) (entries_of p.c0)

abbrev pub c1_of : Ink → Space → List ℤ
c1_of p s = take (count_of s) (entries_of p.c1)

abbrev pub separation_over : Ink → Space → Space
separation_over p s = separation p.exponent (c0_of p s) (c1_of p s) s

-- the program in the blocks after block n, which takes the tints i, over the alternate s
abbrev pub calculated_over : List ℕ → ℕ → Tints → Space → Space
calculated_over page n i s = calculated i (code_after page n) s

-- the Separation p of block n: one named None never marks, one named All is every ink, and any other is answered in its alternate space, by its program where its
-- exponent is 0
unfoldable pub ink_of : List ℕ → ℕ → Ink → Space
ink_of page n p =
    cond (ink_is (block_at page n) the_none) (no_mark One)
    (cond (ink_is (block_at page n) the_all) every_ink
    (cond (eqb p.exponent 0) (calculated_over page n One (plain_at page p.alternate))
    (separation_over p (plain_at page p.alternate))))

-- the DeviceN of block n: one whose names are all None never marks, and any other is answered in its alternate space, by its program
unfoldable pub device_n_of : List ℕ → ℕ → ℕ → ℕ → Space
device_n_of page n alternate count =
    cond (all_none (names_at (block_at page n)) count) (no_mark (Inks count))
    (calculated_over page n (Inks count) (plain_at page alternate))

-- block n with the body given: a Separation, a DeviceN, or a plain space
unfoldable pub tinted_of : List ℕ → ℕ → Body → Space
tinted_of page n Free = plain_of Free
tinted_of page n (CalGray g) = plain_of (CalGray g)
tinted_of page n (CalRgb g) = plain_of (CalRgb g)
tinted_of page n (Lab g) = plain_of (Lab g)
tinted_of page n (Indexed base hival) = plain_of (Indexed base hival)
tinted_of page n (Separation p) = ink_of page n p
tinted_of page n Palette = plain_of Palette
tinted_of page n Program = plain_of Program
tinted_of page n (DeviceN alternate count) = device_n_of page n alternate count

abbrev pub tinted_at : List ℕ → ℕ → Space
tinted_at page n = numbered page (tinted_of page n) n

-- entry j of the table of the Indexed block n over the base s: a palette byte, over the range of its component
unfoldable pub entry_of : List ℕ → ℕ → Space → ℕ → ℤ
entry_of page n s j = palette_value (palette_byte page n j) (low_of s (j % count_of s)) (high_of s (j % count_of s))

-- the most entries that a table has: hival is below 65536
abbrev pub entries : ℕ
entries = places * 65536

-- the table: m (hival + 1) entries
unfoldable pub table_of : List ℕ → ℕ → ℕ → Space → List ℤ
table_of page n hival s = listed (entry_of page n s) (count_of s * (hival + 1))

abbrev pub indexed_over : List ℕ → ℕ → ℕ → Space → Space
indexed_over page n hival s = indexed hival (table_of page n hival s) s

-- the step of an Indexed on a colour
abbrev pub row_at : List ℕ → ℕ → ℕ → Space → Colour → Colour
row_at page n hival s v = row_step (count_of s) hival (table_of page n hival s) v

-- an Indexed over one of those, or one of those
unfoldable pub space_of : List ℕ → ℕ → Body → Space
space_of page n Free = tinted_of page n Free
space_of page n (CalGray g) = tinted_of page n (CalGray g)
space_of page n (CalRgb g) = tinted_of page n (CalRgb g)
space_of page n (Lab g) = tinted_of page n (Lab g)
space_of page n (Indexed base hival) = indexed_over page n hival (tinted_at page base)
space_of page n (Separation p) = tinted_of page n (Separation p)
space_of page n Palette = tinted_of page n Palette
space_of page n Program = tinted_of page n Program
space_of page n (DeviceN alternate count) = tinted_of page n (DeviceN alternate count)

abbrev pub space_at : List ℕ → ℕ → Space
space_at page n = numbered page (space_of page n) n
