-- A level of a space on a page, as the code reads it once: a plain space whole, and an Indexed or a Separation with the number of the space within.
use Rattle.std.specs.Prelude.{ℕ, ◌≡◌, Bool, true, false, cond, List, ℤ, pos, ltb, eqb}
use Rattle.fixed.specs.Bytes.{blocks, gray_code, rgb_code, cmyk_code, block_at}
use Rattle.fixed.specs.Values.{places, listed}
use Rattle.cie.specs.declared.Closing.{Closing}
use Rattle.cie.specs.declared.Closing.TheVariants.{Nothing, Gray, Rgb, Cmyk, CalGray, CalRgb, Lab, NoMark, EveryInk}
use Rattle.record.specs.Reading.{body_at, names_at, the_none, the_all, ink_is, all_none}
use Rattle.record.specs.declared.types.Ranges.{Ranges}
use Rattle.record.specs.declared.types.Separation.{Separation as Ink}
use Rattle.record.specs.declared.types.Body.{Body}
use Rattle.record.specs.declared.types.Body.TheVariants.{Free, CalGray as GrayBody, CalRgb as RgbBody, Lab as LabBody, Indexed as IndexedBody, Separation as SeparationBody, Palette, Program as ProgramBody, DeviceN}
use Rattle.form.specs.declared.Tints.TheVariants.{One, Inks}
use Rattle.space.specs.Spaces.{Space, none, gray, rgb, cmyk, cal_gray, cal_rgb, lab, no_mark, every_ink, count_of, low_of, high_of}
use Rattle.space.specs.Pages.{gray_numbers, rgb_numbers, lab_numbers, plain_at, separation_over, calculated_over, tinted_at, indexed_over}
use Rattle.space.specs.declared.nesting.Level.{Level}
use Rattle.space.specs.declared.nesting.Level.TheVariants.{Plain, Blank, Separation, Program, Indexed}

-- the plain space of a closing step, with the ranges of a Lab
abbrev pub plain_in : Closing → Ranges → Space
plain_in Nothing q = none
plain_in Gray q = gray
plain_in Rgb q = rgb
plain_in Cmyk q = cmyk
plain_in (CalGray k) q = cal_gray k
plain_in (CalRgb k) q = cal_rgb k
plain_in (Lab k) q = lab k q.amin q.amax q.bmin q.bmax
plain_in NoMark q = no_mark One
plain_in EveryInk q = every_ink

-- the ranges of a space that has none in its record
abbrev pub no_ranges : Ranges
no_ranges = record { amin = pos 0; amax = pos 0; bmin = pos 0; bmax = pos 0 }

-- the space that a level is
unfoldable pub space_in : List ℕ → Level → Space
space_in page (Plain c q) = plain_in c q
space_in page (Blank i) = no_mark i
space_in page (Separation p) = separation_over p (plain_at page p.alternate)
space_in page (Program n alternate i) = calculated_over page n i (plain_at page alternate)
space_in page (Indexed n base hival) = indexed_over page n hival (tinted_at page base)

-- nesting falls: Indexed 2, Separation 1, plain 0
abbrev pub rank_in : Level → ℕ
rank_in (Plain c q) = 0
rank_in (Blank i) = 0
rank_in (Separation p) = 1
rank_in (Program n alternate i) = 1
rank_in (Indexed n base hival) = 2

-- whether a closing step is Lab's
abbrev pub is_lab : Closing → Bool
is_lab Nothing = false
is_lab Gray = false
is_lab Rgb = false
is_lab Cmyk = false
is_lab (CalGray k) = false
is_lab (CalRgb k) = false
is_lab (Lab k) = true
is_lab NoMark = false
is_lab EveryInk = false

-- whether it is that of a Separation named None or All
abbrev pub is_named : Closing → Bool
is_named Nothing = false
is_named Gray = false
is_named Rgb = false
is_named Cmyk = false
is_named (CalGray k) = false
is_named (CalRgb k) = false
is_named (Lab k) = false
is_named NoMark = true
is_named EveryInk = true

abbrev pub nothing : Level
nothing = Plain Nothing no_ranges

-- that of the Separation p of block n, whose name decides, and then its exponent
unfoldable pub ink_level : List ℕ → ℕ → Ink → Level
ink_level page n p =
    cond (ink_is (block_at page n) the_none) (Blank One)
    (cond (ink_is (block_at page n) the_all) (Plain EveryInk no_ranges)
    (cond (eqb p.exponent 0) (Program n p.alternate One)
    (Separation p)))

-- that of the DeviceN of block n, whose names decide
unfoldable pub device_n_level : List ℕ → ℕ → ℕ → ℕ → Level
device_n_level page n alternate count = cond (all_none (names_at (block_at page n)) count) (Blank (Inks count)) (Program n alternate (Inks count))

-- the level of block n, whose body is given
unfoldable pub level_of : List ℕ → ℕ → Body → Level
level_of page n Free = nothing
level_of page n (GrayBody g) = Plain (CalGray (gray_numbers g)) no_ranges
level_of page n (RgbBody g) = Plain (CalRgb (rgb_numbers g)) no_ranges
level_of page n (LabBody g) = Plain (Lab (lab_numbers g)) g.range
level_of page n (IndexedBody base hival) = Indexed n base hival
level_of page n (SeparationBody p) = ink_level page n p
level_of page n Palette = nothing
level_of page n ProgramBody = nothing
level_of page n (DeviceN alternate count) = device_n_level page n alternate count

-- the closing step of a device space, by its code
unfoldable pub device_closing : ℕ → Closing
device_closing n = cond (eqb n gray_code) Gray (cond (eqb n rgb_code) Rgb (cond (eqb n cmyk_code) Cmyk Nothing))

-- the level at a number of a page
unfoldable pub level_at : List ℕ → ℕ → Level
level_at page n = cond (ltb n blocks) (level_of page n (body_at (block_at page n))) (Plain (device_closing n) no_ranges)

-- what a loop over the components of a space s has of it: the ends of their ranges
pub record Ends (s : Space) (lo hi : List ℤ) : Type 0 where
  pub low : lo ≡ listed (low_of s) places
  pub high : hi ≡ listed (high_of s) places

-- and their count m with them
pub record Ranged (s : Space) (m : ℕ) (lo hi : List ℤ) : Type 0 where
  pub count : m ≡ count_of s
  pub ends : Ends s lo hi
