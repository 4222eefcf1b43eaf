-- FORMAT.md, References, Palettes, Program runs and Refusals: what a block asks of the other blocks of its page. 6; 7, 16 and 17 of a program; 7.
use Rattle.std.specs.Prelude.{ℕ, zero, suc, ◌+◌, ◌-◌, ◌*◌, ◌/◌, Bool, true, false, ◌&&◌, cond, List, eqb, ltb}
use Rattle.fixed.specs.Bytes.{blocks, device, block_at}
use Rattle.fixed.specs.Loops.{unless, all_between}
use Rattle.record.specs.Layout.{room}
use Rattle.record.specs.Reading.{body_at}
use Rattle.record.specs.Rules.{is_palette, palette_ends, entries_end}
use Rattle.record.specs.declared.types.Separation.{Separation as Ink}
use Rattle.record.specs.declared.types.Body.{Body}
use Rattle.record.specs.declared.types.Body.TheVariants.{Free, CalGray, CalRgb, Lab, Indexed, Separation, Palette, Program, DeviceN}
use Rattle.form.specs.Steps.{taken_by}
use Rattle.form.specs.declared.Tints.{Tints}
use Rattle.form.specs.declared.Tints.TheVariants.{One, Inks}
use Rattle.calculator.specs.Calculator.{refusal_of, program_run, run_text, filled_run}
use Rattle.space.specs.Spaces.{count_of}
use Rattle.space.specs.Pages.{plain_at, tinted_at}

-- 6: a reference to no block of the page, or to a kind not permitted. The alternate of a Separation or a DeviceN is a device space, CalGray, CalRGB or Lab
abbrev pub is_alternate : Body → Bool
is_alternate Free = false
is_alternate (CalGray g) = true
is_alternate (CalRgb g) = true
is_alternate (Lab g) = true
is_alternate (Indexed base hival) = false
is_alternate (Separation p) = false
is_alternate Palette = false
is_alternate Program = false
is_alternate (DeviceN alternate count) = false

-- an Indexed base may be a Separation or a DeviceN too
abbrev pub is_base : Body → Bool
is_base Free = false
is_base (CalGray g) = true
is_base (CalRgb g) = true
is_base (Lab g) = true
is_base (Indexed base hival) = false
is_base (Separation p) = true
is_base Palette = false
is_base Program = false
is_base (DeviceN alternate count) = true

-- a device code, or a block that f permits; a block that the page does not have is free
unfoldable pub refers_to : List ℕ → (Body → Bool) → ℕ → Bool
refers_to page f n = cond (ltb n blocks) (f (body_at (block_at page n))) (device n)

unfoldable pub permitted : List ℕ → Body → Bool
permitted page Free = true
permitted page (CalGray g) = true
permitted page (CalRgb g) = true
permitted page (Lab g) = true
permitted page (Indexed base hival) = refers_to page is_base base
permitted page (Separation p) = refers_to page is_alternate p.alternate
permitted page Palette = true
permitted page Program = true
permitted page (DeviceN alternate count) = refers_to page is_alternate alternate

-- the components of the space that a body refers to, none where it may not
unfoldable pub within : List ℕ → Body → ℕ
within page Free = 0
within page (CalGray g) = 0
within page (CalRgb g) = 0
within page (Lab g) = 0
within page (Indexed base hival) = count_of (tinted_at page base)
within page (Separation p) = count_of (plain_at page p.alternate)
within page Palette = 0
within page Program = 0
within page (DeviceN alternate count) = count_of (plain_at page alternate)

-- 7, the palette run of an Indexed block: m (hival + 1) bytes, m being the base's count, in the blocks straight after it, as few as hold them
abbrev pub palette_size : ℕ → ℕ → ℕ
palette_size m hival = m * (hival + 1)

abbrev pub run_length : ℕ → ℕ
run_length size = (size + (room - 1)) / room

-- all of them palette blocks, spare bytes of the last of them zero
unfoldable pub palettes : List ℕ → ℕ → ℕ → Bool
palettes page from to = all_between (λ k. is_palette (body_at (block_at page k))) from to

unfoldable pub run_filled : List ℕ → ℕ → ℕ → Bool
run_filled page i size =
    palettes page (i + 1) (i + 1 + run_length size)
    && palette_ends (block_at page (i + run_length size)) (size - room * (run_length size - 1))

-- whether a body has a program: a DeviceN, and a Separation with exponent 0
abbrev pub programmed : Body → Bool
programmed Free = false
programmed (CalGray g) = false
programmed (CalRgb g) = false
programmed (Lab g) = false
programmed (Indexed base hival) = false
programmed (Separation p) = eqb p.exponent 0
programmed Palette = false
programmed Program = false
programmed (DeviceN alternate count) = true

-- the tints that its program takes: as many as it has names, or one
abbrev pub tints_of : Body → Tints
tints_of Free = One
tints_of (CalGray g) = One
tints_of (CalRgb g) = One
tints_of (Lab g) = One
tints_of (Indexed base hival) = One
tints_of (Separation p) = One
tints_of Palette = One
tints_of Program = One
tints_of (DeviceN alternate count) = Inks count

-- the program after block i, which takes t values, over an alternate of m components: 7 for a run that is missing or ill filled; then 16 and 17, of its text
unfoldable pub run_fault : List ℕ → ℕ → ℕ → ℕ → ℕ
run_fault page i t m =
    unless (filled_run (program_run page i) (run_text page i (program_run page i))) 7 (refusal_of t m (run_text page i (program_run page i)))

-- of block i, whose body is y: 0 where it has no program
unfoldable pub program_fault : List ℕ → ℕ → Body → ℕ
program_fault page i y = cond (programmed y) (run_fault page i (taken_by (tints_of y)) (within page y)) 0

-- 7, a Separation: how many entries of C0 and C1 are used, the alternate's count m, and none where a program stands for them
unfoldable pub used_entries : Ink → ℕ → ℕ
used_entries p m = cond (eqb p.exponent 0) 0 m

-- the entries of C0 and C1 past m are zero
unfoldable pub unused_zero : Ink → ℕ → Bool
unused_zero p m = entries_end p.c0 m && entries_end p.c1 m

-- 7, a stray block of a palette or of a program: how many blocks past one whose body is y the last Indexed block before them claims
unfoldable pub palette_claimed : List ℕ → Body → ℕ → ℕ
palette_claimed page Free claimed = claimed - 1
palette_claimed page (CalGray g) claimed = claimed - 1
palette_claimed page (CalRgb g) claimed = claimed - 1
palette_claimed page (Lab g) claimed = claimed - 1
palette_claimed page (Indexed base hival) claimed = run_length (palette_size (within page (Indexed base hival)) hival)
palette_claimed page (Separation p) claimed = claimed - 1
palette_claimed page Palette claimed = claimed - 1
palette_claimed page Program claimed = claimed - 1
palette_claimed page (DeviceN alternate count) claimed = claimed - 1

-- the same past block i, which may be a Separation with a program: that claims its run
unfoldable pub claimed_after : List ℕ → ℕ → Body → ℕ → ℕ
claimed_after page i y claimed = cond (programmed y) (program_run page i) (palette_claimed page y claimed)

-- and how many from block i on
unfoldable pub claimed_at : List ℕ → ℕ → ℕ
claimed_at page zero = 0
claimed_at page (suc i) = claimed_after page i (body_at (block_at page i)) (claimed_at page i)

unfoldable pub well_filled : List ℕ → ℕ → ℕ → Body → Bool
well_filled page i claimed Free = true
well_filled page i claimed (CalGray g) = true
well_filled page i claimed (CalRgb g) = true
well_filled page i claimed (Lab g) = true
well_filled page i claimed (Indexed base hival) = run_filled page i (palette_size (within page (Indexed base hival)) hival)
well_filled page i claimed (Separation p) = unused_zero p (used_entries p (within page (Separation p)))
well_filled page i claimed Palette = ltb 0 claimed
well_filled page i claimed Program = ltb 0 claimed
well_filled page i claimed (DeviceN alternate count) = true
