-- FORMAT.md, Refusals, Clause rules, and Sizes and house limits: what is refused of a record and of a block, each number in its place.
use Rattle.std.specs.Prelude.{List, Bool, true, false, ◌&&◌, ◌||◌, cond, not, ℕ, ◌+◌, eqb, leb, ltb, ℤ, pos}
use Rattle.std.specs.Int.Signed.{lt_z, le_z}
use Rattle.fixed.specs.Numbers.{gamma_supported, exponent_supported}
use Rattle.fixed.specs.Bytes.{blocks, byte_at, device}
use Rattle.fixed.specs.Loops.{unless, all_between, zero_between}
use Rattle.fixed.specs.Values.{value, fills}
use Rattle.record.specs.Layout.{room, names_room, named_to, entries_of}
use Rattle.record.specs.Reading.{kind_at, body_at, name_from, names_at, the_none, the_all, name_is, same_names, name_place, record_at}
use Rattle.record.specs.declared.types.Triple.{Triple}
use Rattle.record.specs.declared.types.Ranges.{Ranges}
use Rattle.record.specs.declared.types.Four.{Four}
use Rattle.record.specs.declared.types.Body.{Body}
use Rattle.record.specs.declared.types.Body.TheVariants.{Free, CalGray, CalRgb, Lab, Indexed, Separation, Palette, Program, DeviceN}
use Rattle.record.specs.declared.types.Record.{Record}

-- whether a number is 0
abbrev pub is_zero : ℤ → Bool
is_zero z = le_z (pos 0) z && le_z z (pos 0)

-- 1, in millionths
abbrev pub unit : ℕ
unit = 1000000

-- ---- 3: unknown kind, wrong own number, a byte not zero that must be; name length not 1..127, or a zero byte in the name; of a DeviceN a count of names not 1..8, or a
-- name length not 1..48

-- none of the bytes from `from` to below `to` is zero
unfoldable pub none_zero : List ℕ → ℕ → ℕ → Bool
none_zero s from to = all_between (λ k. not (eqb (byte_at s k) 0)) from to

-- a name of `count` bytes, in the 128 from `start` on: 1 to 127 bytes, none of them zero, and zeros past them
unfoldable pub name_fits : List ℕ → ℕ → ℕ → Bool
name_fits s start count =
    leb 1 count && (leb count 127 && (none_zero s start (start + count) && zero_between s (start + count) (start + 128)))

-- the name at `at`, of a DeviceN: 1 to 48 bytes, none of them zero
unfoldable pub name_fits_at : List ℕ → ℕ → Bool
name_fits_at s at = leb 1 (byte_at s at) && (leb (byte_at s at) 48 && none_zero s (at + 1) (at + 1 + byte_at s at))

-- n names, 1 to 8, and zeros past them in the room that they have
unfoldable pub names_fit : List ℕ → ℕ → Bool
names_fit s n = fills n && (all_between (λ k. name_fits_at s (name_place s k)) 0 n && zero_between s (name_place s n) names_room)

-- of a block: a known kind, byte 1 zero, and zeros where the body names no byte, which for a DeviceN is byte 7
unfoldable pub well_laid : List ℕ → Bool
well_laid b =
    leb (kind_at b) 8 && (eqb (byte_at b 1) 0 && (zero_between b (named_to (body_at b)) 508 && cond (eqb (kind_at b) 8) (eqb (byte_at b 7) 0) true))

-- the name of a Separation, with its length in byte 7, and the names of a DeviceN, with their count in byte 6
unfoldable pub name_shown : List ℕ → Bool
name_shown b =
    cond (eqb (kind_at b) 5) (name_fits b name_from (byte_at b 7))
    (cond (eqb (kind_at b) 8) (names_fit (names_at b) (byte_at b 6))
    true)

-- all of refusal 3 that one block shows, but its own number
unfoldable pub well_formed : List ℕ → Bool
well_formed b = well_laid b && name_shown b

-- of a record: how many places of its room are used, and the name in it
abbrev pub used : Body → ℕ
used Free = 0
used (CalGray g) = 0
used (CalRgb g) = 0
used (Lab g) = 0
used (Indexed base hival) = 0
used (Separation p) = 128
used Palette = room
used Program = room
used (DeviceN alternate count) = names_room

unfoldable pub well_named : Body → List ℕ → Bool
well_named Free s = true
well_named (CalGray g) s = true
well_named (CalRgb g) s = true
well_named (Lab g) s = true
well_named (Indexed base hival) s = true
well_named (Separation p) s = name_fits s 0 p.name_len
well_named Palette s = true
well_named Program s = true
well_named (DeviceN alternate count) s = names_fit s count

-- an own number that a page can have, a name that fits, and zeros where the room is not used
unfoldable pub well_shaped : Record → Bool
well_shaped r = ltb r.own blocks && (well_named r.body r.bytes && zero_between r.bytes (used r.body) room)

-- ---- 4: a number breaks a clause rule

-- white X and Z above 0, Y exactly 1
unfoldable pub white_point : Triple → Bool
white_point t = lt_z (pos 0) t.x && (le_z (pos unit) t.y && (le_z t.y (pos unit) && lt_z (pos 0) t.z))

-- black not below 0
unfoldable pub black_point : Triple → Bool
black_point t = le_z (pos 0) t.x && (le_z (pos 0) t.y && le_z (pos 0) t.z)

-- amin <= amax, bmin <= bmax
unfoldable pub ordered : Ranges → Bool
ordered q = le_z q.amin q.amax && le_z q.bmin q.bmax

-- of the first n names: none is All, and two are equal only where they are None
unfoldable pub names_lawful : List ℕ → ℕ → Bool
names_lawful s n =
    all_between (λ k. not (name_is s (name_place s k) the_all) && (name_is s (name_place s k) the_none || all_between (λ j. not (same_names s (name_place s j) (name_place s k))) 0 k)) 0 n

-- those, CalGray gamma above 0, and hival 0 to 255
unfoldable pub lawful : Body → Bool
lawful Free = true
lawful (CalGray g) = white_point g.white && (black_point g.black && lt_z (pos 0) g.gamma)
lawful (CalRgb g) = white_point g.white && black_point g.black
lawful (Lab g) = white_point g.white && (black_point g.black && ordered g.range)
lawful (Indexed base hival) = leb hival 255
lawful (Separation p) = true
lawful Palette = true
lawful Program = true
lawful (DeviceN alternate count) = true

-- how many names a DeviceN has; no other body has names
abbrev pub name_count : Body → ℕ
name_count Free = 0
name_count (CalGray g) = 0
name_count (CalRgb g) = 0
name_count (Lab g) = 0
name_count (Indexed base hival) = 0
name_count (Separation p) = 0
name_count Palette = 0
name_count Program = 0
name_count (DeviceN alternate count) = count

-- the numbers of a body, and its names, which stand in s
unfoldable pub lawful_in : List ℕ → Body → Bool
lawful_in s y = lawful y && names_lawful s (name_count y)

-- ---- 5: a gamma or exponent is beyond the house limit

-- each gamma and each exponent, by `fixed`'s definition; exponent 0 means a program
unfoldable pub supported : Body → Bool
supported Free = true
supported (CalGray g) = gamma_supported g.gamma
supported (CalRgb g) = gamma_supported g.gammas.x && (gamma_supported g.gammas.y && gamma_supported g.gammas.z)
supported (Lab g) = true
supported (Indexed base hival) = true
supported (Separation p) = eqb p.exponent 0 || exponent_supported p.exponent
supported Palette = true
supported Program = true
supported (DeviceN alternate count) = true

-- ---- 6, of single blocks: a reference that is neither a device code nor a block number

unfoldable pub refers : Body → Bool
refers Free = true
refers (CalGray g) = true
refers (CalRgb g) = true
refers (Lab g) = true
refers (Indexed base hival) = device base || ltb base blocks
refers (Separation p) = device p.alternate || ltb p.alternate blocks
refers Palette = true
refers Program = true
refers (DeviceN alternate count) = device alternate || ltb alternate blocks

-- ---- 7, of single blocks: spare bytes of a palette, and spare entries of C0 and C1

-- a palette block
abbrev pub is_palette : Body → Bool
is_palette Free = false
is_palette (CalGray g) = false
is_palette (CalRgb g) = false
is_palette (Lab g) = false
is_palette (Indexed base hival) = false
is_palette (Separation p) = false
is_palette Palette = true
is_palette Program = false
is_palette (DeviceN alternate count) = false

-- a block of a program's text
abbrev pub is_program : Body → Bool
is_program Free = false
is_program (CalGray g) = false
is_program (CalRgb g) = false
is_program (Lab g) = false
is_program (Indexed base hival) = false
is_program (Separation p) = false
is_program Palette = false
is_program Program = true
is_program (DeviceN alternate count) = false

-- the bytes of a palette end after `size` of its part in this block: those past them are zero
unfoldable pub palette_ends : List ℕ → ℕ → Bool
palette_ends b size = zero_between b (4 + size) 508

-- the entries of C0 or C1 end after m: those past them are zero
unfoldable pub entries_end : Four → ℕ → Bool
entries_end q m = all_between (λ k. is_zero (value (entries_of q) k)) m 4

-- ---- the first of 3, 4, 5, 6 that a record meets, or 0

unfoldable pub fault_of : Record → ℕ
fault_of r = unless (well_shaped r) 3 (unless (lawful_in r.bytes r.body) 4 (unless (supported r.body) 5 (unless (refers r.body) 6 0)))

-- and the same of a block: what no record can show, its kind and the bytes that are not named, is looked at first, and it is 3
unfoldable pub fault_at : List ℕ → ℕ
fault_at b = unless (well_laid b) 3 (fault_of (record_at b))
