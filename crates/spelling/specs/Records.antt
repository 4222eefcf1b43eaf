-- FORMAT.md, Designers' texts: from a record to its text: the space that a record tells of, where the space inside it
-- and its palette are given. Every record that the rules accept has one, but for that of a Separation with a program: a
-- text has no words for one.
use Rattle.std.specs.Prelude.{ℕ, ◌+◌, ◌*◌, ◌≤◌, ◌≡◌, true, List, [], ◌∷◌, ◌++◌, length, take}
use Rattle.layout.specs.Field.{Bytes}
use Rattle.record.specs.Layout.{entries_of, block_of}
use Rattle.record.specs.Rules.{fault_of}
use Rattle.record.specs.Fits.{Fits}
use Rattle.record.specs.declared.types.Body.{Body}
use Rattle.record.specs.declared.types.Body.TheVariants.{Free, CalGray, CalRgb, Lab, Indexed, Separation, Palette, Program, DeviceN}
use Rattle.record.specs.declared.types.Record.{Record}
use Rattle.runs.specs.Runs.{run_length, unused_zero}
use Rattle.reader.specs.Texts.{text_of, page}
use Rattle.objects.specs.Objects.{bytes_from}
use Rattle.spelling.specs.Spaces.{Device, Space, device, cal_gray, cal_rgb, lab, indexed, separation, components_of, blocks_of, code_of, records_of, palettes, Fitting, spelled}

-- s is the record's room, with a Separation's name. A free block, a palette's and a program's are no space's
abbrev pub space_by : Body → List ℕ → Space → List ℕ → Space
space_by Free s inside palette = inside
space_by (CalGray g) s inside palette = cal_gray g
space_by (CalRgb g) s inside palette = cal_rgb g
space_by (Lab g) s inside palette = lab g
space_by (Indexed base hival) s inside palette = indexed inside hival palette
space_by (Separation p) s inside palette =
    separation (take p.name_len s) inside p.exponent (take (components_of inside) (entries_of p.c0))
    (take (components_of inside) (entries_of p.c1))
space_by Palette s inside palette = inside
space_by Program s inside palette = inside
space_by (DeviceN alternate count) s inside palette = inside

-- and so of the whole record
abbrev pub space_of : Record → Space → List ℕ → Space
space_of r inside palette = space_by r.body r.bytes inside palette

-- the space inside suits the record, whose blocks are numbered from n on: the record's own number comes after that space's blocks, its reference is that
-- space, its palette has the length for it, and its spare entries are 0. A Separation has an exponent and no program
abbrev pub Suits : ℕ → ℕ → Body → Space → List ℕ → Type 0
Suits n own Free inside palette = ⊥
Suits n own (CalGray g) inside palette = own ≡ n
Suits n own (CalRgb g) inside palette = own ≡ n
Suits n own (Lab g) inside palette = own ≡ n
Suits n own (Indexed base hival) inside palette =
    Fitting inside
    × (own ≡ n + blocks_of inside)
    × (base ≡ code_of n inside)
    × (length palette ≡ components_of inside * (hival + 1))
    × (bytes_from 0 palette ≡ true)
Suits n own (Separation p) inside palette =
    Fitting inside
    × (own ≡ n + blocks_of inside)
    × (p.alternate ≡ code_of n inside)
    × (unused_zero p (components_of inside) ≡ true)
    × (1 ≤ p.exponent)
Suits n own Palette inside palette = ⊥
Suits n own Program inside palette = ⊥
Suits n own (DeviceN alternate count) inside palette = ⊥

-- the records before its own: those of the space inside
abbrev pub records_before : ℕ → Body → Space → List Record
records_before n Free inside = []
records_before n (CalGray g) inside = []
records_before n (CalRgb g) inside = []
records_before n (Lab g) inside = []
records_before n (Indexed base hival) inside = records_of n inside
records_before n (Separation p) inside = records_of n inside
records_before n Palette inside = []
records_before n Program inside = []
records_before n (DeviceN alternate count) inside = []

-- and after it: its palette's
abbrev pub records_after : ℕ → Body → List ℕ → List Record
records_after own Free palette = []
records_after own (CalGray g) palette = []
records_after own (CalRgb g) palette = []
records_after own (Lab g) palette = []
records_after own (Indexed base hival) palette = palettes (own + 1) (run_length (length palette)) palette
records_after own (Separation p) palette = []
records_after own Palette palette = []
records_after own Program palette = []
records_after own (DeviceN alternate count) palette = []

-- Every record of a space that the rules of a record accept, with bytes in its room and no program, can be spelled out, and is itself among the records of
-- what is spelled: its own comes straight after those of the space inside it, and its palette's straight after it.
pub record Spellable : Type 0 where
  pub fits :
      (r : Record) (n : ℕ) (inside : Space) (palette : List ℕ)
      → Fits r
      → Bytes r.bytes
      → fault_of r ≡ 0
      → Suits n r.own r.body inside palette
      → Fitting (space_of r inside palette)
  pub among :
      (r : Record) (n : ℕ) (inside : Space) (palette : List ℕ)
      → Fits r
      → Bytes r.bytes
      → fault_of r ≡ 0
      → Suits n r.own r.body inside palette
      → records_of n (space_of r inside palette) ≡ records_before n r.body inside ++ (r ∷ records_after r.own r.body palette)
  -- Where nothing but a device space is inside it, and it has no palette, its text is its block.
  pub alone :
      (r : Record) (d : Device) (room : ℕ)
      → Fits r
      → Bytes r.bytes
      → fault_of r ≡ 0
      → Suits 0 r.own r.body (device d) []
      → 512 ≤ room
      → text_of room (spelled (space_of r (device d) [] ∷ [])) ≡ page (block_of r)
