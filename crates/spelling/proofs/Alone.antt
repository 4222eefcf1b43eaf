-- A record with nothing but a device space inside, and no palette: its block alone is an accepted page, and its text is that block. With what holds of
-- every record this is `spellable : Spellable`.
use mathlib.Core.Path.{◌≡◌, refl, ap, ◌∙◌}
use mathlib.Core.Bool.{true, false}
use mathlib.Core.List.{List, [], ◌∷◌, ◌++◌, append-nil}
use Prim.Native.Nat.{ℕ, zero, suc, ◌+◌, ◌*◌, ◌/◌, ◌≤◌, ◌<◌}
use native.Mathlib.Omega.{arith}
use borrow.Author.Tests.{ne_eqb}
use lib.Dec.{eqb, ltb}
use lib.ListN.{length}
use Rattle.fixed.specs.Bytes.{blocks}
use Rattle.fixed.proofs.Decide.{and_left, both}
use Rattle.layout.specs.Field.{Bytes}
use Rattle.record.specs.Layout.{block_of}
use Rattle.record.specs.Reading.{own_at, body_at, record_at}
use Rattle.fixed.specs.Loops.{all_from}
use Rattle.record.specs.Rules.{well_formed, well_shaped, lawful, supported, fault_of, lawful_in, names_lawful}
use Rattle.record.specs.Fits.{Fits}
use Rattle.record.specs.declared.types.Separation.{Separation as Ink}
use Rattle.record.specs.declared.types.Body.{Body}
use Rattle.record.specs.declared.types.Body.TheVariants.{Free, CalGray, CalRgb, Lab, Indexed, Separation, Palette, Program, DeviceN}
use Rattle.record.specs.declared.types.Record.{Record}
use Rattle.record.proofs.Shapes.{formed-shaped}
use Rattle.block.proofs.Blocks.{Read, read_at}
use Rattle.space.specs.Pages.{device_of}
use Rattle.page.specs.Outcomes.{accepted}
use Rattle.runs.specs.Runs.{refers_to, permitted, within, program_fault, used_entries, claimed_at, well_filled}
use Rattle.page.specs.Validation.{well_sized, fault_one, fault_claimed, fault_two, validated}
use Rattle.page.proofs.Accepted.{accepted-where}
use Rattle.reader.specs.Texts.{text_of, page}
use Rattle.objects.specs.Objects.{each}
use Rattle.spelling.specs.Spaces.{Device, device_gray, device_rgb, device_cmyk, device, components_of, code_of, records_of, all_records, is_array, AllFitting, spelled, page_of}
use Rattle.spelling.specs.Records.{space_by, space_of, Suits, records_before, records_after, Spellable}
use Rattle.spelling.proofs.ReadsBack.{reads-back}
use Rattle.spelling.proofs.Records.{tests, fits-so, among-so}

module _ (d : Device) where
  own-zero : (own : ℕ) (y : Body) → Suits 0 own y (device d) [] → own ≡ 0
  own-zero own Free suits = absurd suits
  own-zero own (CalGray g) suits = suits
  own-zero own (CalRgb g) suits = suits
  own-zero own (Lab g) suits = suits
  own-zero own (Indexed base hival) suits = suits.1
  own-zero own (Separation p) suits = suits.1
  own-zero own Palette suits = absurd suits
  own-zero own Program suits = absurd suits
  own-zero own (DeviceN alternate count) suits = absurd suits

  array-so : (own : ℕ) (y : Body) (s : List ℕ) → Suits 0 own y (device d) [] → is_array (space_by y s (device d) []) ≡ true
  array-so own Free s suits = absurd suits
  array-so own (CalGray g) s suits = refl
  array-so own (CalRgb g) s suits = refl
  array-so own (Lab g) s suits = refl
  array-so own (Indexed base hival) s suits = refl
  array-so own (Separation p) s suits = refl
  array-so own Palette s suits = absurd suits
  array-so own Program s suits = absurd suits
  array-so own (DeviceN alternate count) s suits = absurd suits

-- a palette has a byte
no-palette : (d : Device) (hival : ℕ) → 0 ≡ components_of (device d) * (hival + 1) → ⊥
no-palette device_gray hival e = omega arith
no-palette device_rgb hival e = omega arith
no-palette device_cmyk hival e = omega arith

sole : (d : Device) (own : ℕ) (r : Record) (y : Body) → Suits 0 own y (device d) [] → records_before 0 y (device d) ++ (r ∷ records_after own y []) ≡ r ∷ []
sole d own r Free suits = absurd suits
sole d own r (CalGray g) suits = refl
sole d own r (CalRgb g) suits = refl
sole d own r (Lab g) suits = refl
sole d own r (Indexed base hival) suits = absurd (no-palette d hival suits.3)
sole d own r (Separation p) suits = refl
sole d own r Palette suits = absurd suits
sole d own r Program suits = absurd suits
sole d own r (DeviceN alternate count) suits = absurd suits

-- an exponent of 1 or more means no program
with-exponent : (e : ℕ) → 1 ≤ e → eqb e 0 ≡ false
with-exponent e h = ne_eqb e 0 (λ z. omega arith)

module _ (b : List ℕ) where
  permitted-device : (d : Device) (p : Ink) → p.alternate ≡ code_of 0 (device d) → permitted b (Separation p) ≡ true
  unfolding permitted refers_to
  permitted-device device_gray p e = rw e
  permitted-device device_rgb p e = rw e
  permitted-device device_cmyk p e = rw e

  within-device : (d : Device) (p : Ink) → p.alternate ≡ code_of 0 (device d) → within b (Separation p) ≡ components_of (device d)
  unfolding within device_of
  within-device device_gray p e = rw e
  within-device device_rgb p e = rw e
  within-device device_cmyk p e = rw e

  second : (d : Device) (own : ℕ) (y : Body) → lawful y ≡ true → supported y ≡ true → Suits 0 own y (device d) [] → fault_claimed b 0 0 y ≡ 0
  unfolding fault_claimed lawful_in names_lawful all_from permitted program_fault used_entries well_filled
  second d own Free law limit suits = absurd suits
  second d own (CalGray g) law limit suits = rw (law, limit)
  second d own (CalRgb g) law limit suits = rw (law, limit)
  second d own (Lab g) law limit suits = rw (law, limit)
  second d own (Indexed base hival) law limit suits = absurd (no-palette d hival suits.3)
  second d own (Separation p) law limit suits =
      rw (law, limit, permitted-device d p suits.2, with-exponent p.exponent suits.4, within-device d p suits.2, suits.3)
  second d own Palette law limit suits = absurd suits
  second d own Program law limit suits = absurd suits
  second d own (DeviceN alternate count) law limit suits = absurd suits

module _ (r : Record) (d : Device) (typed : Fits r) (all : Bytes r.bytes) (ok : fault_of r ≡ 0) (suits : Suits 0 r.own r.body (device d) []) where
  abbrev b : List ℕ
  b = block_of r

  passes : (well_shaped r ≡ true) × (lawful r.body ≡ true) × (supported r.body ≡ true)
  passes = tests r 0 (device d) [] typed all ok suits

  is_read : Read b r
  is_read = read_at r typed passes.0

  formed-so : well_formed b ≡ true
  formed-so =
      let s : well_shaped (record_at b) ≡ true = ap well_shaped is_read.gives ∙ passes.0 in
      and_left (well_formed b) (ltb (own_at b) blocks) (formed-shaped b ∙ both is_read.knows s)

  own-so : own_at b ≡ 0
  unfolding record_at
  own-so = ap (λ (x : Record). x.own) is_read.gives ∙ own-zero d r.own r.body suits

  body-so : body_at b ≡ r.body
  unfolding record_at
  body-so = ap (λ (x : Record). x.body) is_read.gives

  -- neither pass finds a fault in block 0
  one-so : fault_one b 0 ≡ 0
  unfolding fault_one
  one-so = rw (is_read.checks, formed-so, own-so)

  two-so : fault_two b 0 ≡ 0
  unfolding fault_two claimed_at
  two-so = ap (fault_claimed b 0 0) body-so ∙ second b d r.own r.body passes.1 passes.2 suits

  only : (f : ℕ → ℕ) → f 0 ≡ 0 → (i : ℕ) → i < length b / 512 → f i ≡ 0
  only f h zero l = h
  only f h (suc i) l = absurd (omega (arith, is_read.long))

  sized : well_sized (length b) ≡ true
  unfolding well_sized
  sized = rw is_read.long

  block-accepted : validated b ≡ accepted
  block-accepted = accepted-where b sized (only (fault_one b) one-so) (only (fault_two b) two-so)

  page-so : page_of (space_of r (device d) [] ∷ []) ≡ b
  unfolding page_of
  page-so =
      append-nil-records
      ∙ ap (each block_of) (among-so r 0 (device d) [] typed all ok suits ∙ sole d r.own r r.body suits)
      ∙ append-nil b
    where
      append-nil-records : each block_of (all_records 0 (space_of r (device d) [] ∷ [])) ≡ each block_of (records_of 0 (space_of r (device d) []))
      append-nil-records = ap (each block_of) (append-nil (records_of 0 (space_of r (device d) [])))

  module _ (room : ℕ) (holds : 512 ≤ room) where
    alone-so : text_of room (spelled (space_of r (device d) [] ∷ [])) ≡ page (block_of r)
    alone-so =
        let fits : AllFitting (space_of r (device d) [] ∷ []) = (array-so d r.own r.body r.bytes suits, fits-so r 0 (device d) [] typed all ok suits, tt) in
        let long : length (page_of (space_of r (device d) [] ∷ [])) ≤ room = rw page-so (omega (arith, is_read.long)) in
        reads-back.back (space_of r (device d) [] ∷ []) room fits (ap validated page-so ∙ block-accepted) long ∙ ap page page-so

pub spellable : Spellable
spellable =
    record {
      fits = fits-so;
      among = among-so;
      alone = λ r d room typed all ok suits holds. alone-so r d typed all ok suits room holds;
    }
