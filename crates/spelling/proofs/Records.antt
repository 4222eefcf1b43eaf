-- Every record of a space without a program that the rules accept can be spelled out, and is among the records of what is spelled.
use mathlib.Core.Path.{◌≡◌, refl, sym, ap, ◌∙◌}
use mathlib.Core.Bool.{true, ◌&&◌, ◌||◌, not}
use mathlib.Core.List.{List, [], ◌∷◌, ◌++◌}
use Prim.Native.Nat.{ℕ, suc, ◌+◌, ◌-◌, ◌≤◌, ◌<◌, suc-le-suc}
use native.Mathlib.Omega.{arith}
use native.Mathlib.Decide.{dec_lt}
use borrow.Author.Tests.{le-leb, leb-true, eqb-true, eqb-false, not-true}
use lib.Dec.{eqb, leb, ltb}
use lib.IntN.{ℤ, pos, negsuc}
use lib.ListN.{length, get_or, take, length-take, get_or-eq_default}
use lib.Seq.{ext_get_or, get_or-take}
use mir.Syntax.{w32}
use mir.Val.{SFits}
use Rattle.fixed.specs.Bytes.{blocks}
use Rattle.fixed.specs.Loops.{all_from, zero_between}
use Rattle.fixed.specs.Numbers.{exponent_supported}
use Rattle.fixed.proofs.Decide.{and_left, and_right, or-ind, both, passed}
use Rattle.fixed.proofs.Scans.{all-each}
use Rattle.layout.specs.Field.{padded, FieldsFit, Bytes}
use Rattle.layout.proofs.Held.{length-padded, get_d-padded, zero-at}
use Rattle.record.specs.Layout.{body, rest, entries_of}
use Rattle.record.specs.Rules.{is_zero, none_zero, name_fits, well_named, used, well_shaped, lawful, supported, entries_end, fault_of, lawful_in}
use Rattle.record.specs.Fits.{Fits}
use Rattle.record.specs.declared.types.Four.{Four}
use Rattle.record.specs.declared.types.Body.{Body}
use Rattle.record.specs.declared.types.Body.TheVariants.{Free, CalGray, CalRgb, Lab, Indexed, Separation, Palette, Program, DeviceN}
use Rattle.record.specs.declared.types.Record.{Record}
use Rattle.runs.specs.Runs.{run_length, unused_zero}
use Rattle.objects.specs.Objects.{small, bytes_from}
use Rattle.spelling.specs.Spaces.{Space, device, device_gray, device_rgb, device_cmyk, cal_gray, cal_rgb, lab, indexed, separation, components_of, records_of, palettes, three, four, nine, four_of, AllSmall, Fitting}
use Rattle.spelling.specs.Records.{space_by, space_of, Suits, records_before, records_after}

-- ---- numbers of 32 bits

small-of : (z : ℤ) → SFits w32 z → small z ≡ true
small-of (pos n) h = le-leb n 2147483647 (omega (arith, h.sfits))
small-of (negsuc n) h = le-leb n 2147483647 (omega (arith, h.sfits))

-- each number of a list has 32 bits
abbrev AllFit : List ℤ → Type 0
AllFit [] = Unit
AllFit (z ∷ zs) = SFits w32 z × AllFit zs

smalls : (zs : List ℤ) → AllFit zs → AllSmall zs
smalls [] h = tt
smalls (z ∷ zs) h = (small-of z h.0, smalls zs h.1)

-- ---- the room: a name, and zeros

-- a list of bytes with zeros from n on is its first n bytes, padded
padded-back : (s : List ℕ) (n : ℕ) → length s ≡ 504 → n ≤ 504 → ((i : ℕ) → n ≤ i → i < 504 → get_or s i 0 ≡ 0) → padded 504 (take n s) ≡ s
padded-back s n long h zeros = ext_get_or 0 (padded 504 (take n s)) s (length-padded 504 (take n s) ∙ sym long) at_each
  where
    at_each : (i : ℕ) → i < length (padded 504 (take n s)) → get_or (padded 504 (take n s)) i 0 ≡ get_or s i 0
    at_each i l = get_d-padded 504 (take n s) i q ∙ by (dec_lt i n)
      where
        q : i < 504
        q = rw (length-padded 504 (take n s)) at l

        by : Dec (i < n) → get_or (take n s) i 0 ≡ get_or s i 0
        by (yes p) = get_or-take n s i 0 p
        by (no p) = get_or-eq_default (take n s) 0 (omega (arith, length-take n s)) ∙ sym (zeros i (omega arith) q)

-- bytes that are not 0
bytes-from : (l : List ℕ) → ((i : ℕ) → i < length l → (1 ≤ get_or l i 0) × (get_or l i 0 ≤ 255)) → bytes_from 1 l ≡ true
bytes-from [] h = refl
bytes-from (x ∷ l) h =
    let this = h 0 (omega arith) in
    both (both (le-leb 1 x this.0) (le-leb x 255 this.1)) (bytes-from l (λ i q. h (suc i) (suc-le-suc q)))

module _ (s : List ℕ) (n : ℕ) (ok : name_fits s 0 n ≡ true) where
  name-some : 1 ≤ n
  unfolding name_fits
  name-some = leb-true 1 n (and_left (leb 1 n) (leb n 127 && (none_zero s 0 (0 + n) && zero_between s (0 + n) (0 + 128))) ok)

  name-few : n ≤ 127
  unfolding name_fits
  name-few =
      leb-true n 127
      (and_left (leb n 127) (none_zero s 0 (0 + n) && zero_between s (0 + n) (0 + 128))
      (and_right (leb 1 n) (leb n 127 && (none_zero s 0 (0 + n) && zero_between s (0 + n) (0 + 128))) ok))

  name-parts : (none_zero s 0 (0 + n) && zero_between s (0 + n) (0 + 128)) ≡ true
  unfolding name_fits
  name-parts =
      and_right (leb n 127) (none_zero s 0 (0 + n) && zero_between s (0 + n) (0 + 128))
      (and_right (leb 1 n) (leb n 127 && (none_zero s 0 (0 + n) && zero_between s (0 + n) (0 + 128))) ok)

  name-at : (i : ℕ) → i < n → 1 ≤ get_or s i 0
  unfolding none_zero
  name-at i l =
      let all = and_left (none_zero s 0 (0 + n)) (zero_between s (0 + n) (0 + 128)) name-parts in
      let this = all-each (λ k. not (eqb (get_or s k 0) 0)) 0 (0 + n - 0) all i (omega arith) in
      let no = eqb-false (get_or s (0 + i) 0) 0 (not-true (eqb (get_or s (0 + i) 0) 0) this) in
      let same : 0 + i ≡ i = omega arith in
      let no' : get_or s i 0 ≡ 0 → ⊥ = λ e. no (ap (λ (k : ℕ). get_or s k 0) same ∙ e) in
      omega arith

  name-after : (i : ℕ) → n ≤ i → i < 128 → get_or s i 0 ≡ 0
  name-after i l h = zero-at s (0 + n) (0 + 128) i (and_right (none_zero s 0 (0 + n)) (zero_between s (0 + n) (0 + 128)) name-parts) (omega arith) (omega arith)

-- ---- C0 and C1

by_count : (P : ℕ → Type 0) → P 1 → P 3 → P 4 → (t : Space) → P (components_of t)
by_count P one three four (device device_gray) = one
by_count P one three four (device device_rgb) = three
by_count P one three four (device device_cmyk) = four
by_count P one three four (cal_gray g) = one
by_count P one three four (cal_rgb g) = three
by_count P one three four (lab g) = three
by_count P one three four (indexed base hival palette) = one
by_count P one three four (separation ink alternate n c₀ c₁) = one

is-zero : (z : ℤ) → is_zero z ≡ true → pos 0 ≡ z
is-zero (pos n) h = let l = leb-true n 0 (and_right (leb 0 n) (leb n 0) h) in let e : 0 ≡ n = omega arith in ap pos e
is-zero (negsuc n) h = let z : ◌≡◌ {A = ℕ} 0 1 = cc in absurd (omega arith)

module _ (q : Four) where
  end-one : entries_end q 1 ≡ true → four_of (take 1 (entries_of q)) ≡ q
  unfolding entries_end all_from
  end-one h =
      let h₂ = and_right (is_zero q.b) (is_zero q.c && (is_zero q.d && true)) h in
      let h₃ = and_right (is_zero q.c) (is_zero q.d && true) h₂ in
      let b = is-zero q.b (and_left (is_zero q.b) (is_zero q.c && (is_zero q.d && true)) h) in
      let c = is-zero q.c (and_left (is_zero q.c) (is_zero q.d && true) h₂) in
      let d = is-zero q.d (and_left (is_zero q.d) true h₃) in
      (λ j. record { a = q.a; b = b j; c = c j; d = d j })

  end-three : entries_end q 3 ≡ true → four_of (take 3 (entries_of q)) ≡ q
  unfolding entries_end all_from
  end-three h = let d = is-zero q.d (and_left (is_zero q.d) true h) in (λ j. record { a = q.a; b = q.b; c = q.c; d = d j })

  entries-back : (t : Space) → entries_end q (components_of t) ≡ true → four_of (take (components_of t) (entries_of q)) ≡ q
  entries-back = by_count (λ m. entries_end q m ≡ true → four_of (take m (entries_of q)) ≡ q) end-one end-three (λ h. refl)

  entries-length : (t : Space) → length (take (components_of t) (entries_of q)) ≡ components_of t
  entries-length = by_count (λ m. length (take m (entries_of q)) ≡ m) refl refl refl

  entries-small : AllSmall (entries_of q) → (t : Space) → AllSmall (take (components_of t) (entries_of q))
  entries-small all = by_count (λ m. AllSmall (take m (entries_of q))) (all.0, tt) (all.0, (all.1.0, (all.1.1.0, tt))) all

-- an exponent that the rules of a record accept, 0 for a program or one of 1 to 4
exponent-most : (n : ℕ) → (eqb n 0 || exponent_supported n) ≡ true → n ≤ 4
exponent-most n e =
    or-ind (eqb n 0) (exponent_supported n) e
    (λ z. let h = eqb-true n 0 z in omega arith)
    (λ l. leb-true n 4 (and_right (leb 1 n) _ l))

-- ---- a record by its body

module _ (n own : ℕ) (s : List ℕ) (inside : Space) (palette : List ℕ) (long : length s ≡ 504) (all : Bytes s) where
  ink-bytes : (k : ℕ) → name_fits s 0 k ≡ true → bytes_from 1 (take k s) ≡ true
  ink-bytes k ok =
      let few = name-few s k ok in
      let size = length-take k s in
      bytes-from (take k s)
      (λ i l.
      let q : i < k = omega arith in
      let this : get_or (take k s) i 0 ≡ get_or s i 0 = get_or-take k s i 0 q in
      let some = name-at s k ok i q in
      let byte = all i in
      (omega arith, omega arith))

  fits_by : (y : Body) → FieldsFit (body y s ++ rest y) → well_named y s ≡ true → lawful y ≡ true → supported y ≡ true → Suits n own y inside palette
      → Fitting (space_by y s inside palette)
  unfolding well_named lawful supported
  fits_by Free h name law limit suits = absurd suits
  fits_by (CalGray g) h name law limit suits =
      (smalls (three g.white) (h.0, (h.1.0, (h.1.1.0, tt))), smalls (three g.black) (h.1.1.1.0, (h.1.1.1.1.0, (h.1.1.1.1.1.0, tt))), small-of g.gamma h.1.1.1.1.1.1.0)
  fits_by (CalRgb g) h name law limit suits =
      let h₃ = h.1.1.1 in
      let h₆ = h₃.1.1.1 in
      let h₉ = h₆.1.1.1 in
      let h₁₂ = h₉.1.1.1 in
      let h₁₅ = h₁₂.1.1.1 in
      (smalls (three g.white) (h.0, (h.1.0, (h.1.1.0, tt))), smalls (three g.black) (h₃.0, (h₃.1.0, (h₃.1.1.0, tt))), smalls (three g.gammas) (h₆.0, (h₆.1.0, (h₆.1.1.0, tt))), smalls (nine g) (h₉.0, (h₉.1.0, (h₉.1.1.0, (h₁₂.0, (h₁₂.1.0, (h₁₂.1.1.0, (h₁₅.0, (h₁₅.1.0, (h₁₅.1.1.0, tt))))))))))
  fits_by (Lab g) h name law limit suits =
      let h₃ = h.1.1.1 in
      let h₆ = h₃.1.1.1 in
      (smalls (three g.white) (h.0, (h.1.0, (h.1.1.0, tt))), smalls (three g.black) (h₃.0, (h₃.1.0, (h₃.1.1.0, tt))), smalls (four g.range) (h₆.0, (h₆.1.0, (h₆.1.1.0, (h₆.1.1.1.0, tt)))))
  fits_by (Indexed base hival) h name law limit suits =
      (suits.0, record { high = leb-true hival 255 law; size = suits.3; bytes = suits.4 })
  fits_by (Separation p) h name law limit suits =
      let few = name-few s p.name_len name in
      let size = length-take p.name_len s in
      let h₄ = h.1.1.1.1 in
      let h₈ = h₄.1.1.1.1 in
      let froms = smalls (entries_of p.c0) (h₄.0, (h₄.1.0, (h₄.1.1.0, (h₄.1.1.1.0, tt)))) in
      let tos = smalls (entries_of p.c1) (h₈.0, (h₈.1.0, (h₈.1.1.0, (h₈.1.1.1.0, tt)))) in (
        suits.0,
        record {
          some = omega (arith, name-some s p.name_len name);
          few = omega arith;
          bytes = ink-bytes p.name_len name;
          least = suits.4;
          most = exponent-most p.exponent limit;
          from = entries-length p.c0 inside;
          to = entries-length p.c1 inside;
          froms = entries-small p.c0 froms inside;
          tos = entries-small p.c1 tos inside;
        },
      )
  fits_by Palette h name law limit suits = absurd suits
  fits_by Program h name law limit suits = absurd suits
  fits_by (DeviceN alternate count) h name law limit suits = absurd suits

  -- the room is its name and zeros
  room_back : (k : ℕ) → k ≤ 504 → ((i : ℕ) → k ≤ i → i < 504 → get_or s i 0 ≡ 0) → padded 504 (take k s) ≡ s
  room_back k h zeros = padded-back s k long h zeros

  zeros-after : (k : ℕ) → name_fits s 0 k ≡ true → zero_between s 128 504 ≡ true → (i : ℕ) → k ≤ i → i < 504 → get_or s i 0 ≡ 0
  zeros-after k ok zeros i l h = by (dec_lt i 128)
    where
      by : Dec (i < 128) → get_or s i 0 ≡ 0
      by (yes q) = name-after s k ok i l q
      by (no q) = zero-at s 128 504 i zeros (omega arith) h

  none-back : zero_between s 0 504 ≡ true → padded 504 [] ≡ s
  none-back z = room_back 0 (omega arith) (λ i l h. zero-at s 0 504 i z l h)

  among-by : (y : Body) → well_named y s ≡ true → zero_between s (used y) 504 ≡ true → Suits n own y inside palette
      → records_of n (space_by y s inside palette) ≡ records_before n y inside ++ (record { own = own; body = y; bytes = s } ∷ records_after own y palette)
  unfolding well_named unused_zero
  among-by Free name zeros suits = absurd suits
  among-by (CalGray g) name zeros suits = λ j. record { own = sym suits j; body = CalGray g; bytes = none-back zeros j } ∷ []
  among-by (CalRgb g) name zeros suits = λ j. record { own = sym suits j; body = CalRgb g; bytes = none-back zeros j } ∷ []
  among-by (Lab g) name zeros suits = λ j. record { own = sym suits j; body = Lab g; bytes = none-back zeros j } ∷ []
  among-by (Indexed base hival) name zeros suits =
      λ j.
      records_of n inside
      ++ (record { own = sym suits.1 j; body = Indexed (sym suits.2 j) hival; bytes = none-back zeros j }
      ∷ palettes (sym suits.1 j + 1) (run_length (length palette)) palette)
  among-by (Separation p) name zeros suits =
      let k = p.name_len in
      let few = name-few s k name in
      let size : length (take k s) ≡ k = omega (arith, length-take k s) in
      let spare = suits.3 in
      let m = components_of inside in
      let from = entries-back p.c0 inside (and_left (entries_end p.c0 m) (entries_end p.c1 m) spare) in
      let to = entries-back p.c1 inside (and_right (entries_end p.c0 m) (entries_end p.c1 m) spare) in
      let bytes = room_back k (omega arith) (λ i l h. zeros-after k name zeros i l h) in
      (λ j.
      records_of n inside
      ++ (record {
        own = sym suits.1 j;
        body = Separation (record { alternate = sym suits.2 j; exponent = p.exponent; name_len = size j; c0 = from j; c1 = to j });
        bytes = bytes j;
      }
      ∷ []))
  among-by Palette name zeros suits = absurd suits
  among-by Program name zeros suits = absurd suits
  among-by (DeviceN alternate count) name zeros suits = absurd suits

-- ---- any record

module _ (r : Record) (n : ℕ) (inside : Space) (palette : List ℕ) (typed : Fits r) (all : Bytes r.bytes) (ok : fault_of r ≡ 0)
    (suits : Suits n r.own r.body inside palette) where
  -- the tests that it passed
  pub tests : (well_shaped r ≡ true) × (lawful r.body ≡ true) × (supported r.body ≡ true)
  unfolding fault_of lawful_in
  tests =
      let a = passed (well_shaped r) _ 3 (λ e. omega arith) ok in
      let b = passed (lawful_in r.bytes r.body) _ 4 (λ e. omega arith) a.1 in
      let c = passed (supported r.body) _ 5 (λ e. omega arith) b.1 in
      (a.0, and_left (lawful r.body) _ b.0, c.0)

  shape : (well_named r.body r.bytes && zero_between r.bytes (used r.body) 504) ≡ true
  unfolding well_shaped
  shape = and_right (ltb r.own blocks) (well_named r.body r.bytes && zero_between r.bytes (used r.body) 504) tests.0

  pub fits-so : Fitting (space_of r inside palette)
  fits-so =
      fits_by n r.own r.bytes inside palette typed.room all r.body typed.numbers.1.1.1
      (and_left (well_named r.body r.bytes) (zero_between r.bytes (used r.body) 504) shape) tests.1 tests.2 suits

  pub among-so : records_of n (space_of r inside palette) ≡ records_before n r.body inside ++ (r ∷ records_after r.own r.body palette)
  among-so =
      among-by n r.own r.bytes inside palette typed.room all r.body
      (and_left (well_named r.body r.bytes) (zero_between r.bytes (used r.body) 504) shape)
      (and_right (well_named r.body r.bytes) (zero_between r.bytes (used r.body) 504) shape) suits
