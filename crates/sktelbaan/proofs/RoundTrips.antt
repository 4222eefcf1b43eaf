-- The round trips: the numbers of a record make that record, and numbers that are written are those of the record that they make.
use mathlib.Core.Path.{◌≡◌, refl, sym, ap, ◌∙◌}
use mathlib.Core.Bool.{true, ◌&&◌, ◌||◌, cond}
use mathlib.Core.List.{List, [], ◌∷◌, ◌++◌}
use Prim.Native.Nat.{ℕ, zero, suc, min, ◌+◌, ◌-◌, ◌<◌, ◌≤◌}
use native.Mathlib.Omega.{arith}
use native.Mathlib.Decide.{dec_lt}
use borrow.Author.Tests.{eqb-true, eq-eqb, leb-true, ltb-true}
use lib.Dec.{eqb, leb, ltb}
use lib.IntN.{ℤ, pos, negsuc}
use lib.ListN.{length, get_or, replicate, length-append, length-replicate, get_or-replicate, get_or-append}
use lib.Seq.{ext_get_or, get_or-append-add}
use Rattle.fixed.specs.Bytes.{blocks, device, gray_code, rgb_code, cmyk_code}
use Rattle.fixed.specs.Loops.{all_from}
use Rattle.fixed.specs.Numbers.{exponent_supported}
use Rattle.fixed.specs.Values.{value, small_of, listed, places}
use Rattle.fixed.proofs.Decide.{and_left, and_right, or-ind, passed}
use Rattle.fixed.proofs.Listed.{listed-length, listed-value}
use Rattle.fixed.proofs.Scans.{all-each}
use Rattle.layout.specs.Field.{padded, Bytes, FieldsFit}
use Rattle.layout.proofs.Held.{length-padded}
use Rattle.record.specs.Fits.{Fits}
use Rattle.record.specs.Layout.{fields, kind_of, block_of}
use Rattle.record.specs.Reading.{record_at}
use Rattle.record.specs.Rules.{name_fits, names_fit, well_named, well_shaped, lawful, lawful_in, supported, refers, fault_of}
use Rattle.record.specs.declared.types.Body.{Body}
use Rattle.record.specs.declared.types.Body.TheVariants.{Free, CalGray, CalRgb, Lab, Indexed, Separation, Palette, Program, DeviceN}
use Rattle.record.specs.declared.types.Record.{Record}
use Rattle.block.specs.Single.{read_number}
use Rattle.block.proofs.Blocks.{fits-at}
use Rattle.block.proofs.RoundTrips.{accepted, read-of-write, write-of-read}
use Rattle.c_records.specs.Records.{small, one_of, two_of, body_of, record_of, body_numbers, headed, numbers_of, named_count, zero_from, record_like, put_number, put_block, got_numbers, got_bytes}
use Rattle.sktelbaan.specs.RoundTrips.{Passed, Reads, Writes, RoundTrips}

padded-self : (s : List ℕ) → padded (length s) s ≡ s
unfolding padded
padded-self [] = refl
padded-self (x ∷ s) = ap (λ (l : List ℕ). x ∷ l) (padded-self s)

-- 504 bytes are a record's room
room_back : (s : List ℕ) → length s ≡ 504 → padded 504 s ≡ s
room_back s e = ap (λ (n : ℕ). padded n s) (sym e) ∙ padded-self s

-- ---- the numbers of a record

-- a number that its field has room for stands there as it is
one_kept : (n : ℕ) → n < 256 → min n 255 ≡ n
one_kept n h = omega arith

two-kept : (n : ℕ) → n < 65536 → min n 65535 ≡ n
two-kept n h = omega arith

body_back : (own : ℕ) (y : Body) (s : List ℕ) → FieldsFit (fields (record { own = own; body = y; bytes = s })) → body_of (kind_of y) (headed own y) ≡ y
unfolding body_of
body_back own Free s h = refl
body_back own (CalGray g) s h = refl
body_back own (CalRgb g) s h = refl
body_back own (Lab g) s h = refl
body_back own (Indexed base hival) s h = λ i. Indexed (two-kept base h.1.1.1.0 i) (two-kept hival h.1.1.1.1.0 i)
body_back own (Separation p) s h = λ i.
    Separation (record {
      alternate = two-kept p.alternate h.1.1.1.0 i;
      exponent = one_kept p.exponent h.1.1.1.1.0 i;
      name_len = one_kept p.name_len h.1.1.1.1.1.0 i;
      c0 = p.c0;
      c1 = p.c1;
    })
body_back own Palette s h = refl
body_back own Program s h = refl
body_back own (DeviceN alternate count) s h = λ i. DeviceN (two-kept alternate h.1.1.1.0 i) (one_kept count h.1.1.1.1.0 i)

-- a record's numbers and bytes are those of that record
record-back : (r : Record) → Fits r → record_of (numbers_of r) r.bytes ≡ r
unfolding record_of
record-back r f = λ i.
    record {
      own = two-kept r.own f.numbers.1.1.0 i;
      body = body_back r.own r.body r.bytes f.numbers i;
      bytes = room_back r.bytes f.room i;
    }

-- past those that a body names, its numbers are zero
body-zeros : (own : ℕ) (y : Body) → (leb (kind_of y) 8 && zero_from (headed own y) (named_count y)) ≡ true
unfolding zero_from all_from
body-zeros own Free = refl
body-zeros own (CalGray g) = refl
body-zeros own (CalRgb g) = refl
body-zeros own (Lab g) = refl
body-zeros own (Indexed base hival) = refl
body-zeros own (Separation p) = refl
body-zeros own Palette = refl
body-zeros own Program = refl
body-zeros own (DeviceN alternate count) = refl

-- so they make a record
record-like : (r : Record) → Fits r → record_like (numbers_of r) ≡ true
unfolding record_like
record-like r f = rw (body_back r.own r.body r.bytes f.numbers) (body-zeros r.own r.body)

-- ---- numbers that are written

-- a number that stands in a field, and is not the greatest there, is the number given
number-back : (z : ℤ) (top : ℕ) → top ≤ 4294967295 → min (small_of z) top < top → pos (min (small_of z) top) ≡ z
number-back (pos n) top h l = let e : min n top ≡ n = omega arith in ap pos e
number-back (negsuc n) top h l = absurd (omega arith)

kind-back : (z : ℤ) → small_of z ≤ 8 → pos (small_of z) ≡ z
kind-back (pos n) l = refl
kind-back (negsuc n) l = absurd (omega arith)

zero-back : (z : ℤ) → small_of z ≡ 0 → pos 0 ≡ z
zero-back (pos n) e = ap pos (sym e)
zero-back (negsuc n) e = absurd (omega arith)

-- a reference that is a device code or a block's number is not the greatest of two bytes
reference-small : (n : ℕ) → (device n || ltb n blocks) ≡ true → n < 65535
reference-small n e =
    or-ind (device n) (ltb n blocks) e
    (λ d. or-ind (eqb n gray_code) _ d (λ g. let h = eqb-true n gray_code g in omega arith)
    (λ d₁. or-ind (eqb n rgb_code) _ d₁ (λ g. let h = eqb-true n rgb_code g in omega arith) (λ g. let h = eqb-true n cmyk_code g in omega arith)))
    (λ l. let h = ltb-true n blocks l in omega arith)

-- and so is an exponent, 0 for a program or one of 1 to 4, not the greatest of one byte
exponent_small : (n : ℕ) → (eqb n 0 || exponent_supported n) ≡ true → n < 255
exponent_small n e =
    or-ind (eqb n 0) (exponent_supported n) e
    (λ z. let h = eqb-true n 0 z in omega arith)
    (λ l. let h = leb-true n 4 (and_right (leb 1 n) _ l) in omega arith)

-- what no refusal of a record says
record Faultless (r : Record) : Type 0 where
  shapes : well_shaped r ≡ true
  laws : lawful r.body ≡ true
  supports : supported r.body ≡ true
  references : refers r.body ≡ true

faultless : (r : Record) → fault_of r ≡ 0 → Faultless r
unfolding fault_of lawful_in
faultless r e =
    let a = passed (well_shaped r) _ 3 (λ z. omega arith) e in
    let b = passed (lawful_in r.bytes r.body) _ 4 (λ z. omega arith) a.1 in
    let c = passed (supported r.body) _ 5 (λ z. omega arith) b.1 in
    let d = passed (refers r.body) _ 6 (λ z. omega arith) c.1 in
    record { shapes = a.0; laws = and_left (lawful r.body) _ b.0; supports = c.0; references = d.0 }

module _ (v : List ℤ) (s : List ℕ) (p : Passed v s) where
  -- numbers 2 on, n of them
  abbrev from2 : ℕ → List ℤ
  from2 n = listed (λ k. value v (2 + k)) n

  -- where the numbers after n named ones are zero, those and zeros are all the numbers
  module _ (n : ℕ) (few : n ≤ 18) (zeros : zero_from v (2 + n) ≡ true) where
    rest : (j : ℕ) → j < 18 → Dec (j < n) → get_or (from2 n ++ replicate (18 - n) (pos 0)) j (pos 0) ≡ value v (2 + j)
    unfolding zero_from
    rest j l (yes h) =
        get_or-append (from2 n) (replicate (18 - n) (pos 0)) (pos 0) j (rw (listed-length (λ k. value v (2 + k)) n) h)
        ∙ listed-value (λ k. value v (2 + k)) n j h
    rest j l (no h) =
        let e : length (from2 n) + (j - n) ≡ j = omega (arith, listed-length (λ k. value v (2 + k)) n) in
        let d : get_or (from2 n ++ replicate (18 - n) (pos 0)) (length (from2 n) + (j - n)) (pos 0) ≡ get_or (replicate (18 - n) (pos 0)) (j - n) (pos 0) =
        get_or-append-add (from2 n) (replicate (18 - n) (pos 0)) (j - n) (pos 0) in
        let c : 20 - (2 + n) ≡ 18 - n = omega arith in
        let z = all-each (λ k. eqb (small v k) 0) (2 + n) (18 - n) (rw c at zeros) (j - n) (omega arith) in
        let q : 2 + n + (j - n) ≡ 2 + j = omega arith in
        rw e at d ∙ get_or-replicate (18 - n) (j - n) (pos 0) (pos 0) (omega arith)
        ∙ zero-back (value v (2 + j)) (eqb-true _ 0 (rw q at z))

    each : (i : ℕ) → i < 20 → get_or (value v 0 ∷ value v 1 ∷ (from2 n ++ replicate (18 - n) (pos 0))) i (pos 0) ≡ value v i
    each zero l = refl
    each (suc zero) l = refl
    each (suc (suc j)) l = let e : 2 + j ≡ suc (suc j) = omega arith in rest j (omega arith) (dec_lt j n) ∙ ap (value v) e

    all-numbers : value v 0 ∷ value v 1 ∷ (from2 n ++ replicate (18 - n) (pos 0)) ≡ v
    all-numbers =
        let l : length (from2 n ++ replicate (18 - n) (pos 0)) ≡ n + (18 - n) =
        length-append (from2 n) (replicate (18 - n) (pos 0)) ∙ (λ i. listed-length (λ k. value v (2 + k)) n i + length-replicate (18 - n) (pos 0) i) in
        ext_get_or (pos 0) _ v (omega (arith, p.twenty)) (λ i h. each i (omega arith))

  abbrev made : Record
  made = record_of v s

  -- the numbers that the body names are those given
  named_back : (k : ℕ) → k ≤ 8 → lawful (body_of k v) ≡ true → supported (body_of k v) ≡ true → refers (body_of k v) ≡ true → well_named (body_of k v) (padded 504 s) ≡ true
      → body_numbers (body_of k v) ≡ from2 (length (body_numbers (body_of k v)))
  unfolding body_of listed lawful supported refers well_named name_fits names_fit
  named_back zero h l t r m = refl
  named_back (suc zero) h l t r m = refl
  named_back (suc (suc zero)) h l t r m = refl
  named_back (suc (suc (suc zero))) h l t r m = refl
  named_back (suc (suc (suc (suc zero)))) h l t r m = λ i.
      number-back (value v 2) 65535 (omega arith) (reference-small _ r) i
      ∷ number-back (value v 3) 65535 (omega arith) (omega (arith, leb-true (two_of v 3) 255 l)) i
      ∷ []
  named_back (suc (suc (suc (suc (suc zero))))) h l t r m = λ i.
      number-back (value v 2) 65535 (omega arith) (reference-small _ r) i
      ∷ number-back (value v 3) 255 (omega arith) (exponent_small (one_of v 3) t) i
      ∷ number-back (value v 4) 255 (omega arith) (omega (arith, leb-true (one_of v 4) 127 (and_left _ _ (and_right (leb 1 (one_of v 4)) _ m)))) i
      ∷ value v 5 ∷ value v 6 ∷ value v 7 ∷ value v 8 ∷ value v 9 ∷ value v 10 ∷ value v 11 ∷ value v 12 ∷ []
  named_back (suc (suc (suc (suc (suc (suc zero)))))) h l t r m = refl
  named_back (suc (suc (suc (suc (suc (suc (suc zero))))))) h l t r m = refl
  named_back (suc (suc (suc (suc (suc (suc (suc (suc zero)))))))) h l t r m = λ i.
      number-back (value v 2) 65535 (omega arith) (reference-small _ r) i
      ∷ number-back (value v 3) 255 (omega arith) (omega (arith, leb-true (one_of v 3) places (and_right (leb 1 (one_of v 3)) _ (and_left _ _ m)))) i
      ∷ []
  named_back (suc (suc (suc (suc (suc (suc (suc (suc (suc k))))))))) h l t r m = absurd (omega arith)

  kind-of : (k : ℕ) → k ≤ 8 → kind_of (body_of k v) ≡ k
  unfolding body_of
  kind-of zero h = refl
  kind-of (suc zero) h = refl
  kind-of (suc (suc zero)) h = refl
  kind-of (suc (suc (suc zero))) h = refl
  kind-of (suc (suc (suc (suc zero)))) h = refl
  kind-of (suc (suc (suc (suc (suc zero))))) h = refl
  kind-of (suc (suc (suc (suc (suc (suc zero)))))) h = refl
  kind-of (suc (suc (suc (suc (suc (suc (suc zero))))))) h = refl
  kind-of (suc (suc (suc (suc (suc (suc (suc (suc zero)))))))) h = refl
  kind-of (suc (suc (suc (suc (suc (suc (suc (suc (suc k))))))))) h = absurd (omega arith)

  few-named : (y : Body) → length (body_numbers y) ≤ 18
  few-named Free = omega arith
  few-named (CalGray g) = omega arith
  few-named (CalRgb g) = omega arith
  few-named (Lab g) = omega arith
  few-named (Indexed base hival) = omega arith
  few-named (Separation p) = omega arith
  few-named Palette = omega arith
  few-named Program = omega arith
  few-named (DeviceN alternate count) = omega arith

  -- numbers that make a record, of which nothing is refused, are the numbers of that record
  numbers-back : record_like v ≡ true → fault_of made ≡ 0 → numbers_of made ≡ v
  unfolding record_like record_of well_shaped
  numbers-back like e =
      let f = faultless made e in
      let k = small v 1 in
      let y = body_of k v in
      let n = length (body_numbers y) in
      let well_laid : k ≤ 8 = leb-true k 8 (and_left _ _ like) in
      let below : two_of v 0 < blocks = ltb-true (two_of v 0) blocks (and_left _ _ f.shapes) in
      let own : pos (two_of v 0) ≡ value v 0 = number-back (value v 0) 65535 (omega arith) (omega arith) in
      let kind : pos (kind_of y) ≡ value v 1 = ap pos (kind-of k well_laid) ∙ kind-back (value v 1) well_laid in
      let name = and_left _ _ (and_right (ltb (two_of v 0) blocks) _ f.shapes) in
      let body : body_numbers y ≡ from2 n = named_back k well_laid f.laws f.supports f.references name in
      (λ i. own i ∷ kind i ∷ (body i ++ replicate (18 - n) (pos 0)))
      ∙ all-numbers n (few-named y) (and_right (leb k 8) _ like)

  one-small : (k : ℕ) → one_of v k < 256
  one-small k = omega arith

  two-small : (k : ℕ) → two_of v k < 65536
  two-small k = omega arith

  in-ranges : (own k : ℕ) → own < 65536 → k ≤ 8 → FieldsFit (fields (record { own = own; body = body_of k v; bytes = padded 504 s }))
  unfolding body_of
  in-ranges own zero o h = (omega arith, (omega arith, (o, (tt, tt))))
  in-ranges own (suc zero) o h = (omega arith, (omega arith, (o, (p.signed 2, (p.signed 3, (p.signed 4, (p.signed 5, (p.signed 6, (p.signed 7, (p.signed 8, (tt, tt)))))))))))
  in-ranges own (suc (suc zero)) o h = (omega arith, (omega arith, (o, (p.signed 2, (p.signed 3, (p.signed 4, (p.signed 5, (p.signed 6, (p.signed 7, (p.signed 8, (p.signed 9, (p.signed 10, (p.signed 11, (p.signed 12, (p.signed 13, (p.signed 14, (p.signed 15, (p.signed 16, (p.signed 17, (p.signed 18, (p.signed 19, (tt, tt))))))))))))))))))))))
  in-ranges own (suc (suc (suc zero))) o h = (omega arith, (omega arith, (o, (p.signed 2, (p.signed 3, (p.signed 4, (p.signed 5, (p.signed 6, (p.signed 7, (p.signed 8, (p.signed 9, (p.signed 10, (p.signed 11, (tt, tt))))))))))))))
  in-ranges own (suc (suc (suc (suc zero)))) o h = (omega arith, (omega arith, (o, (two-small 2, (two-small 3, (tt, tt))))))
  in-ranges own (suc (suc (suc (suc (suc zero))))) o h = (omega arith, (omega arith, (o, (two-small 2, (one-small 3, (one-small 4, (tt, (p.signed 5, (p.signed 6, (p.signed 7, (p.signed 8, (p.signed 9, (p.signed 10, (p.signed 11, (p.signed 12, (tt, tt))))))))))))))))
  in-ranges own (suc (suc (suc (suc (suc (suc zero)))))) o h = (omega arith, (omega arith, (o, (tt, (tt, tt)))))
  in-ranges own (suc (suc (suc (suc (suc (suc (suc zero))))))) o h = (omega arith, (omega arith, (o, (tt, (tt, tt)))))
  in-ranges own (suc (suc (suc (suc (suc (suc (suc (suc zero)))))))) o h = (omega arith, (omega arith, (o, (two-small 2, (one-small 3, (omega arith, (tt, (tt, tt))))))))
  in-ranges own (suc (suc (suc (suc (suc (suc (suc (suc (suc k))))))))) o h = absurd (omega arith)

  -- the record that numbers make has what the type of records says
  made-fits : small v 1 ≤ 8 → Fits made
  unfolding record_of
  made-fits h = record { room = length-padded 504 s; numbers = in-ranges (two_of v 0) (small v 1) (two-small 0) h }

  -- ---- written, and read back

  written : (d : List ℕ) → put_number v s d ≡ 0 → Reads (put_block v s d) v s
  unfolding put_number put_block record_like got_numbers got_bytes record_of
  written d e =
      let long = passed (eqb (length d) 512) _ 10 (λ z. omega arith) e in
      let like = passed (record_like v) _ 3 (λ z. omega arith) long.1 in
      let fits = made-fits (leb-true _ 8 (and_left _ _ like.0)) in
      let b = block_of made in
      let read = read-of-write made fits like.1 in
      let none : read_number b ≡ 0 = read.0 in
      let back : record_at b ≡ made = read.1 in
      let is : cond (eqb (put_number v s d) 0) b d ≡ b = rw e in
      rw is (record {
        accepted = none;
        same_numbers = λ before. rw none (ap numbers_of back ∙ numbers-back like.0 like.1);
        same_bytes = λ before. rw none (ap (λ (r : Record). r.bytes) back ∙ room_back s p.room);
      })

-- ---- read, and written again

read_again : (b : List ℕ) (v : List ℤ) (s : List ℕ) → Bytes b → read_number b ≡ 0 → Writes (got_numbers b v) (got_bytes b s) b
unfolding got_numbers got_bytes put_number put_block
read_again b v s bytes e =
    let r = record_at b in
    let a = accepted b e in
    let fits = fits-at b bytes a.knows in
    let number : (d : List ℕ) → length d ≡ 512 → put_number (numbers_of r) r.bytes d ≡ 0 = λ d l. rw (eq-eqb (length d) 512 l, record-like r fits, record-back r fits) a.faultless in
    rw e (record {
      accepted = number;
      same_block = λ d l. rw (number d l, record-back r fits) (write-of-read b bytes e);
    })

-- both ways, for every record and every block
pub round-trips : RoundTrips
round-trips = record { written-reads = λ v s d p e. written v s p d e; read-writes = read_again }
