-- A block that is checked and known is the block of its record, and the block of a record that fits gives the record back.
use mathlib.Core.Path.{◌≡◌, refl, sym, ap, ◌∙◌, subst}
use mathlib.Core.List.{List, [], ◌∷◌, ◌++◌}
use mathlib.Core.Bool.{true}
use Prim.Native.Nat.{ℕ, ◌+◌, ◌≤◌}
use native.Mathlib.Omega.{arith}
use borrow.Author.Tests.{eqb-true, eq-eqb, leb-true}
use lib.ListN.{length, get_or, drop, length-append}
use lib.Seq.{sets-eq}
use lib.Dec.{eqb, leb, ltb}
use Rattle.fixed.specs.Bytes.{byte_at, two_at}
use Rattle.fixed.proofs.Decide.{and_left, and_right}
use Rattle.layout.specs.Field.{one, two, sizes, written, puts, Bytes}
use Rattle.layout.proofs.Held.{Holds, held-self, held-left, held-right, held-join, held_whole}
use Rattle.layout.proofs.Fields.{AllGot, all-heard, all_said, written-length, written-append, got-in-ranges}
use Rattle.layout.proofs.Puts.{next, puts-written, puts_whole}
use Rattle.fixed.specs.Loops.{zero_between}
use Rattle.record.specs.Layout.{body, rest, kind_of, named_to, fields, plain, check, head_of, block_of, checked}
use Rattle.record.specs.Reading.{kind_at, body_by, bytes_by, record_at}
use Rattle.fixed.specs.Bytes.{blocks}
use Rattle.record.specs.Rules.{well_laid, well_named, well_shaped}
use Rattle.record.specs.Fits.{Fits}
use Rattle.record.specs.declared.types.Record.{Record}
use Rattle.block.proofs.Check.{plain-same, weighed-same, plain-small, weighed-small}
use Rattle.block.proofs.ByKind.{got-by, bytes-length, sizes-of, kind-small, body_back, gap_back, seven-back, bytes_back}

pub head-length : (r : Record) → length (head_of r) ≡ 508
unfolding head_of
head-length r = omega (arith, written-length (fields r), sizes-of r.body r.bytes)

-- ---- from a block

module _ (b : List ℕ) (bytes : Bytes b) (k : well_laid b ≡ true) where
  kind : kind_at b ≤ 8
  unfolding well_laid
  kind = leb-true _ 8 (and_left _ _ k)

  -- each field of the record read is what stands at its place
  got : AllGot b 0 (fields (record_at b))
  unfolding well_laid record_at
  got =
      let rest = and_right (leb (kind_at b) 8) _ k in
      let zeros = and_right (eqb (byte_at b 1) 0) _ rest in
      got-by b (kind_at b) kind refl (eqb-true _ 0 (and_left _ _ rest)) (and_left _ _ zeros) (and_right (zero_between b (named_to (body_by (kind_at b) b)) 508) _ zeros)

  room : length (record_at b).bytes ≡ 504
  unfolding record_at
  room = bytes-length (kind_at b) b kind

  -- the record read has what the type of records says
  pub fits-at : Fits (record_at b)
  fits-at = record { room = room; numbers = got-in-ranges b bytes 0 (fields (record_at b)) got }

  -- and its block is the block
  pub block_at : length b ≡ 512 → checked b ≡ true → b ≡ block_of (record_at b)
  unfolding checked block_of head_of
  block_at len c =
      let s = written (fields (record_at b)) in
      let e : length s ≡ 508 = head-length (record_at b) in
      let h : Holds b 0 s = all_said b bytes 0 (fields (record_at b)) got in
      let n : length (written (check s)) ≡ 4 = written-length (check s) in
      held_whole b (s ++ written (check s)) (len ∙ sym (length-append s (written (check s)) ∙ (λ i. e i + n i)))
      (held-join s (written (check s)) 508 (omega arith) h
      (all_said b bytes 508 (check s) (
        eqb-true _ _ (and_left _ _ c) ∙ plain-same b s e h,
        (eqb-true _ _ (and_right (eqb (two_at b 508) (plain b)) _ c) ∙ weighed-same b s e h, tt),
      )))

-- ---- from a record

-- what reading a block needs of it, and the record that it gives
pub record Read (b : List ℕ) (r : Record) : Type 0 where
  pub long : length b ≡ 512
  pub checks : checked b ≡ true
  pub knows : well_laid b ≡ true
  pub gives : record_at b ≡ r

pub read_at : (r : Record) → Fits r → well_shaped r ≡ true → Read (block_of r) r
unfolding well_shaped checked well_laid record_at block_of head_of
read_at r fits s =
    let h = written (fields r) in
    let t = written (check h) in
    let most : length h ≡ 508 = head-length r in
    let few : length t ≡ 4 = written-length (check h) in
    let long : length (h ++ t) ≡ 512 = length-append h t ∙ (λ i. most i + few i) in
    let self = held-self (h ++ t) in
    let left : Holds (h ++ t) 0 h = held-left h t self in
    let got : AllGot (h ++ t) 0 (fields r) = all-heard (h ++ t) 0 (fields r) fits.numbers left in
    let sums : AllGot (h ++ t) 508 (check h) =
    all-heard (h ++ t) 508 (check h) (plain-small h, (weighed-small h, tt)) (held-right h t 508 (omega arith) self) in
    let zeros = and_right (well_named r.body r.bytes) _ (and_right (ltb r.own blocks) _ s) in
    let y = r.body in
    let k : get_or (h ++ t) 0 0 ≡ kind_of y = got.0 in
    let back : body_by (kind_of y) (h ++ t) ≡ y = body_back (h ++ t) r.bytes y got.1.1.1 in
    let body_is : body_by (get_or (h ++ t) 0 0) (h ++ t) ≡ y = ap (λ (n : ℕ). body_by n (h ++ t)) k ∙ back in
    record {
      long = long;
      checks =
          rw (eq-eqb _ _ (sums.0 ∙ sym (plain-same (h ++ t) h most left)), eq-eqb _ _ (sums.1.0 ∙ sym (weighed-same (h ++ t) h most left)));
      knows = rw (body_is, k, kind-small y, eq-eqb _ 0 got.1.0, gap_back (h ++ t) r.bytes y got.1.1.1, seven-back (h ++ t) r.bytes y got.1.1.1);
      gives = λ i.
          record {
            own = got.1.1.0 i;
            body = body_is i;
            bytes = (ap (λ (n : ℕ). bytes_by n (h ++ t)) k ∙ bytes_back (h ++ t) r.bytes y fits.room got.1.1.1 zeros) i;
          };
    }

-- ---- what writing head, body and check leaves

pub laid : (r : Record) (d : List ℕ) (k : ℕ) {x y z : List ℕ} → length d ≡ 512 → k ≡ kind_of r.body
    → x ≡ puts d 0 (one k ∷ one 0 ∷ two r.own ∷ []) → y ≡ puts x 4 (body r.body r.bytes ++ rest r.body) → z ≡ puts y 508 (check y)
    → z ≡ block_of r
unfolding block_of head_of
laid r d k {x} {y} {z} len e p q s =
    let h = written (fields r) in
    let most : length h ≡ 508 = head-length r in
    let room : 0 + length h ≤ length d = omega arith in
    let y-is : y ≡ puts d 0 (fields r) =
    next d 0 (one (kind_of r.body) ∷ one 0 ∷ two r.own ∷ []) (body r.body r.bytes ++ rest r.body) 4 refl
    (p ∙ ap (λ (n : ℕ). puts d 0 (one n ∷ one 0 ∷ two r.own ∷ [])) e) q in
    let y-list : h ++ drop (0 + length h) d ≡ y = sym (y-is ∙ puts-written (fields r) d 0 ∙ sets-eq h d 0 room) in
    let held : Holds y 0 h = subst (λ (l : List ℕ). Holds l 0 h) y-list (held-left h (drop (0 + length h) d) (held-self _)) in
    let z-is : z ≡ puts y 508 (check h) = s ∙ (λ i. puts y 508 (two (plain-same y h most held i) ∷ two (weighed-same y h most held i) ∷ [])) in
    let seam : 508 ≡ 0 + sizes (fields r) = omega (arith, written-length (fields r)) in
    let four : length (written (check h)) ≡ 4 = written-length (check h) in
    let parts : written (fields r ++ check h) ≡ h ++ written (check h) = written-append (fields r) (check h) in
    let full : length d ≡ length (written (fields r ++ check h)) = len ∙ sym (ap length parts ∙ length-append h (written (check h)) ∙ (λ i. most i + four i)) in
    next d 0 (fields r) (check h) 508 seam y-is z-is ∙ puts_whole (fields r ++ check h) d full ∙ parts
