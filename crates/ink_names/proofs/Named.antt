-- The name of a Separation on an accepted page: it has at most 127 bytes, so they are on the page, and they are those of its record's room.
use mathlib.Core.Path.{◌≡◌, refl, sym, ap, ◌∙◌}
use mathlib.Core.Bool.{Bool, true, false, true≢false}
use mathlib.Core.List.{List}
use Prim.Native.Nat.{ℕ, zero, suc, ◌+◌, ◌-◌, ◌*◌, ◌/◌, ◌≤◌, ◌<◌}
use native.Mathlib.Omega.{arith}
use borrow.Author.Tests.{eqb-true, eq-eqb, leb-true}
use lib.Dec.{eqb, leb}
use lib.ListN.{length, get_or, take, drop, length-drop}
use lib.Seq.{ext_get_or, get_or-take, get_or-drop, length-take-le}
use Rattle.fixed.specs.Bytes.{block_at}
use Rattle.fixed.specs.Loops.{all_from}
use Rattle.fixed.proofs.Decide.{and_left, and_right, both}
use Rattle.fixed.proofs.Scans.{all-each}
use Rattle.record.specs.Reading.{body_at, run_at, name_from, record_at}
use Rattle.record.specs.Rules.{name_fits, well_laid, well_formed, well_named}
use Rattle.record.specs.declared.types.Separation.{Separation as InkRecord}
use Rattle.record.specs.declared.types.Body.{Body}
use Rattle.record.specs.declared.types.Body.TheVariants.{Free, CalGray, CalRgb, Lab, Indexed, Separation, Palette, Program, DeviceN}
use Rattle.record.proofs.Shapes.{run-at, run-length, name-run, shown-named}
use Rattle.page.specs.Outcomes.{accepted}
use Rattle.page.specs.Validation.{validated}
use Rattle.page.proofs.Sizes.{sized-whole}
use Rattle.page.proofs.Accepted.{well-sized, formed-at}
use Rattle.ink_names.specs.Names.{same_name, ink_named, ink_at, name_length, name_start, name_size}
use Rattle.ink_names.specs.Laws.{IsInk}
use Rattle.std.specs.Cmp.Lexicographic.{pointwise, same_text, other_text}

-- two names that are the same are equal, and equal names are the same
same-equal : (s t : List ℕ) → same_name s t ≡ true → s ≡ t
unfolding same_name
same-equal s t e =
    let l : length s ≡ length t = eqb-true _ _ (and_left _ _ e) in
    let all = and_right (eqb (length s) (length t)) _ e in
    ext_get_or 0 s t l (λ i h.
    let z : 0 + i ≡ i = omega arith in
    let q : get_or s (0 + i) 0 ≡ get_or t (0 + i) 0 = eqb-true _ _ (all-each _ 0 (length t - 0) all i (omega arith)) in
    rw z at q)

same_from : (s : List ℕ) (k n : ℕ) → all_from (λ i. eqb (get_or s i 0) (get_or s i 0)) k n ≡ true
unfolding all_from
same_from s k zero = refl
same_from s k (suc n) = rw (eq-eqb (get_or s k 0) (get_or s k 0) refl) (same_from s (suc k) n)

equal-same : (s t : List ℕ) → s ≡ t → same_name s t ≡ true
unfolding same_name
equal-same s t e = rw (← e) (both (eq-eqb (length s) (length s) refl) (same_from s 0 (length s - 0)))

-- the library's test of two names says the same
pub same-names : (r : Bool) (s t : List ℕ) → r ≡ pointwise eqb s t → r ≡ same_name s t
same-names true s t e = sym (equal-same s t (same_text s t e))
same-names false s t e = by-test (same_name s t) refl
  where
    by-test : (x : Bool) → same_name s t ≡ x → false ≡ same_name s t
    by-test true h = absurd (other_text s t e (same-equal s t h))
    by-test false h = sym h

-- only a Separation is an ink
ink-separation : (y : Body) (s name : List ℕ) → ink_named y s name ≡ true
    → (p : InkRecord) × ((y ≡ Separation p) × (same_name (take p.name_len s) name ≡ true))
unfolding ink_named
ink-separation Free s name e = absurd (true≢false (sym e))
ink-separation (CalGray g) s name e = absurd (true≢false (sym e))
ink-separation (CalRgb g) s name e = absurd (true≢false (sym e))
ink-separation (Lab g) s name e = absurd (true≢false (sym e))
ink-separation (Indexed base hival) s name e = absurd (true≢false (sym e))
ink-separation (Separation p) s name e = (p, (refl, e))
ink-separation Palette s name e = absurd (true≢false (sym e))
ink-separation Program s name e = absurd (true≢false (sym e))
ink-separation (DeviceN alternate count) s name e = absurd (true≢false (sym e))

-- a block of body y is an ink by that body
pub ink-by : (page name : List ℕ) (n : ℕ) {y : Body} → y ≡ body_at (block_at page n) → ink_at page name n ≡ ink_named y (record_at (block_at page n)).bytes name
unfolding ink_at record_at
ink-by page name n e = ap (λ (y : Body). ink_named y (record_at (block_at page n)).bytes name) (sym e)

-- what the test on a block decides
pub test-is : (page name : List ℕ) (n : ℕ) → n < length page / 512 → ink_at page name n ≡ true → IsInk page name n
unfolding ink_at
test-is page name n l e =
    let r = record_at (block_at page n) in
    let q = ink-separation r.body r.bytes name e in
    record { on-page = l; separation = q.0; body = q.1.0; named = same-equal _ _ q.1.1 }

pub is-test : (page name : List ℕ) (n : ℕ) → IsInk page name n → ink_at page name n ≡ true
unfolding ink_at ink_named
is-test page name n i =
    ap (λ (y : Body). ink_named y (record_at (block_at page n)).bytes name) i.body ∙ equal-same _ _ i.named

-- two lists begin with the same m elements
take_same : (m : ℕ) (s t : List ℕ) → m ≤ length s → m ≤ length t → ((i : ℕ) → i < m → get_or s i 0 ≡ get_or t i 0) → take m s ≡ take m t
take_same m s t p q h =
    let here = length-take-le m s p in
    ext_get_or 0 (take m s) (take m t) (here ∙ sym (length-take-le m t q)) (λ i l.
    let small : i < m = omega arith in
    get_or-take m s i 0 small ∙ h i small ∙ sym (get_or-take m t i 0 small))

module _ (page : List ℕ) (ok : validated page ≡ accepted) (n : ℕ) (l : n < length page / 512) where
  -- its own 512 bytes are on the page
  pub block-whole : 512 * n + 512 ≤ length page
  block-whole = omega (arith, sized-whole (length page) (well-sized page ok))

  -- 3 is not due, so a name has at most 127 bytes
  pub name-short : (p : InkRecord) → Separation p ≡ body_at (block_at page n) → p.name_len ≤ 127
  unfolding well_formed well_named record_at name_fits
  name-short p e =
      let f = formed-at page ok n l in
      let b = block_at page n in
      let s = shown-named b (and_left (well_laid b) _ f) in
      let t = and_left (well_named (body_at b) (record_at b).bytes) _ (sym s ∙ and_right (well_laid b) _ f) in
      let u : well_named (Separation p) (record_at b).bytes ≡ true = ap (λ (y : Body). well_named y (record_at b).bytes) e ∙ t in
      leb-true _ 127 (and_left _ _ (and_right (leb 1 p.name_len) _ u))

  -- the name in the room is what stands on the page
  pub name-stands : (p : InkRecord) → Separation p ≡ body_at (block_at page n)
      → take p.name_len (record_at (block_at page n)).bytes ≡ take p.name_len (drop (name_start n) page)
  unfolding record_at
  name-stands p e =
      let b = block_at page n in
      let m = p.name_len in
      let short = name-short p e in
      let whole = block-whole in
      let room : (record_at b).bytes ≡ run_at b name_from 128 = name-run b p (sym e) in
      let there : m ≤ length (drop (name_start n) page) = omega (arith, length-drop (name_start n) page) in
      let here : m ≤ length (run_at b name_from 128) = omega (arith, run-length b name_from 128 (omega arith)) in
      ap (take m) room ∙
      take_same m _ _ here there (λ i l.
      let place : 512 * n + (name_from + i) ≡ name_start n + i = omega arith in
      run-at b name_from 128 i (omega arith) ∙ get_or-drop (512 * n) page (name_from + i) 0 ∙ rw place (sym (get_or-drop (name_start n) page i 0)))

  -- so all of it is on the page
  pub name-room : (p : InkRecord) → Separation p ≡ body_at (block_at page n) → name_start n + p.name_len ≤ length page
  name-room p e = omega (arith, name-short p e, block-whole)

  -- and a Separation is an ink of the name that stands there
  pub ink-stands : (name : List ℕ) (p : InkRecord) → Separation p ≡ body_at (block_at page n)
      → ink_at page name n ≡ same_name (take p.name_len (drop (name_start n) page)) name
  unfolding ink_named
  ink-stands name p e = ink-by page name n e ∙ ap (λ (s : List ℕ). same_name s name) (name-stands p e)

  -- the name that is asked for has as many bytes as the ink's, which are on the page, and stand there
  pub ink-size : (name : List ℕ) → IsInk page name n → name_size page n ≡ length name
  unfolding record_at
  ink-size name i =
      let e : Separation i.separation ≡ body_at (block_at page n) = sym i.body in
      let there : i.separation.name_len ≤ length (drop (name_start n) page) = omega (arith, length-drop (name_start n) page, name-room i.separation e) in
      ap name_length i.body ∙ sym (length-take-le _ _ there) ∙ ap length (sym (name-stands i.separation e) ∙ i.named)

  pub ink-short : (name : List ℕ) → IsInk page name n → length name ≤ 127
  unfolding record_at
  ink-short name i = omega (arith, name-short i.separation (sym i.body), ap name_length i.body, ink-size name i)

  pub ink-room : (name : List ℕ) → IsInk page name n → name_start n + length name ≤ length page
  unfolding record_at
  ink-room name i =
      let e : Separation i.separation ≡ body_at (block_at page n) = sym i.body in
      omega (arith, name-room i.separation e, ap name_length i.body, ink-size name i)

  pub ink-there : (name : List ℕ) → IsInk page name n → take (name_size page n) (drop (name_start n) page) ≡ name
  unfolding record_at
  ink-there name i =
      let e : Separation i.separation ≡ body_at (block_at page n) = sym i.body in
      ap (λ (y : Body). take (name_length y) (drop (name_start n) page)) i.body ∙ sym (name-stands i.separation e) ∙ i.named
