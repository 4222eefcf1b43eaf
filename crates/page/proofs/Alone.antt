-- Each block of an accepted page, taken by itself, is a block that nothing is refused of.
use mathlib.Core.Path.{◌≡◌, refl, sym, ap, ◌∙◌}
use mathlib.Core.Bool.{Bool, true, false, ◌&&◌, ◌||◌, or-true, cond}
use mathlib.Core.List.{List}
use Prim.Native.Nat.{ℕ, zero, suc, ◌*◌, ◌/◌, ◌≤◌, ◌<◌}
use native.Mathlib.Omega.{arith}
use borrow.Author.Tests.{lt-ltb, leb-true}
use Rattle.fixed.specs.Loops.{all_from}
use lib.Dec.{ltb}
use lib.ListN.{length, drop, length-drop}
use lib.Seq.{length-take-le}
use Rattle.fixed.specs.Bytes.{blocks, device, block_at}
use Rattle.fixed.proofs.Decide.{and_left, and_right, both}
use Rattle.record.specs.Layout.{checked}
use Rattle.record.specs.Reading.{kind_at, own_at, body_by, body_at, names_at, bytes_by, record_at}
use Rattle.record.specs.Rules.{well_laid, well_shaped, names_lawful, lawful_in, supported, refers, fault_of, fault_at}
use Rattle.record.specs.declared.types.Body.{Body}
use Rattle.record.specs.declared.types.Body.TheVariants.{Free, CalGray, CalRgb, Lab, Indexed, Separation, Palette, Program, DeviceN}
use Rattle.record.proofs.Shapes.{formed-shaped}
use Rattle.page.specs.Outcomes.{accepted}
use Rattle.runs.specs.Runs.{is_alternate, is_base, refers_to, permitted}
use Rattle.page.specs.Validation.{validated}
use Rattle.page.proofs.Sizes.{sized-whole}
use Rattle.page.proofs.Accepted.{well-sized, checked-at, formed-at, own-at, below-most, lawful-in-at, supported-at, permitted-at}
use Rattle.page.proofs.Bytes.{own_bytes, checked-within, formed-within, own-within, body-within, names-within}

-- the names of a record are those of its block; a body without names has none to look at
lawful-room : (b : List ℕ) (k : ℕ) → k ≤ 8 → lawful_in (bytes_by k b) (body_by k b) ≡ lawful_in (names_at b) (body_by k b)
unfolding body_by bytes_by lawful_in names_lawful all_from
lawful-room b zero p = refl
lawful-room b (suc zero) p = refl
lawful-room b (suc (suc zero)) p = refl
lawful-room b (suc (suc (suc zero))) p = refl
lawful-room b (suc (suc (suc (suc zero)))) p = refl
lawful-room b (suc (suc (suc (suc (suc zero))))) p = refl
lawful-room b (suc (suc (suc (suc (suc (suc zero)))))) p = refl
lawful-room b (suc (suc (suc (suc (suc (suc (suc zero))))))) p = refl
lawful-room b (suc (suc (suc (suc (suc (suc (suc (suc zero)))))))) p = refl
lawful-room b (suc (suc (suc (suc (suc (suc (suc (suc (suc k))))))))) p = absurd (omega arith)

kind-small : (b : List ℕ) → well_laid b ≡ true → kind_at b ≤ 8
unfolding well_laid
kind-small b h = leb-true _ 8 (and_left _ _ h)

-- none of five tests refuses
none-due : (a b c d e : Bool) → a ≡ true → b ≡ true → c ≡ true → d ≡ true → e ≡ true → ◌≡◌ {A = ℕ} (cond a (cond b (cond c (cond d (cond e 0 6) 5) 4) 3) 3) 0
none-due a b c d e h₁ h₂ h₃ h₄ h₅ = rw (h₁, h₂, h₃, h₄, h₅)

-- a reference that is permitted is a device code or a number that a block can have
refers-so : (page : List ℕ) (f : Body → Bool) (n : ℕ) → refers_to page f n ≡ true → (device n || ltb n blocks) ≡ true
unfolding refers_to
refers-so page f n = by_size (ltb n blocks)
  where
    by_size : (t : Bool) → cond t (f (body_at (block_at page n))) (device n) ≡ true → (device n || t) ≡ true
    by_size true h = or-true (device n)
    by_size false h = rw h

-- a body that is permitted on a page refers as a body may alone
pub permitted-refers : (page : List ℕ) (y : Body) → permitted page y ≡ true → refers y ≡ true
unfolding permitted refers
permitted-refers page Free h = refl
permitted-refers page (CalGray g) h = refl
permitted-refers page (CalRgb g) h = refl
permitted-refers page (Lab g) h = refl
permitted-refers page (Indexed base hival) h = refers-so page is_base base h
permitted-refers page (Separation p) h = refers-so page is_alternate p.alternate h
permitted-refers page Palette h = refl
permitted-refers page Program h = refl
permitted-refers page (DeviceN alternate count) h = refers-so page is_alternate alternate h

module _ (page : List ℕ) (ok : validated page ≡ accepted) (i : ℕ) (l : i < length page / 512) where
  -- it has 512 bytes
  pub alone-length : length (own_bytes page i) ≡ 512
  alone-length =
      let m : 512 ≤ length (drop (512 * i) page) = omega (arith, length-drop (512 * i) page, sized-whole _ (well-sized page ok)) in
      length-take-le 512 (drop (512 * i) page) m

  -- 2 is not due
  pub alone-checked : checked (own_bytes page i) ≡ true
  alone-checked = sym (checked-within page i) ∙ checked-at page ok i l

  shape : (well_laid (own_bytes page i) && well_shaped (record_at (own_bytes page i))) ≡ true
  shape =
      let o : own_at (own_bytes page i) ≡ i = sym (own-within page i) ∙ own-at page ok i l in
      let n : ltb (own_at (own_bytes page i)) blocks ≡ true = rw o (lt-ltb i blocks (below-most page ok i l)) in
      sym (formed-shaped (own_bytes page i)) ∙ both (sym (formed-within page i) ∙ formed-at page ok i l) n

  -- nor 3, 4, 5 or 6
  pub alone-clean : fault_at (own_bytes page i) ≡ 0
  unfolding fault_at fault_of record_at
  alone-clean =
      let e = sym (body-within page i) in
      none-due (well_laid (own_bytes page i)) (well_shaped (record_at (own_bytes page i))) (lawful_in (record_at (own_bytes page i)).bytes (body_at (own_bytes page i))) (supported (body_at (own_bytes page i)))
      (refers (body_at (own_bytes page i))) (and_left (well_laid (own_bytes page i)) _ shape) (and_right (well_laid (own_bytes page i)) _ shape)
      (lawful-room (own_bytes page i) (kind_at (own_bytes page i)) (kind-small (own_bytes page i) (and_left (well_laid (own_bytes page i)) _ shape)) ∙ ((λ j. lawful_in (sym (names-within page i) j) (e j)) ∙ lawful-in-at page ok i l)) (ap supported e ∙ supported-at page ok i l) (ap refers e ∙ permitted-refers page _ (permitted-at page ok i l))
