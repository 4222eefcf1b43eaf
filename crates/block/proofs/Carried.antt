-- The round trips carried to the code: what follows from what `write` and `read` promise, and from nothing else of them.
use mathlib.Core.Path.{◌≡◌, sym, ap, ◌∙◌}
use mathlib.Core.List.{List}
use Prim.Native.Nat.{ℕ}
use borrow.Author.Tests.{ne_eqb}
use lib.ListN.{length}
use Rattle.layout.specs.Field.{Bytes}
use Rattle.record.specs.Reading.{record_at}
use Rattle.record.specs.Rules.{fault_of}
use Rattle.record.specs.Fits.{Fits}
use Rattle.record.specs.declared.types.Record.{Record}
use Rattle.block.specs.Single.{Outcome, done, refused, outcome_of, write_number, write_out, nothing, found_of, read_number, read_found, copy_number, copy_out}
use Rattle.block.proofs.Exits.{refused-outcome, done-zero, refused-number, found-done, found-refused, number-fault}
use Rattle.block.proofs.RoundTrips.{accepted, read-written, write-of-read}

-- a record written into d is read back
module _ (r : Record) (d : List ℕ) (l : length d ≡ 512) {t : Outcome} {x : Record} where
  pub trip-done : Fits r → (o : List ℕ) → done ≡ outcome_of (write_number r d) → o ≡ write_out r d → t ≡ outcome_of (read_number o) → x ≡ read_found o
      → (t ≡ outcome_of (fault_of r)) × (x ≡ found_of (fault_of r) r)
  trip-done fits o e w p q =
      let f : fault_of r ≡ 0 = sym (number-fault r d l) ∙ done-zero _ e in
      let back = read-written r d fits l f in
      let none : read_number o ≡ 0 = ap read_number w ∙ back.0 in (
        p ∙ ap outcome_of (none ∙ sym f),
        q ∙ found-done (read_number o) (record_at o) none ∙ ap record_at w ∙ back.1 ∙ sym (found-done (fault_of r) r f),
      )

  pub trip-refused : (n : ℕ) → refused n ≡ outcome_of (write_number r d) → t ≡ refused n → x ≡ nothing
      → (t ≡ outcome_of (fault_of r)) × (x ≡ found_of (fault_of r) r)
  trip-refused n e p q =
      let g = refused-number _ n e in
      let f : fault_of r ≡ n = sym (number-fault r d l) ∙ g.0 in
      let some : n ≡ 0 → ⊥ = λ z. g.1 (g.0 ∙ z) in
      (p ∙ refused-outcome n some ∙ ap outcome_of (sym f), q ∙ sym (found-refused (fault_of r) r (λ z. some (sym f ∙ z))))

-- a block read is written into d as it stood
module _ (b d : List ℕ) {t : Outcome} {x : Record} (p : t ≡ outcome_of (read_number b)) (q : x ≡ read_found b) where
  pub copy_done : Bytes b → t ≡ done → {u : Outcome} {o : List ℕ} → u ≡ outcome_of (write_number x d) → o ≡ write_out x d
      → (u ≡ outcome_of (copy_number b d)) × (o ≡ copy_out b d)
  unfolding copy_number copy_out write_number write_out
  copy_done bytes h {u} {o} v w =
      let none : read_number b ≡ 0 = done-zero _ (sym h ∙ p) in
      let is : x ≡ record_at b = q ∙ found-done (read_number b) (record_at b) none in
      let f : fault_of (record_at b) ≡ 0 = (accepted b none).faultless in
      (rw none (v ∙ rw (is, f)), rw none (w ∙ rw (is, f, write-of-read b bytes none)))

  pub copy-refused : (n : ℕ) → t ≡ refused n → (refused n ≡ outcome_of (copy_number b d)) × (d ≡ copy_out b d)
  unfolding copy_number copy_out
  copy-refused n h =
      let g = refused-number (read_number b) n (sym h ∙ p) in
      let z : n ≡ 0 → ⊥ = λ y. g.1 (g.0 ∙ y) in
      (rw (g.0, ne_eqb n 0 z) (refused-outcome n z), rw (g.0, ne_eqb n 0 z, ne_eqb n 0 z))
