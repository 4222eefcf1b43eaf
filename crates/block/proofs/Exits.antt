-- Writing and reading, exit by exit.
use mathlib.Core.Path.{◌≡◌, refl, sym, ◌∙◌}
use mathlib.Core.List.{List}
use mathlib.Core.Bool.{true, false}
use Prim.Native.Nat.{ℕ, zero, suc}
use native.Mathlib.Omega.{arith}
use borrow.Author.Tests.{eq-eqb, ne_eqb}
use lib.ListN.{length}
use Rattle.record.specs.Layout.{block_of, checked}
use Rattle.record.specs.Reading.{record_at}
use Rattle.record.specs.Rules.{well_laid, fault_of, fault_at}
use Rattle.record.specs.declared.types.Record.{Record}
use Rattle.block.specs.Single.{Outcome, done, refused, outcome_of, write_number, write_out, nothing, found_of, read_number, read_found}

-- a refusal's number is no 0
pub refused-outcome : (n : ℕ) → (n ≡ 0 → ⊥) → refused n ≡ outcome_of n
refused-outcome zero h = absurd (h refl)
refused-outcome (suc n) h = refl

-- and back: what an outcome says of its number
pub done-zero : (n : ℕ) → done ≡ outcome_of n → n ≡ 0
done-zero zero e = refl
done-zero (suc n) e = cc

pub refused-number : (n m : ℕ) → refused m ≡ outcome_of n → (n ≡ m) × (n ≡ 0 → ⊥)
refused-number zero m e = let z : ◌≡◌ {A = ℕ} 0 1 = cc in absurd (omega arith)
refused-number (suc n) m e = (cc, λ z. omega arith)

-- the record that comes with a number
pub found-done : (n : ℕ) (r : Record) → n ≡ 0 → found_of n r ≡ r
unfolding found_of
found-done n r e = rw (eq-eqb n 0 e)

pub found-refused : (n : ℕ) (r : Record) → (n ≡ 0 → ⊥) → found_of n r ≡ nothing
unfolding found_of
found-refused n r h = rw (ne_eqb n 0 h)

-- ---- write

module _ (r : Record) (d : List ℕ) where
  pub number_short : (length d ≡ 512 → ⊥) → write_number r d ≡ 10
  unfolding write_number
  number_short h = rw (ne_eqb _ _ h)

  pub number-fault : length d ≡ 512 → write_number r d ≡ fault_of r
  unfolding write_number
  number-fault l = rw (eq-eqb _ _ l)

  pub write-refused : (n : ℕ) → write_number r d ≡ n → (n ≡ 0 → ⊥) → (refused n ≡ outcome_of (write_number r d)) × (d ≡ write_out r d)
  unfolding write_out
  write-refused n e h = (rw e (refused-outcome n h), rw (e, ne_eqb n 0 h))

  pub write_done : (x : List ℕ) → write_number r d ≡ 0 → x ≡ block_of r → (done ≡ outcome_of (write_number r d)) × (x ≡ write_out r d)
  unfolding write_out
  write_done x e q = (rw e, rw e q)

-- ---- read

module _ (b : List ℕ) where
  pub read_short : (length b ≡ 512 → ⊥) → read_number b ≡ 10
  unfolding read_number
  read_short h = rw (ne_eqb _ _ h)

  pub read-unchecked : length b ≡ 512 → checked b ≡ false → read_number b ≡ 2
  unfolding read_number
  read-unchecked l c = rw (eq-eqb _ _ l, c)

  pub read-unknown : length b ≡ 512 → checked b ≡ true → well_laid b ≡ false → read_number b ≡ 3
  unfolding read_number fault_at
  read-unknown l c k = rw (eq-eqb _ _ l, c, k)

  pub read-fault : length b ≡ 512 → checked b ≡ true → well_laid b ≡ true → read_number b ≡ fault_of (record_at b)
  unfolding read_number fault_at
  read-fault l c k = rw (eq-eqb _ _ l, c, k)

  -- a refusal comes with no record, and where there is none the record read
  pub read-refused : (n : ℕ) {o : Outcome} {x : Record} → read_number b ≡ n → (n ≡ 0 → ⊥) → o ≡ refused n → x ≡ nothing
      → (o ≡ outcome_of (read_number b)) × (x ≡ read_found b)
  read-refused n e h p q = (rw e (p ∙ refused-outcome n h), q ∙ sym (found-refused (read_number b) (record_at b) (λ z. h (sym e ∙ z))))

  pub read_done : (x : Record) → read_number b ≡ 0 → x ≡ record_at b → (done ≡ outcome_of (read_number b)) × (x ≡ read_found b)
  read_done x e q = (rw e, q ∙ sym (found-done (read_number b) (record_at b) e))
