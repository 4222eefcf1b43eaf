-- What the two functions on one block come to, from what `write` and `read` promise.
use mathlib.Core.Path.{◌≡◌, refl, sym, ap, ◌∙◌}
use mathlib.Core.Bool.{true, false, cond}
use mathlib.Core.List.{List}
use Prim.Native.Nat.{ℕ, zero, suc}
use native.Mathlib.Omega.{arith}
use borrow.Author.Tests.{eq-eqb, ne_eqb}
use lib.Dec.{eqb}
use lib.IntN.{ℤ}
use lib.ListN.{length}
use Rattle.record.specs.Layout.{block_of}
use Rattle.record.specs.Reading.{record_at}
use Rattle.record.specs.declared.types.Record.{Record}
use Rattle.block.specs.Single.{Outcome, done, refused, outcome_of, write_number, write_out, read_number, read_found}
use Rattle.block.proofs.Exits.{done-zero, refused-number, found-done}
use Rattle.sktelbaan_runner.specs.Replies.{in_halves}
use Rattle.c_records.specs.Records.{record_like, record_of, numbers_of, done_of, put_number, put_block, got_numbers, got_bytes}

-- an outcome's reply is its number
done-number : (n : ℕ) → done_of (outcome_of n) ≡ in_halves n 0
done-number zero = refl
done-number (suc n) = refl

module _ (v : List ℤ) (s d : List ℕ) where
  pub put-short : (length d ≡ 512 → ⊥) → put_number v s d ≡ 10
  unfolding put_number
  put-short h = rw (ne_eqb (length d) 512 h)

  pub put-unfit : length d ≡ 512 → record_like v ≡ false → put_number v s d ≡ 3
  unfolding put_number
  put-unfit l f = rw (eq-eqb (length d) 512 l, f)

  put_fit : length d ≡ 512 → record_like v ≡ true → put_number v s d ≡ write_number (record_of v s) d
  unfolding put_number write_number
  put_fit l f = rw (eq-eqb (length d) 512 l, f)

  -- a refusal alters no byte
  pub put-kept : (n : ℕ) → put_number v s d ≡ suc n → {r : ℕ} → r ≡ in_halves (suc n) 0 → (r ≡ in_halves (put_number v s d) 0) × (d ≡ put_block v s d)
  unfolding put_block
  put-kept n e q = (q ∙ ap (λ (m : ℕ). in_halves m 0) (sym e), rw (ne_eqb (put_number v s d) 0 (λ z. omega arith)))

  -- numbers that make a record: what `write` says of it
  pub put-done : length d ≡ 512 → record_like v ≡ true → (x : Record) → x ≡ record_of v s → (t : Outcome) → t ≡ outcome_of (write_number x d)
      → {r : ℕ} → r ≡ done_of t → {o : List ℕ} → o ≡ write_out x d → (r ≡ in_halves (put_number v s d) 0) × (o ≡ put_block v s d)
  unfolding put_block write_out
  put-done l f x k t e q w =
      let p = put_fit l f in (
        q ∙ ap done_of (e ∙ ap (λ (y : Record). outcome_of (write_number y d)) k) ∙ done-number _ ∙ ap (λ (m : ℕ). in_halves m 0) (sym p),
        w ∙ ap (λ (y : Record). write_out y d) k ∙ ap (λ (m : ℕ). cond (eqb m 0) (block_of (record_of v s)) d) (sym p),
      )

module _ (b : List ℕ) (v : List ℤ) (s : List ℕ) {t : Outcome} {x : Record} (p : t ≡ outcome_of (read_number b)) (q : x ≡ read_found b) where
  pub got-done : t ≡ done → {r : ℕ} → r ≡ in_halves 0 0 → {w : List ℤ} → w ≡ numbers_of x
      → (r ≡ in_halves (read_number b) 0) × ((w ≡ got_numbers b v) × (x.bytes ≡ got_bytes b s))
  unfolding got_numbers got_bytes
  got-done h e w =
      let none : read_number b ≡ 0 = done-zero _ (sym h ∙ p) in
      let is : x ≡ record_at b = q ∙ found-done (read_number b) (record_at b) none in
      (e ∙ ap (λ (m : ℕ). in_halves m 0) (sym none), (rw none (w ∙ ap numbers_of is), rw none (ap (λ (y : Record). y.bytes) is)))

  pub got-refused : (n : ℕ) → t ≡ refused n → {r : ℕ} → r ≡ in_halves n 0
      → (r ≡ in_halves (read_number b) 0) × ((v ≡ got_numbers b v) × (s ≡ got_bytes b s))
  unfolding got_numbers got_bytes
  got-refused n h e =
      let g = refused-number (read_number b) n (sym h ∙ p) in (
        e ∙ ap (λ (m : ℕ). in_halves m 0) (sym g.0),
        (rw (ne_eqb (read_number b) 0 g.1), rw (ne_eqb (read_number b) 0 g.1)),
      )
