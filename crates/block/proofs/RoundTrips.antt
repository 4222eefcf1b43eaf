-- The round trips, of every record and every block.
use mathlib.Core.Path.{◌≡◌, refl, sym, ap, ◌∙◌}
use mathlib.Core.List.{List}
use mathlib.Core.Bool.{Bool, true, false, cond}
use Prim.Native.Nat.{ℕ}
use native.Mathlib.Omega.{arith}
use borrow.Author.Tests.{eqb-true}
use lib.ListN.{length}
use lib.Dec.{eqb}
use Rattle.layout.specs.Field.{Bytes}
use Rattle.record.specs.Layout.{block_of, checked}
use Rattle.record.specs.Reading.{record_at}
use Rattle.record.specs.Rules.{well_laid, well_shaped, fault_of, fault_at}
use Rattle.record.specs.Fits.{Fits}
use Rattle.record.specs.declared.types.Record.{Record}
use Rattle.block.specs.Single.{write_out, read_number, Block}
use Rattle.block.proofs.Blocks.{Read, fits-at, block_at, read_at}
use Rattle.block.proofs.Exits.{number-fault, write_done, read-fault}

-- a test that decides between two answers passed, where the answer is not that of its failing
was : {A : Type 0} (t : Bool) (a b r : A) → cond t a b ≡ r → (b ≡ r → ⊥) → t ≡ true
was true a b r e h = refl
was false a b r e h = absurd (h e)

fault-shaped : (r : Record) → fault_of r ≡ 0 → well_shaped r ≡ true
unfolding fault_of
fault-shaped r e = was (well_shaped r) _ 3 0 e (λ h. omega arith)

-- what reading found, where it refused nothing
pub record Accepted (b : List ℕ) : Type 0 where
  pub long : length b ≡ 512
  pub checks : checked b ≡ true
  pub knows : well_laid b ≡ true
  pub faultless : fault_of (record_at b) ≡ 0

pub accepted : (b : List ℕ) → read_number b ≡ 0 → Accepted b
unfolding read_number fault_at
accepted b e =
    let l : eqb (length b) 512 ≡ true = was _ _ 10 0 e (λ h. omega arith) in
    let e₁ : cond (checked b) (cond (well_laid b) (fault_of (record_at b)) 3) 2 ≡ 0 = rw l at e in
    let c : checked b ≡ true = was _ _ 2 0 e₁ (λ h. omega arith) in
    let e₂ : cond (well_laid b) (fault_of (record_at b)) 3 ≡ 0 = rw c at e₁ in
    let k : well_laid b ≡ true = was _ _ 3 0 e₂ (λ h. omega arith) in
    record { long = eqb-true _ _ l; checks = c; knows = k; faultless = rw k at e₂ }

-- A record that is accepted is read back, of the block that it is written as, as the same record.
pub read-of-write : (r : Record) → Fits r → fault_of r ≡ 0 → (read_number (block_of r) ≡ 0) × (record_at (block_of r) ≡ r)
read-of-write r fits f =
    let t : Read (block_of r) r = read_at r fits (fault-shaped r f) in
    (read-fault (block_of r) t.long t.checks t.knows ∙ ap fault_of t.gives ∙ f, t.gives)

-- The same of the bytes that writing leaves, whatever they were before.
pub read-written : (r : Record) (d : List ℕ) → Fits r → length d ≡ 512 → fault_of r ≡ 0 → (read_number (write_out r d) ≡ 0) × (record_at (write_out r d) ≡ r)
read-written r d fits l f = rw (sym (write_done r d (block_of r) (number-fault r d l ∙ f) refl).1) (read-of-write r fits f)

-- A block that is accepted is written again, of the record that it is read as, as the same bytes.
pub write-of-read : (b : List ℕ) → Bytes b → read_number b ≡ 0 → block_of (record_at b) ≡ b
write-of-read b bytes e =
    let a = accepted b e in
    sym (block_at b bytes a.knows a.long a.checks)

-- The same of the bytes that writing leaves, whatever they were before.
pub written-again : (b d : List ℕ) → Bytes b → length d ≡ 512 → read_number b ≡ 0 → write_out (record_at b) d ≡ b
written-again b d bytes l e =
    sym (write_done (record_at b) d (block_of (record_at b)) (number-fault (record_at b) d l ∙ (accepted b e).faultless) refl).1 ∙ write-of-read b bytes e

-- Reading refuses exactly what is no block of an accepted record.
pub exactly-blocks : (b : List ℕ) → Bytes b → (read_number b ≡ 0 → Block b) × (Block b → read_number b ≡ 0)
exactly-blocks b bytes = (
  λ e.
      let a = accepted b e in
      (record_at b, (fits-at b bytes a.knows, (a.faultless, sym (write-of-read b bytes e)))),
  λ k. ap read_number k.1.1.1 ∙ (read-of-write k.0 k.1.0 k.1.1.0).0,
)
