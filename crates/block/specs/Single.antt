-- FORMAT.md, Refusals and Operations: writing one block, and reading one block by itself. Refusals in their order; a refusal alters no byte.
use Rattle.std.specs.Prelude.{◌≡◌, List, cond, ℕ, zero, suc, length, replicate, eqb, Result, Ok, Err}
use Rattle.fixed.specs.Loops.{unless}
use Rattle.fixed.specs.Refusals.{number_of}
use Rattle.fixed.specs.declared.refusals.Refusal.{Refusal}
use Rattle.record.specs.Layout.{block_of, checked}
use Rattle.record.specs.Reading.{record_at}
use Rattle.record.specs.Rules.{fault_of, fault_at}
use Rattle.record.specs.Fits.{Fits}
use Rattle.record.specs.declared.types.Record.{Record}
use Rattle.record.specs.declared.types.Body.TheVariants.{Free}

-- what writing or reading comes to: done, or refused with a number
pub data Outcome : Type 0 where
  done : Outcome
  refused : ℕ → Outcome

-- what a `Result` says
abbrev pub meaning : {A : Type 0} → Result A Refusal → Outcome
meaning (Ok _) = done
meaning (Err k) = refused (number_of k)

-- what the number of a refusal comes to, 0 being none
abbrev pub outcome_of : ℕ → Outcome
outcome_of zero = done
outcome_of (suc n) = refused (suc n)

-- writing record r into bytes d: 10 unless there are 512 of them, then 3, 4, 5, 6
unfoldable pub write_number : Record → List ℕ → ℕ
write_number r d = unless (eqb (length d) 512) 10 (fault_of r)

-- the bytes afterwards: the block, or on a refusal what they were
unfoldable pub write_out : Record → List ℕ → List ℕ
write_out r d = cond (eqb (write_number r d) 0) (block_of r) d

-- reading bytes b: 10 unless there are 512 of them, 2, then as writing
unfoldable pub read_number : List ℕ → ℕ
read_number b = unless (eqb (length b) 512) 10 (unless (checked b) 2 (fault_at b))

-- the record that comes with a refusal: a free block's, numbered 0
abbrev pub nothing : Record
nothing = record { own = 0; body = Free; bytes = replicate 504 0 }

-- the record that a `Result` has
abbrev pub found_in : Result Record Refusal → Record
found_in (Ok r) = r
found_in (Err _) = nothing

-- the record that comes with the number of a refusal: r where that is none
unfoldable pub found_of : ℕ → Record → Record
found_of n r = cond (eqb n 0) r nothing

-- the record that reading bytes b gives
abbrev pub read_found : List ℕ → Record
read_found b = found_of (read_number b) (record_at b)

-- b is the block of an accepted record: one with all that the type of records says, and no fault
abbrev pub Block : List ℕ → Type 0
Block b = (r : Record) × (Fits r × (fault_of r ≡ 0 × b ≡ block_of r))

-- ---- a block read and written again, as one call. (A record written and read back comes to `fault_of`, with the record itself.)

-- a block read, and its record written into bytes d: the refusal of reading, else that of writing
unfoldable pub copy_number : List ℕ → List ℕ → ℕ
copy_number b d = cond (eqb (read_number b) 0) (cond (eqb (length d) 512) 0 10) (read_number b)

-- the bytes afterwards: those that were read, or on a refusal what they were
unfoldable pub copy_out : List ℕ → List ℕ → List ℕ
copy_out b d = cond (eqb (copy_number b d) 0) b d
