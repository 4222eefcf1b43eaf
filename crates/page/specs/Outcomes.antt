-- What validating a page comes to (FORMAT.md, Operations).
use Rattle.std.specs.Prelude.{ℕ, Result, Ok, Err}
use Rattle.fixed.specs.Refusals.{number_of}
use Rattle.fixed.specs.declared.refusals.Refused.{Refused}

-- accepted, or refused with a number and the block that it is about
pub data Outcome : Type 0 where
  accepted : Outcome
  refused : ℕ → ℕ → Outcome

-- what a pass comes to, and where it refuses nothing the next one
abbrev pub and_then : Outcome → Outcome → Outcome
and_then accepted next = next
and_then (refused number block) next = refused number block

-- what a `Result` says
abbrev pub meaning : {A : Type 0} → Result A Refused → Outcome
meaning (Ok _) = accepted
meaning (Err e) = refused (number_of e.refusal) e.block
