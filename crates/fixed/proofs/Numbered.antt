-- A refusal's number is not 0, which says that there is none.
use mathlib.Core.Path.{◌≡◌}
use Prim.Native.Nat.{ℕ}
use native.Mathlib.Omega.{arith}
use Rattle.fixed.specs.Refusals.{number_of}
use Rattle.fixed.specs.declared.refusals.Refusal.{Refusal}
use Rattle.fixed.specs.declared.refusals.Refusal.TheVariants.{Length, Check, Form, ClauseRule, HouseLimit, Reference, RunOrSpareEntry, NoSuchSpace, Components, Room, Recipe, Syntax, TextNumber, Key, TooManyBlocks, ProgramText, ProgramStack}

pub some_number : (k : Refusal) → number_of k ≡ 0 → ⊥
some_number Length e = omega arith
some_number Check e = omega arith
some_number Form e = omega arith
some_number ClauseRule e = omega arith
some_number HouseLimit e = omega arith
some_number Reference e = omega arith
some_number RunOrSpareEntry e = omega arith
some_number NoSuchSpace e = omega arith
some_number Components e = omega arith
some_number Room e = omega arith
some_number Recipe e = omega arith
some_number Syntax e = omega arith
some_number TextNumber e = omega arith
some_number Key e = omega arith
some_number TooManyBlocks e = omega arith
some_number ProgramText e = omega arith
some_number ProgramStack e = omega arith
