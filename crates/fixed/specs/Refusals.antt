-- The numbers of the refusals, by their names (FORMAT.md, Refusals).
use Rattle.std.specs.Prelude.{ℕ, Result, Ok, Err}
use Rattle.fixed.specs.declared.refusals.Refusal.{Refusal}
use Rattle.fixed.specs.declared.refusals.Refusal.TheVariants.{Length, Check, Form, ClauseRule, HouseLimit, Reference, RunOrSpareEntry, NoSuchSpace, Components, Room, Recipe, Syntax, TextNumber, Key, TooManyBlocks, ProgramText, ProgramStack}

abbrev pub number_of : Refusal → ℕ
number_of Length = 1
number_of Check = 2
number_of Form = 3
number_of ClauseRule = 4
number_of HouseLimit = 5
number_of Reference = 6
number_of RunOrSpareEntry = 7
number_of NoSuchSpace = 8
number_of Components = 9
number_of Room = 10
number_of Recipe = 11
number_of Syntax = 12
number_of TextNumber = 13
number_of Key = 14
number_of TooManyBlocks = 15
number_of ProgramText = 16
number_of ProgramStack = 17

-- the number that a test refuses with, 0 where it passes
abbrev pub refused_with : {A : Type 0} → Result A Refusal → ℕ
refused_with (Ok _) = 0
refused_with (Err r) = number_of r
