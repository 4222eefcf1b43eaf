-- What asking for an ink by its name comes to (FORMAT.md, Inks by name).
use Rattle.std.specs.Prelude.{ℕ, Option, None, Some, Result, Ok, Err}
use Rattle.fixed.specs.Refusals.{number_of}
use Rattle.ink_names.specs.declared.asked.Side.{Side}
use Rattle.ink_names.specs.declared.asked.Side.TheVariants.{Job, House}
use Rattle.ink_names.specs.declared.asked.Place.{Place}
use Rattle.ink_names.specs.declared.asked.AskError.{AskError}
use Rattle.ink_names.specs.declared.asked.AskError.TheVariants.{JobRefused, HouseRefused, NoSuchInk}

-- the page that a reply is about
pub data Page : Type 0 where
  jobs : Page
  houses : Page
  neither : Page

-- found in a block of a page, or refused with a number, the page that it is of, and the block
pub data Reply : Type 0 where
  found : Page → ℕ → Reply
  refusal : ℕ → Page → ℕ → Reply

-- the block that it names
abbrev pub block_in : Reply → ℕ
block_in (found page block) = block
block_in (refusal number page block) = block

-- what each page is, and what a `Result` says
abbrev pub said : Side → Page
said Job = jobs
said House = houses

-- the same, where it may be neither page
abbrev pub said_of : Option Side → Page
said_of None = neither
said_of (Some page) = said page

abbrev pub meaning : Result Place AskError → Reply
meaning (Ok f) = found (said f.page) f.block
meaning (Err (JobRefused e)) = refusal (number_of e.refusal) jobs e.block
meaning (Err (HouseRefused e)) = refusal (number_of e.refusal) houses e.block
meaning (Err NoSuchInk) = refusal 8 neither 0
