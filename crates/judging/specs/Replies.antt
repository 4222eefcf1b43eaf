-- What the end of a text answers (FORMAT.md, Designers' texts).
use Rattle.std.specs.Prelude.{◌≡◌, ℕ, ◌/◌, List, length, Result, Ok, Err}
use Rattle.reader.specs.Texts.{Answer, page, refusal, room_after}
use Rattle.judging.specs.declared.types.TextRefusal.{TextRefusal}

-- what is answered: how many blocks the page has, or the refusal
unfoldable pub replied : Answer → Result ℕ TextRefusal
replied (page p) = Ok (length p / 512)
replied (refusal n at) = Err (record { number = n; at = at })

-- the answer, and the room before and after it
abbrev pub Ends : Result ℕ TextRefusal → List ℕ → List ℕ → Answer → Type 0
Ends r d d' a = (r ≡ replied a) × (d' ≡ room_after a d)
