-- FORMAT.md, Designers' texts: what holds of the reader of texts, as one statement.
use Rattle.std.specs.Prelude.{◌≡◌, ℕ}
use mathlib.Core.List.{List, foldl}
use Rattle.page.specs.Outcomes.{accepted}
use Rattle.page.specs.Validation.{validated}
use Rattle.lexer.specs.Scans.{stopped, whole_of}
use Rattle.reader.specs.Texts.{page, refusal, start, text_of, room_after}
use Rattle.designer.specs.Lent.{View, stands, part_view, end_view, answer_of}

pub record TextReads : Type 0 where
  -- however a text is cut into parts, whatever was lent before, the answer is that of the whole text: its reply, its place and its blocks
  pub parts : (room : ℕ) (v : View) (ps : List (List ℕ)) → foldl (part_view room) v ps ≡ part_view room v (whole_of ps)
  pub whole : (room : ℕ) (l : List ℕ) → answer_of room (part_view room (stands start) l) ≡ text_of room l
  -- a refusal once met stays, whatever comes after it
  pub stays : (room n at : ℕ) (l : List ℕ) → part_view room (stands (stopped n at)) l ≡ stands (stopped n at)
  pub repeats : (room n at : ℕ) → answer_of room (stands (stopped n at)) ≡ refusal n at
  -- the end may be asked for again
  pub again : (room : ℕ) (v : View) → answer_of room (end_view room v) ≡ answer_of room v
  -- only an accepted text writes the room
  pub writes : (room : ℕ) (v : View) (d : List ℕ) → ((p : List ℕ) → answer_of room v ≡ page p → ⊥) → room_after (answer_of room v) d ≡ d
  -- and its page is accepted by validation, of any state
  pub accepts : (room : ℕ) (v : View) (p : List ℕ) → answer_of room v ≡ page p → validated p ≡ accepted
