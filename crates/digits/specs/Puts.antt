-- What the functions that put text into lent bytes promise to the other crates: each starts at a place and gives the place after its text.
use Rattle.std.specs.Prelude.{◌≡◌, List, ℕ, ◌+◌, ◌≤◌, length}
use Rattle.std.proofs.lemmas.List.Edits.{sets}

-- the text was stored from `at` on, as far as there is room, `next` is the place after it, and it has no more than `most` bytes
pub record Put (most : ℕ) (before : List ℕ) (at : ℕ) (text : List ℕ) (after : List ℕ) (next : ℕ) : Type 0 where
  pub stored : after ≡ sets before at text
  pub ends : next ≡ at + length text
  pub short : length text ≤ most

-- no text is put past this place: no listing and no line is so long
abbrev pub furthest : ℕ
furthest = 65536
