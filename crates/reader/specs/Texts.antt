-- FORMAT.md, Designers' texts: the whole text: its bytes from a start on, its end, and what it leaves in the room.
use Rattle.std.specs.Prelude.{ℕ, ◌*◌, Bool, true, false, ◌&&◌, cond, List, [], ◌++◌, ltb, leb, length, get_or, drop}
use Rattle.page.specs.Outcomes.{Outcome, accepted, refused}
use Rattle.page.specs.Validation.{validated}
use Rattle.lexer.specs.Moves.{is_gap}
use Rattle.lexer.specs.Scans.{Progress, going, stopped, fed, finished}
use Rattle.lexer.specs.Scans as scans
use Rattle.reader.specs.declared.types.Want.{Want}
use Rattle.reader.specs.declared.types.Want.TheVariants.{Top, Family, Dict, Key, Value, Items, Shut, Space, Hival, Lookup, Ink}
use Rattle.keys.specs.Entries.{defaults}
use Rattle.reader.specs.Spaces.{Parser, with}
use Rattle.reader.specs.Tokens.{took}

-- nothing read yet
unfoldable pub begun : Parser
begun =
    with Top 0 (record { key = 0; index = 0; mask = 0; exponent = 1 }) defaults (record { count = 0; code = 0; hival = 0 }) []
    (record { next = 0; page = []; opens = [] })

abbrev pub start : Progress Parser
start = going scans.start begun

-- a part of the text, read with a room of so many bytes
unfoldable pub part_of : ℕ → Progress Parser → List ℕ → Progress Parser
part_of room p l = fed (took room) p l

-- between spaces
abbrev pub is_top : Want → Bool
is_top Top = true
is_top Family = false
is_top Dict = false
is_top Key = false
is_top Value = false
is_top Items = false
is_top Shut = false
is_top Space = false
is_top Hival = false
is_top Lookup = false
is_top Ink = false

-- what a text comes to: the page's bytes, or a refusal and its byte
pub data Answer : Type 0 where
  page : List ℕ → Answer
  refusal : ℕ → ℕ → Answer

-- judging's own, placed at the space's opening bracket
unfoldable pub judged : Parser → Outcome → Answer
judged a accepted = page a.made.page
judged a (refused n i) = refusal n (get_or a.made.opens i 0)

-- 12 at the end for an unfinished text or one with no space; 10 there where another room is lent that is too short for the blocks
unfoldable pub concluded : ℕ → Progress Parser → Answer
concluded room (stopped n at) = refusal n at
concluded room (going s a) =
    cond (is_gap s.mode && (is_top a.want && leb 1 a.made.next))
    (cond (ltb room (512 * a.made.next)) (refusal 10 s.seen) (judged a (validated a.made.page)))
    (refusal 12 s.seen)

-- the end of the text
unfoldable pub settled : ℕ → Progress Parser → Answer
settled room p = concluded room (finished (took room) p)

-- The meaning of a text, for a room of so many bytes.
unfoldable pub text_of : ℕ → List ℕ → Answer
text_of room l = settled room (part_of room start l)

-- and the room afterwards: only a wholly accepted text writes the page's blocks, none after
unfoldable pub room_after : Answer → List ℕ → List ℕ
room_after (page p) d = p ++ drop (length p) d
room_after (refusal n at) d = d
