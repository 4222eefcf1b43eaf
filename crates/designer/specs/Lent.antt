-- FORMAT.md, Designers' texts: the memory that the caller lends, what it says of the text, and what each operation
-- makes of it.
use Rattle.std.specs.Prelude.{ℕ, ◌*◌, Bool, ◌&&◌, cond, List, eqb, ℤ, length}
use Rattle.fixed.specs.Bytes.{blocks}
use Rattle.lexer.specs.Scans.{Progress, longest, finished}
use Rattle.reader.specs.Spaces.{Parser}
use Rattle.reader.specs.Kept.{ring}
use Rattle.reader.specs.Tokens.{took}
use Rattle.reader.specs.Texts.{Answer, refusal, start, part_of, settled}
use Rattle.designer.specs.State.{progress_at}
use Rattle.states.specs.Words.{count, state_in}

-- the state's words; the numbers of a dictionary; a name or string; brackets and names of the open spaces; brackets and bytes of the blocks
pub record Memory : Type 0 where
  pub words : List ℕ
  pub values : List ℤ
  pub word : List ℕ
  pub marks : List ℕ
  pub names : List ℕ
  pub opens : List ℕ
  pub page : List ℕ

abbrev pub memory : List ℕ → List ℤ → List ℕ → List ℕ → List ℕ → List ℕ → List ℕ → Memory
memory words values word marks names opens page =
    record { words = words; values = values; word = word; marks = marks; names = names; opens = opens; page = page }

-- the lengths that they must have
unfoldable pub sized : ℕ → ℕ → ℕ → ℕ → ℕ → ℕ → ℕ → Bool
sized words values word marks names opens page =
    eqb words count
    && (eqb values 30
    && (eqb word longest && (eqb marks ring && (eqb names (128 * ring) && (eqb opens blocks && eqb page (512 * blocks))))))

abbrev pub is_sized : Memory → Bool
is_sized m =
    sized (length m.words) (length m.values) (length m.word) (length m.marks) (length m.names) (length m.opens) (length m.page)

abbrev pub progress_in : Memory → Progress Parser
progress_in m = progress_at (state_in m.words) m.values m.word m.marks m.names m.opens m.page

-- What a memory says: where the reading of a text stands; of other lengths, nothing but its bytes.
pub data View : Type 0 where
  stands : Progress Parser → View
  foreign : Memory → View

unfoldable pub view_of : Memory → View
view_of m = cond (is_sized m) (stands (progress_in m)) (foreign m)

-- 10 where the lengths are others
unfoldable pub lent_fault : Memory → ℕ
lent_fault m = cond (is_sized m) 0 10

-- a text begins
unfoldable pub begun_view : View → View
begun_view (stands p) = stands start
begun_view (foreign m) = foreign m

-- a part of it
unfoldable pub part_view : ℕ → View → List ℕ → View
part_view room (stands p) l = stands (part_of room p l)
part_view room (foreign m) l = foreign m

-- its end: what it leaves, so that a second end replies the same; and what it comes to
unfoldable pub end_view : ℕ → View → View
end_view room (stands p) = stands (finished (took room) p)
end_view room (foreign m) = foreign m

unfoldable pub answer_of : ℕ → View → Answer
answer_of room (stands p) = settled room p
answer_of room (foreign m) = refusal 10 0
