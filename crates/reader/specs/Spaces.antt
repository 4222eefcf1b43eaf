-- FORMAT.md, Designers' texts: the spaces that are open, and the blocks that a space's closing bracket makes.
use Rattle.std.specs.Prelude.{ℕ, zero, suc, ◌+◌, ◌*◌, cond, List, [], ◌∷◌, ◌++◌, eqb, ℤ, length, take, drop, replicate}
use Rattle.fixed.specs.Bytes.{blocks}
use Rattle.fixed.specs.Values.{value}
use Rattle.layout.specs.Field.{padded}
use Rattle.record.specs.Layout.{block_of}
use Rattle.record.specs.declared.types.Triple.{Triple}
use Rattle.record.specs.declared.types.Ranges.{Ranges}
use Rattle.record.specs.declared.types.Four.{Four}
use Rattle.record.specs.declared.types.Body.{Body}
use Rattle.record.specs.declared.types.Body.TheVariants.{CalGray, CalRgb, Lab, Indexed, Separation, Palette}
use Rattle.record.specs.declared.types.Record.{Record}
use Rattle.runs.specs.Runs.{run_length}
use Rattle.lexer.specs.Scans.{Word}
use Rattle.reader.specs.declared.types.Want.{Want}
use Rattle.reader.specs.declared.types.Entry.{Entry}
use Rattle.reader.specs.declared.types.Inner.{Inner}

-- an open space: where its bracket stands, and a Separation's name; an Indexed space around another has none
pub record Frame : Type 0 where
  pub start : ℕ
  pub name : List ℕ

-- what was made: how many blocks, their bytes, and for each the opening bracket of its space
pub record Made : Type 0 where
  pub next : ℕ
  pub page : List ℕ
  pub opens : List ℕ

-- what is read, between two tokens: what may stand next, the kind of the space, the entry of its dictionary, the dictionary's values, the space inside it,
-- the open spaces, and what was made
pub record Parser : Type 0 where
  pub want : Want
  pub kind : ℕ
  pub entry : Entry
  pub values : List ℤ
  pub inner : Inner
  pub frames : List Frame
  pub made : Made

abbrev pub with : Want → ℕ → Entry → List ℤ → Inner → List Frame → Made → Parser
with w k e v i f m = record { want = w; kind = k; entry = e; values = v; inner = i; frames = f; made = m }

-- ---- open spaces, the innermost first. Nesting has no bound in a text; but only the innermost and the `blocks` around it are kept: before any other is met
-- again `blocks` blocks are made, and the closing bracket after them is 15.

unfoldable pub opened : ℕ → List Frame → List Frame
opened at fs = take (blocks + 1) (record { start = at; name = [] } ∷ fs)

-- the innermost gets its name
unfoldable pub named : List ℕ → List Frame → List Frame
named w [] = []
named w (f ∷ fs) = record { start = f.start; name = w } ∷ fs

unfoldable pub around : List Frame → List Frame
around [] = []
around (f ∷ fs) = fs

unfoldable pub start_of : List Frame → ℕ
start_of [] = 0
start_of (f ∷ fs) = f.start

unfoldable pub name_of : List Frame → List ℕ
name_of [] = []
name_of (f ∷ fs) = f.name

-- ---- the record of a space, from the values of its dictionary

abbrev pub triple_in : List ℤ → ℕ → Triple
triple_in v k = record { x = value v k; y = value v (k + 1); z = value v (k + 2) }

abbrev pub ranges_in : List ℤ → ℕ → Ranges
ranges_in v k = record { amin = value v k; amax = value v (k + 1); bmin = value v (k + 2); bmax = value v (k + 3) }

abbrev pub four_in : List ℤ → ℕ → Four
four_in v k = record { a = value v k; b = value v (k + 1); c = value v (k + 2); d = value v (k + 3) }

unfoldable pub body_of : ℕ → Inner → Entry → List ℤ → ℕ → Body
body_of kind inner entry v n =
    cond (eqb kind 1) (CalGray (record { white = triple_in v 0; black = triple_in v 3; gamma = value v 6 }))
    (cond (eqb kind 2)
    (CalRgb
    (record { white = triple_in v 0; black = triple_in v 3; gammas = triple_in v 6; a = triple_in v 9; b = triple_in v 12; c = triple_in v 15 }))
    (cond (eqb kind 3) (Lab (record { white = triple_in v 0; black = triple_in v 3; range = ranges_in v 18 }))
    (cond (eqb kind 4) (Indexed inner.code inner.hival)
    (Separation
    (record { alternate = inner.code; exponent = entry.exponent; name_len = n; c0 = four_in v 22; c1 = four_in v 26 })))))

unfoldable pub record_of : Parser → Record
record_of a =
    record {
      own = a.made.next;
      body = body_of a.kind a.inner a.entry a.values (length (name_of a.frames));
      bytes = padded 504 (name_of a.frames);
    }

-- an Indexed space's palette: as few blocks as hold it, from number own on
unfoldable pub palette_of : ℕ → List ℕ → Record
palette_of own w = record { own = own; body = Palette; bytes = padded 504 w }

unfoldable pub run_of : ℕ → ℕ → List ℕ → List ℕ
run_of own zero w = []
run_of own (suc k) w = block_of (palette_of own w) ++ run_of (own + 1) k (drop 504 w)

-- the bytes of a palette: m (hival + 1)
abbrev pub palette_size : Inner → ℕ
palette_size i = i.count * (i.hival + 1)

-- how many blocks of palette a space has
unfoldable pub run_blocks : Parser → ℕ
run_blocks a = cond (eqb a.kind 4) (run_length (palette_size a.inner)) 0

-- what is made with the space's blocks: its own, and its palette's straight after it; w is the string that was read last
unfoldable pub made_with : Parser → Word → Made
made_with a w =
    record {
      next = a.made.next + (1 + run_blocks a);
      page = a.made.page ++ (block_of (record_of a) ++ run_of (a.made.next + 1) (run_blocks a) w.bytes);
      opens = a.made.opens ++ replicate (1 + run_blocks a) (start_of a.frames);
    }
