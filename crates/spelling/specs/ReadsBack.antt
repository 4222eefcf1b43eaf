-- FORMAT.md, Designers' texts: a text that is spelled out reads back as its records.
use Rattle.std.specs.Prelude.{ℕ, ◌+◌, ◌*◌, ◌≤◌, ◌≡◌, List, [], ◌++◌, ℤ, length}
use Rattle.fixed.specs.Bytes.{blocks}
use Rattle.record.specs.Layout.{block_of}
use Rattle.page.specs.Outcomes.{accepted}
use Rattle.page.specs.Validation.{validated}
use Rattle.lexer.specs.declared.types.Mode.TheVariants.{Gap}
use Rattle.lexical.specs.declared.types.Number.{Number}
use Rattle.lexer.specs.Scans.{Word, Progress, going, bound}
use Rattle.reader.specs.declared.types.Want.TheVariants.{Top}
use Rattle.reader.specs.declared.types.Entry.{Entry}
use Rattle.reader.specs.declared.types.Inner.{Inner}
use Rattle.reader.specs.Spaces.{Parser, with}
use Rattle.reader.specs.Texts.{part_of, text_of, page}
use Rattle.objects.specs.Objects.{each}
use Rattle.spelling.specs.Spaces.{Space, AllFitting, all_blocks, all_records, spelled, page_of}

-- A text was read as far as `seen` bytes, between two tokens and with no space open, and so many blocks were made of it, with these bytes. What is left
-- over of the last token and the last dictionary is no matter, nor is where the brackets stood.
pub record Outermost (p : Progress Parser) (seen made : ℕ) (bytes : List ℕ) : Type 0 where
  pub number : Number
  pub word : Word
  pub first : ℕ
  pub kind : ℕ
  pub entry : Entry
  pub values : List ℤ
  pub inner : Inner
  pub brackets : List ℕ
  pub is :
      p
      ≡ going (record { mode = Gap; number = number; word = word; seen = seen; first = first })
      (with Top kind entry values inner [] (record { next = made; page = bytes; opens = brackets }))

-- Spaces of any nesting, whose entries fit, are spelled out.
pub record ReadsBack : Type 0 where
  -- Read after any text that left no space open, they leave none open, and their blocks come after those that were made.
  pub appends :
      (ts : List Space) (room seen made : ℕ) (bytes : List ℕ) (p : Progress Parser)
      → Outermost p seen made bytes
      → AllFitting ts
      → made + all_blocks ts ≤ blocks
      → 512 * (made + all_blocks ts) ≤ room
      → seen + length (spelled ts) ≤ bound
      → Outermost (part_of room p (spelled ts)) (seen + length (spelled ts)) (made + all_blocks ts) (bytes ++ each block_of (all_records made ts))
  -- And by themselves: where validation accepts their page and the room holds it, their text is accepted, and is that page.
  pub back :
      (ts : List Space) (room : ℕ)
      → AllFitting ts
      → validated (page_of ts) ≡ accepted
      → length (page_of ts) ≤ room
      → text_of room (spelled ts) ≡ page (page_of ts)
