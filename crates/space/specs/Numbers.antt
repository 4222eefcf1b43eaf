-- FORMAT.md, References: what a number is, as a reference has it or as it is asked for: a block's number, or a device code.
use Rattle.std.specs.Prelude.{ℕ, ◌+◌, ◌/◌, ◌%◌, Bool, ◌&&◌, ◌||◌, cond, List, eqb, ltb, leb}
use Rattle.fixed.specs.Bytes.{blocks, device, block_at}
use Rattle.record.specs.Layout.{kind_of, room}
use Rattle.record.specs.Reading.{kind_at, body_at, palette_at}

-- the kind of a number: its block's, 0 past the page; a number that can be no block's is its own kind, so a device code is
unfoldable pub kind_numbered : List ℕ → ℕ → ℕ
kind_numbered page n = cond (ltb n blocks) (kind_at (block_at page n)) n

-- the kinds of spaces: 1 to 5, and 8
abbrev pub space_kind : ℕ → Bool
space_kind k = (leb 1 k && leb k 5) || eqb k 8

-- FORMAT.md, Refusals: a device code, or a block of such a kind; a number asked for that is neither meets refusal 8
unfoldable pub asked : List ℕ → ℕ → Bool
asked page n = device n || (ltb n blocks && space_kind (kind_of (body_at (block_at page n))))

-- byte j of the palette of the Indexed block n, in the blocks after it
unfoldable pub palette_byte : List ℕ → ℕ → ℕ → ℕ
palette_byte page n j = palette_at (block_at page (n + 1 + j / room)) (j % room)
