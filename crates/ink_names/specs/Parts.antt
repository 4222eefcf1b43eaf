-- FORMAT.md, Inks by name: the part of a lent page that is an ink's name: its bytes, and where it stands. A slice that
-- is lent or returned has its elements (`now`) and the place in memory of the first of them (`ptr`): a piece of memory,
-- and an offset in it.
use Rattle.std.specs.Prelude.{◌≡◌, List, ℕ, ◌+◌, take, drop}
use Rattle.std.specs.Borrow.{Bor}
use Rattle.ink_names.specs.Replies.{jobs, houses, neither, Reply, found, refusal}
use Rattle.ink_names.specs.Names.{name_start, name_size}

-- a slice of bytes
abbrev pub Slice : Type 0
Slice = Bor (List ℕ)

-- a part of a lent page: `size` bytes of it, from byte `from` on. It is of that page, and no copy: it begins in the page's own memory, as many bytes past the
-- page's first
pub record PartOf (page : Slice) (from size : ℕ) (part : Slice) : Type 0 where
  pub bytes : part.now ≡ take size (drop from page.now)
  pub memory : part.ref_ptr.0 ≡ page.ref_ptr.0
  pub offset : part.ref_ptr.1 ≡ page.ref_ptr.1 + from

-- the part that answers a reply: the name of the block that was found, of the page that it was found on; on a refusal no byte
abbrev pub NamePart : Slice → Slice → Reply → Slice → Type 0
NamePart job house (found jobs n) part = PartOf job (name_start n) (name_size job.now n) part
NamePart job house (found houses n) part = PartOf house (name_start n) (name_size house.now n) part
NamePart job house (found neither n) part = PartOf job 0 0 part
NamePart job house (refusal number p block) part = PartOf job 0 0 part
