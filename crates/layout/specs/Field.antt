-- FORMAT.md, Blocks: a layout of bytes: fields that stand one after the other, what each is written as, and what it
-- takes for each number to have room.
use Rattle.std.specs.Prelude.{List, [], ◌∷◌, ◌++◌, ℕ, zero, suc, ◌+◌, ◌<◌, get_or, drop, replicate, ℤ}
use Rattle.std.proofs.lemmas.List.Edits.{sets}
use Rattle.std.specs.Int.{w32}
use Rattle.std.proofs.Common.{SFits}
use Rattle.fixed.specs.Bytes.{two_bytes, number_bytes}

-- a byte, a number of two bytes, a signed number of four, the first n bytes of a run, and n zeros
pub data Field : Type 0 where
  one : ℕ → Field
  two : ℕ → Field
  num : ℤ → Field
  run : ℕ → List ℕ → Field
  gap : ℕ → Field

-- how many bytes a field takes
abbrev pub size : Field → ℕ
size (one n) = 1
size (two n) = 2
size (num z) = 4
size (run n s) = n
size (gap n) = n

-- and how many all fields of a layout take
abbrev pub sizes : List Field → ℕ
sizes [] = 0
sizes (f ∷ fs) = size f + sizes fs

-- the first n bytes of s, with zeros past its end
unfoldable pub padded : ℕ → List ℕ → List ℕ
padded zero s = []
padded (suc n) s = get_or s 0 0 ∷ padded n (drop 1 s)

-- what a field is written as
abbrev pub bytes_of : Field → List ℕ
bytes_of (one n) = n ∷ []
bytes_of (two n) = two_bytes n
bytes_of (num z) = number_bytes z
bytes_of (run n s) = padded n s
bytes_of (gap n) = replicate n 0

-- what a layout is written as: its fields, one after the other
abbrev pub written : List Field → List ℕ
written [] = []
written (f ∷ fs) = bytes_of f ++ written fs

-- bytes d, with the fields of a layout stored from `at` on
unfoldable pub puts : List ℕ → ℕ → List Field → List ℕ
puts d at [] = d
puts d at (f ∷ fs) = puts (sets d at (bytes_of f)) (at + size f) fs

-- a number is one that its bytes have room for
abbrev pub FieldFits : Field → Type 0
FieldFits (one n) = n < 256
FieldFits (two n) = n < 65536
FieldFits (num z) = SFits w32 z
FieldFits (run n s) = Unit
FieldFits (gap n) = Unit

-- and so is each number of a layout
abbrev pub FieldsFit : List Field → Type 0
FieldsFit [] = Unit
FieldsFit (f ∷ fs) = FieldFits f × FieldsFit fs

-- bytes: what every list of u8 is, each below 256
abbrev pub Bytes : List ℕ → Type 0
Bytes s = (i : ℕ) → get_or s i 0 < 256
