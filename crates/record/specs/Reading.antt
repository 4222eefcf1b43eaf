-- FORMAT.md, Kinds: what a block b says, by the byte offsets of the table. Every list of bytes says something; specs/Rules.antt has what is refused.
use Rattle.std.specs.Prelude.{List, [], ◌∷◌, ◌++◌, Bool, ◌&&◌, cond, ◌≡◌, ℕ, zero, suc, ◌+◌, ◌-◌, ◌<◌, length, drop, replicate, eqb}
use Rattle.fixed.specs.Bytes.{byte_at, two_at, number_at}
use Rattle.fixed.specs.Loops.{all_between}
use Rattle.layout.specs.Field.{padded}
use Rattle.record.specs.Layout.{room, names_room}
use Rattle.record.specs.declared.types.Triple.{Triple}
use Rattle.record.specs.declared.types.Ranges.{Ranges}
use Rattle.record.specs.declared.types.Four.{Four}
use Rattle.record.specs.declared.types.CalGray.{CalGray as GraySpace}
use Rattle.record.specs.declared.types.CalRgb.{CalRgb as RgbSpace}
use Rattle.record.specs.declared.types.Lab.{Lab as LabSpace}
use Rattle.record.specs.declared.types.Separation.{Separation as Ink}
use Rattle.record.specs.declared.types.Body.{Body}
use Rattle.record.specs.declared.types.Body.TheVariants.{Free, CalGray, CalRgb, Lab, Indexed, Separation, Palette, Program, DeviceN}
use Rattle.record.specs.declared.types.Record.{Record}

-- byte 0, and bytes 2-3
abbrev pub kind_at : List ℕ → ℕ
kind_at b = byte_at b 0

abbrev pub own_at : List ℕ → ℕ
own_at b = two_at b 2

-- three numbers and four, from `at` on
abbrev pub triple_at : List ℕ → ℕ → Triple
triple_at b at = record { x = number_at b at; y = number_at b (at + 4); z = number_at b (at + 8) }

abbrev pub ranges_at : List ℕ → ℕ → Ranges
ranges_at b at =
    record { amin = number_at b at; amax = number_at b (at + 4); bmin = number_at b (at + 8); bmax = number_at b (at + 12) }

abbrev pub four_numbers_at : List ℕ → ℕ → Four
four_numbers_at b at = record { a = number_at b at; b = number_at b (at + 4); c = number_at b (at + 8); d = number_at b (at + 12) }

-- white 4, black 16, gamma 28
abbrev pub gray_at : List ℕ → GraySpace
gray_at b = record { white = triple_at b 4; black = triple_at b 16; gamma = number_at b 28 }

-- white 4, black 16, three gammas 28, matrix 40: XA YA ZA, XB YB ZB, XC YC ZC
abbrev pub rgb_at : List ℕ → RgbSpace
rgb_at b =
    record {
      white = triple_at b 4;
      black = triple_at b 16;
      gammas = triple_at b 28;
      a = triple_at b 40;
      b = triple_at b 52;
      c = triple_at b 64;
    }

-- white 4, black 16, range 28
abbrev pub lab_at : List ℕ → LabSpace
lab_at b = record { white = triple_at b 4; black = triple_at b 16; range = ranges_at b 28 }

-- alternate 4, exponent 6, name length 7, C0 136, C1 152
abbrev pub separation_at : List ℕ → Ink
separation_at b =
    record { alternate = two_at b 4; exponent = byte_at b 6; name_len = byte_at b 7; c0 = four_numbers_at b 136; c1 = four_numbers_at b 152 }

-- the body of a block of kind k: base 4 and hival 6 of an Indexed one, alternate 4 and count of names 6 of a DeviceN; an unknown kind is read as free
unfoldable pub body_by : ℕ → List ℕ → Body
body_by k b =
    cond (eqb k 1) (CalGray (gray_at b))
    (cond (eqb k 2) (CalRgb (rgb_at b))
    (cond (eqb k 3) (Lab (lab_at b))
    (cond (eqb k 4) (Indexed (two_at b 4) (two_at b 6))
    (cond (eqb k 5) (Separation (separation_at b))
    (cond (eqb k 6) Palette
    (cond (eqb k 7) Program
    (cond (eqb k 8) (DeviceN (two_at b 4) (byte_at b 6)) Free)))))))

abbrev pub body_at : List ℕ → Body
body_at b = body_by (kind_at b) b

-- n bytes from `at` on, with zeros after them: a record's room
abbrev pub run_at : List ℕ → ℕ → ℕ → List ℕ
run_at b at n = padded n (drop at b) ++ replicate (room - n) 0

-- where the name of a Separation begins in its block, and the names of a DeviceN
abbrev pub name_from : ℕ
name_from = 8

-- the names of a DeviceN, as its record's room has them
abbrev pub names_at : List ℕ → List ℕ
names_at b = run_at b name_from names_room

-- the room of a block of kind k: the name, the names, or the part of a palette or of a program's text
unfoldable pub bytes_by : ℕ → List ℕ → List ℕ
bytes_by k b =
    cond (eqb k 5) (run_at b name_from 128)
    (cond (eqb k 6) (run_at b 4 room)
    (cond (eqb k 7) (run_at b 4 room)
    (cond (eqb k 8) (names_at b)
    (replicate room 0))))

-- byte k of the part of a palette, or of a program's text
abbrev pub palette_at : List ℕ → ℕ → ℕ
palette_at b k = byte_at b (4 + k)

-- the two names that are no ink's: None, and All
abbrev pub the_none : List ℕ
the_none = 0x4E ∷ 0x6F ∷ 0x6E ∷ 0x65 ∷ []

abbrev pub the_all : List ℕ
the_all = 0x41 ∷ 0x6C ∷ 0x6C ∷ []

-- a name is its length, one byte, and then so many bytes. The name at `at` is exactly these bytes: as long, and the same byte by byte
unfoldable pub name_is : List ℕ → ℕ → List ℕ → Bool
name_is s at name = eqb (byte_at s at) (length name) && all_between (λ k. eqb (byte_at s (at + 1 + k)) (byte_at name k)) 0 (length name)

-- the name of a Separation, whose length is byte 7
abbrev pub ink_is : List ℕ → List ℕ → Bool
ink_is b name = name_is b 7 name

-- the names at p and at q are the same
unfoldable pub same_names : List ℕ → ℕ → ℕ → Bool
same_names s p q = eqb (byte_at s p) (byte_at s q) && all_between (λ k. eqb (byte_at s (p + 1 + k)) (byte_at s (q + 1 + k))) 0 (byte_at s p)

-- of names that stand straight one after the other from the start of s, where name k stands
unfoldable pub name_place : List ℕ → ℕ → ℕ
name_place s zero = 0
name_place s (suc k) = name_place s k + 1 + byte_at s (name_place s k)

-- the first n of them are all None
unfoldable pub all_none : List ℕ → ℕ → Bool
all_none s n = all_between (λ k. name_is s (name_place s k) the_none) 0 n

-- the record that a block holds
unfoldable pub record_at : List ℕ → Record
record_at b = record { own = own_at b; body = body_at b; bytes = bytes_by (kind_at b) b }

-- two lists have the same block: a byte past the end of either is 0
abbrev pub SameBytes : List ℕ → List ℕ → Type 0
SameBytes b c = (k : ℕ) → k < 512 → byte_at b k ≡ byte_at c k
