-- FORMAT.md, The page: what stands in a block of 512 bytes. Byte 0 kind, byte 1 zero, bytes 2-3 the block's own number, body 4-507, check 508-511.
use Rattle.std.specs.Prelude.{List, [], ◌∷◌, ◌++◌, Bool, ◌&&◌, ℕ, ◌+◌, ◌-◌, ◌*◌, ◌%◌, eqb, ℤ}
use Rattle.fixed.specs.Bytes.{byte_at, two_at}
use Rattle.fixed.specs.Loops.{total}
use Rattle.layout.specs.Field.{Field, one, two, num, run, gap, sizes, written}
use Rattle.record.specs.declared.types.Triple.{Triple}
use Rattle.record.specs.declared.types.Ranges.{Ranges}
use Rattle.record.specs.declared.types.Four.{Four}
use Rattle.record.specs.declared.types.Body.{Body}
use Rattle.record.specs.declared.types.Body.TheVariants.{Free, CalGray, CalRgb, Lab, Indexed, Separation, Palette, Program, DeviceN}
use Rattle.record.specs.declared.types.Record.{Record}

-- three numbers, the four of a range and any four, before further fields
abbrev pub triple : Triple → List Field → List Field
triple t fs = num t.x ∷ num t.y ∷ num t.z ∷ fs

abbrev pub ranges : Ranges → List Field → List Field
ranges q fs = num q.amin ∷ num q.amax ∷ num q.bmin ∷ num q.bmax ∷ fs

abbrev pub four : Four → List Field → List Field
four q fs = num q.a ∷ num q.b ∷ num q.c ∷ num q.d ∷ fs

-- four numbers as ranges, in their order
abbrev pub ranges_of : Four → Ranges
ranges_of q = record { amin = q.a; amax = q.b; bmin = q.c; bmax = q.d }

-- the entries of C0 or C1, in their order
abbrev pub entries_of : Four → List ℤ
entries_of q = q.a ∷ q.b ∷ q.c ∷ q.d ∷ []

-- the column "kind" of the table of kinds
abbrev pub kind_of : Body → ℕ
kind_of Free = 0
kind_of (CalGray g) = 1
kind_of (CalRgb g) = 2
kind_of (Lab g) = 3
kind_of (Indexed base hival) = 4
kind_of (Separation p) = 5
kind_of Palette = 6
kind_of Program = 7
kind_of (DeviceN alternate count) = 8

-- how many bytes the room of a record has, and a block's part of a palette or of a program's text
abbrev pub room : ℕ
room = 504

-- how many bytes of a block the names of a DeviceN may take
abbrev pub names_room : ℕ
names_room = 500

-- the column "body", from byte 4 on; s is the record's room, with the name in its first 128 places, a DeviceN's names in its first 500, or the palette or program
abbrev pub body : Body → List ℕ → List Field
body Free s = []
body (CalGray g) s = triple g.white (triple g.black (num g.gamma ∷ []))
body (CalRgb g) s = triple g.white (triple g.black (triple g.gammas (triple g.a (triple g.b (triple g.c [])))))
body (Lab g) s = triple g.white (triple g.black (ranges g.range []))
body (Indexed base hival) s = two base ∷ two hival ∷ []
body (Separation p) s =
    two p.alternate ∷ one p.exponent ∷ one p.name_len ∷ run 128 s ∷ four p.c0 (four p.c1 [])
body Palette s = run room s ∷ []
body Program s = run room s ∷ []
body (DeviceN alternate count) s = two alternate ∷ one count ∷ one 0 ∷ run names_room s ∷ []

-- the byte past the last that the body names
abbrev pub named_to : Body → ℕ
named_to y = 4 + sizes (body y [])

-- body bytes not named are zero
abbrev pub rest : Body → List Field
rest y = gap (508 - named_to y) ∷ []

-- bytes 0 to 507 of a record's block
abbrev pub fields : Record → List Field
fields r = one (kind_of r.body) ∷ one 0 ∷ two r.own ∷ (body r.body r.bytes ++ rest r.body)

unfoldable pub head_of : Record → List ℕ
head_of r = written (fields r)

-- FORMAT.md, The check: the sum of b(i) over i = 0..507, modulo 65535, and that of (508 - i) x b(i)
unfoldable pub plain : List ℕ → ℕ
plain b = total (λ i. byte_at b i) 508 % 65535

unfoldable pub weighed : List ℕ → ℕ
weighed b = total (λ i. (508 - i) * byte_at b i) 508 % 65535

-- bytes 508 to 511: the check of bytes b
abbrev pub check : List ℕ → List Field
check b = two (plain b) ∷ two (weighed b) ∷ []

-- the 512 bytes of a record's block
unfoldable pub block_of : Record → List ℕ
block_of r = head_of r ++ written (check (head_of r))

-- whether a block's check is that of its bytes: else it is refused with 2
unfoldable pub checked : List ℕ → Bool
checked b = eqb (two_at b 508) (plain b) && eqb (two_at b 510) (weighed b)
