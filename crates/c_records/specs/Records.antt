-- A record as C has it: 20 numbers and 504 bytes; and what writing one as a block and reading one off a block come to.
use Rattle.std.specs.Prelude.{ℕ, min, ◌+◌, ◌-◌, Bool, cond, ◌&&◌, List, [], ◌∷◌, ◌++◌, eqb, leb, ℤ, pos, length, replicate}
use Rattle.fixed.specs.Loops.{unless, all_between}
use Rattle.fixed.specs.Values.{value, small_of}
use Rattle.layout.specs.Field.{padded}
use Rattle.record.specs.declared.types.Triple.{Triple}
use Rattle.record.specs.declared.types.Ranges.{Ranges}
use Rattle.record.specs.declared.types.Four.{Four}
use Rattle.record.specs.declared.types.CalGray.{CalGray as GraySpace}
use Rattle.record.specs.declared.types.CalRgb.{CalRgb as RgbSpace}
use Rattle.record.specs.declared.types.Lab.{Lab as LabSpace}
use Rattle.record.specs.declared.types.Separation.{Separation as Ink}
use Rattle.record.specs.declared.types.Body.{Body}
use Rattle.record.specs.declared.types.Body.TheVariants.{Free, CalGray, CalRgb, Lab, Indexed, Separation, Palette, Program, DeviceN}
use Rattle.record.specs.declared.types.Record.{Record}
use Rattle.record.specs.Layout.{kind_of, block_of}
use Rattle.record.specs.Reading.{record_at}
use Rattle.record.specs.Rules.{fault_of}
use Rattle.block.specs.Single.{Outcome, done, refused, read_number}
use Rattle.sktelbaan_runner.specs.Replies.{in_halves}

-- ---- a record of numbers v and bytes s

-- number k as a natural one: a negative one is 4294967295, which no field has room for
abbrev pub small : List ℤ → ℕ → ℕ
small v k = small_of (value v k)

-- number k in a field of one byte, and of two. One that the field has no room for stands there as FF or as FFFF, and is refused as these are: an own number, the
-- length of a name and a count of names with 3, hival with 4, an exponent with 5, a reference with 6
abbrev pub one_of : List ℤ → ℕ → ℕ
one_of v k = min (small v k) 255

abbrev pub two_of : List ℤ → ℕ → ℕ
two_of v k = min (small v k) 65535

-- three numbers and four, at these places
abbrev pub triple_of : List ℤ → ℕ → ℕ → ℕ → Triple
triple_of v i j k = record { x = value v i; y = value v j; z = value v k }

abbrev pub ranges_of : List ℤ → Ranges
ranges_of v = record { amin = value v 8; amax = value v 9; bmin = value v 10; bmax = value v 11 }

abbrev pub four_of : List ℤ → ℕ → ℕ → ℕ → ℕ → Four
four_of v i j k l = record { a = value v i; b = value v j; c = value v k; d = value v l }

-- white 2, black 5, gamma 8
abbrev pub gray_of : List ℤ → GraySpace
gray_of v = record { white = triple_of v 2 3 4; black = triple_of v 5 6 7; gamma = value v 8 }

-- white 2, black 5, gammas 8, matrix 11
abbrev pub rgb_of : List ℤ → RgbSpace
rgb_of v =
    record {
      white = triple_of v 2 3 4;
      black = triple_of v 5 6 7;
      gammas = triple_of v 8 9 10;
      a = triple_of v 11 12 13;
      b = triple_of v 14 15 16;
      c = triple_of v 17 18 19;
    }

-- white 2, black 5, range 8
abbrev pub lab_of : List ℤ → LabSpace
lab_of v = record { white = triple_of v 2 3 4; black = triple_of v 5 6 7; range = ranges_of v }

-- alternate 2, exponent 3, name length 4, C0 5, C1 9
abbrev pub ink_of : List ℤ → Ink
ink_of v =
    record { alternate = two_of v 2; exponent = one_of v 3; name_len = one_of v 4; c0 = four_of v 5 6 7 8; c1 = four_of v 9 10 11 12 }

-- the body of kind k
unfoldable pub body_of : ℕ → List ℤ → Body
body_of k v =
    cond (eqb k 1) (CalGray (gray_of v))
    (cond (eqb k 2) (CalRgb (rgb_of v))
    (cond (eqb k 3) (Lab (lab_of v))
    (cond (eqb k 4) (Indexed (two_of v 2) (two_of v 3))
    (cond (eqb k 5) (Separation (ink_of v))
    (cond (eqb k 6) Palette
    (cond (eqb k 7) Program
    (cond (eqb k 8) (DeviceN (two_of v 2) (one_of v 3)) Free)))))))

-- the record of the numbers and the first 504 bytes
unfoldable pub record_of : List ℤ → List ℕ → Record
record_of v s = record { own = two_of v 0; body = body_of (small v 1) v; bytes = padded 504 s }

-- ---- the numbers of a record

-- three numbers and four, before further ones
abbrev pub three : Triple → List ℤ → List ℤ
three t zs = t.x ∷ t.y ∷ t.z ∷ zs

abbrev pub ranges : Ranges → List ℤ → List ℤ
ranges q zs = q.amin ∷ q.amax ∷ q.bmin ∷ q.bmax ∷ zs

abbrev pub four : Four → List ℤ → List ℤ
four q zs = q.a ∷ q.b ∷ q.c ∷ q.d ∷ zs

-- the numbers that a body names
abbrev pub body_numbers : Body → List ℤ
body_numbers Free = []
body_numbers (CalGray g) = three g.white (three g.black (g.gamma ∷ []))
body_numbers (CalRgb g) = three g.white (three g.black (three g.gammas (three g.a (three g.b (three g.c [])))))
body_numbers (Lab g) = three g.white (three g.black (ranges g.range []))
body_numbers (Indexed base hival) = pos base ∷ pos hival ∷ []
body_numbers (Separation p) = pos p.alternate ∷ pos p.exponent ∷ pos p.name_len ∷ four p.c0 (four p.c1 [])
body_numbers Palette = []
body_numbers Program = []
body_numbers (DeviceN alternate count) = pos alternate ∷ pos count ∷ []

-- own number and kind before them, and zeros after them: 20 numbers
abbrev pub headed : ℕ → Body → List ℤ
headed own y = pos own ∷ pos (kind_of y) ∷ (body_numbers y ++ replicate (18 - length (body_numbers y)) (pos 0))

-- the 20 numbers of a record
abbrev pub numbers_of : Record → List ℤ
numbers_of r = headed r.own r.body

-- ---- which numbers make a record

-- how many numbers a body names, with the own number and the kind
abbrev pub named_count : Body → ℕ
named_count y = 2 + length (body_numbers y)

-- whether the numbers from `from` on are zero
unfoldable pub zero_from : List ℤ → ℕ → Bool
zero_from v from = all_between (λ k. eqb (small v k) 0) from 20

-- a kind 0..8, and zeros where the body names no number: else they are refused with 3
unfoldable pub record_like : List ℤ → Bool
record_like v = leb (small v 1) 8 && zero_from v (named_count (body_of (small v 1) v))

-- ---- what the two functions come to

-- what `block` comes to, as a reply: nothing is given
abbrev pub done_of : Outcome → ℕ
done_of done = in_halves 0 0
done_of (refused n) = in_halves n 0

-- writing into bytes d: 10 unless there are 512 of them, 3 where the numbers make no record, then what is refused of the record, 3, 4, 5 or 6; or 0
unfoldable pub put_number : List ℤ → List ℕ → List ℕ → ℕ
put_number v s d = unless (eqb (length d) 512) 10 (unless (record_like v) 3 (fault_of (record_of v s)))

-- the bytes afterwards: the record's block, or on a refusal what they were
unfoldable pub put_block : List ℤ → List ℕ → List ℕ → List ℕ
put_block v s d = cond (eqb (put_number v s d) 0) (block_of (record_of v s)) d

-- reading bytes b: the numbers afterwards are those of the record, or on a refusal what they were
unfoldable pub got_numbers : List ℕ → List ℤ → List ℤ
got_numbers b v = cond (eqb (read_number b) 0) (numbers_of (record_at b)) v

-- and so are the bytes
unfoldable pub got_bytes : List ℕ → List ℕ → List ℕ
got_bytes b s = cond (eqb (read_number b) 0) (record_at b).bytes s
