-- FORMAT.md, Inks by name: the name that a block has, as its record says it, and when it is the name asked for.
use Rattle.std.specs.Prelude.{ℕ, ◌+◌, ◌*◌, Bool, false, ◌&&◌, List, eqb, length, take}
use Rattle.fixed.specs.Bytes.{block_at, byte_at}
use Rattle.fixed.specs.Loops.{all_between}
use Rattle.record.specs.Reading.{body_at, record_at, name_from}
use Rattle.record.specs.declared.types.Body.{Body}
use Rattle.record.specs.declared.types.Body.TheVariants.{Free, CalGray, CalRgb, Lab, Indexed, Separation, Palette, Program, DeviceN}

-- how many bytes a Separation's name has; no other body has a name
abbrev pub name_length : Body → ℕ
name_length Free = 0
name_length (CalGray g) = 0
name_length (CalRgb g) = 0
name_length (Lab g) = 0
name_length (Indexed base hival) = 0
name_length (Separation p) = p.name_len
name_length Palette = 0
name_length Program = 0
name_length (DeviceN alternate count) = 0

-- two names are the same where they are as long, and the same byte by byte
unfoldable pub same_name : List ℕ → List ℕ → Bool
same_name s t = eqb (length s) (length t) && all_between (λ k. eqb (byte_at s k) (byte_at t k)) 0 (length t)

-- a record of body y with the room s is an ink of that name: a Separation, with that name in the first bytes of its room
unfoldable pub ink_named : Body → List ℕ → List ℕ → Bool
ink_named Free s name = false
ink_named (CalGray g) s name = false
ink_named (CalRgb g) s name = false
ink_named (Lab g) s name = false
ink_named (Indexed base hival) s name = false
ink_named (Separation p) s name = same_name (take p.name_len s) name
ink_named Palette s name = false
ink_named Program s name = false
ink_named (DeviceN alternate count) s name = false

-- block n of a page is an ink of that name
unfoldable pub ink_at : List ℕ → List ℕ → ℕ → Bool
ink_at page name n = ink_named (record_at (block_at page n)).body (record_at (block_at page n)).bytes name

-- where the name of block n stands on its page: its first byte, and how many there are
abbrev pub name_start : ℕ → ℕ
name_start n = 512 * n + name_from

abbrev pub name_size : List ℕ → ℕ → ℕ
name_size page n = name_length (body_at (block_at page n))
