-- FORMAT.md, Designers' texts: what one token does. Refusals are met in the order of the text, two at one token in the
-- list's order: 12, 13, 14, 4, 5, 7, 15, 10, each at the first byte of its token.
use Rattle.std.specs.Prelude.{ℕ, ◌+◌, ◌*◌, ◌/◌, ◌^◌, ◌&&◌, ◌||◌, not, cond, List, eqb, ltb, leb, length, set}
use Rattle.fixed.specs.Bytes.{blocks}
use Rattle.lexical.specs.declared.types.Number.{Number}
use Rattle.lexer.specs.declared.types.Token.{Token}
use Rattle.lexer.specs.declared.types.Token.TheVariants.{NameToken, RegularToken, StringToken, ArrayOpen, ArrayClose, DictOpen, DictClose}
use Rattle.lexical.specs.Numbers.{numeric, fits, millionths, value_of, whole_in}
use Rattle.lexer.specs.Moves.{more}
use Rattle.lexer.specs.Scans.{Scan, Taken, takes, refuses}
use Rattle.reader.specs.declared.types.Want.{Want}
use Rattle.reader.specs.declared.types.Want.TheVariants.{Top, Family, Dict, Key, Value, Items, Shut, Space, Hival, Lookup, Ink}
use Rattle.keys.specs.Names.{family_named, device_named, key_named}
use Rattle.keys.specs.Entries.{key_of, length_of, met_in, complete, number_fault, place_of, defaults}
use Rattle.reader.specs.Spaces.{Parser, Made, with, opened, named, around, name_of, palette_size, run_blocks, made_with}

-- the sorts of token; a keyword is none of these, and is always 12
abbrev pub name : ℕ
name = 1

abbrev pub number : ℕ
number = 2

abbrev pub text : ℕ
text = 3

abbrev pub array_opens : ℕ
array_opens = 4

abbrev pub array_closes : ℕ
array_closes = 5

abbrev pub dict_opens : ℕ
dict_opens = 6

abbrev pub dict_closes : ℕ
dict_closes = 7

unfoldable pub sort_of : Token → Number → ℕ
sort_of NameToken n = name
sort_of RegularToken n = cond (numeric n.part) number 0
sort_of StringToken n = text
sort_of ArrayOpen n = array_opens
sort_of ArrayClose n = array_closes
sort_of DictOpen n = dict_opens
sort_of DictClose n = dict_closes

abbrev pub wants : Parser → Want → Parser
wants a x = with x a.kind a.entry a.values a.inner a.frames a.made

-- `[` where a space may stand; at the outermost level nothing else may
unfoldable pub opens : Parser → ℕ → Parser
opens a at = with Family a.kind a.entry a.values a.inner (opened at a.frames) a.made

unfoldable pub took_top : Parser → Scan → ℕ → Taken Parser
took_top a s t = cond (eqb t array_opens) (takes (opens a s.first)) (refuses 12)

-- the family's name: CalGray, CalRGB and Lab have a dictionary, Indexed its base, Separation its name
unfoldable pub wanted_by : ℕ → Want
wanted_by kind = cond (leb kind 3) Dict (cond (eqb kind 4) Space Ink)

unfoldable pub of_family : Parser → ℕ → Parser
of_family a kind = with (wanted_by kind) kind a.entry a.values a.inner a.frames a.made

unfoldable pub took_family : Parser → Scan → ℕ → Taken Parser
took_family a s t =
    cond (eqb t name && not (eqb (family_named s.word.bytes) 0)) (takes (of_family a (family_named s.word.bytes))) (refuses 12)

-- the dictionary: `<<`, with every value at its default
unfoldable pub begins : Parser → Parser
begins a = with Key a.kind (record { key = 0; index = 0; mask = 0; exponent = 1 }) defaults a.inner a.frames a.made

unfoldable pub took_dict : Parser → ℕ → Taken Parser
took_dict a t = cond (eqb t dict_opens) (takes (begins a)) (refuses 12)

-- a key, 14 where it is unknown or doubled; or `>>`, 14 where a key is missing
unfoldable pub keyed : Parser → ℕ → Parser
keyed a key =
    with Value a.kind
    (record { key = key; index = 0; mask = a.entry.mask + 2 ^ key; exponent = a.entry.exponent })
    a.values a.inner a.frames a.made

unfoldable pub took_name : Parser → ℕ → Taken Parser
took_name a key = cond (key_of a.kind key && not (met_in a.entry.mask key)) (takes (keyed a key)) (refuses 14)

unfoldable pub took_end : Parser → Taken Parser
took_end a = cond (complete a.kind a.inner.count a.entry.mask) (takes (wants a Shut)) (refuses 14)

unfoldable pub took_key : Parser → Scan → ℕ → Taken Parser
took_key a s t = cond (eqb t name) (took_name a (key_named s.word.bytes)) (cond (eqb t dict_closes) (took_end a) (refuses 12))

-- a number of a value goes to its place, and the next is awaited; one with no brackets is the whole value
abbrev pub wanted : Parser → ℕ
wanted a = length_of a.kind a.inner.count a.entry.key

unfoldable pub valued : Parser → Number → Parser
valued a n =
    with (cond (eqb (wanted a) 0) Key Items) a.kind
    (record {
      key = a.entry.key;
      index = more a.entry.index;
      mask = a.entry.mask;
      exponent = cond (eqb a.entry.key 10) (millionths n / 1000000) a.entry.exponent;
    })
    (set a.values (place_of a.entry.key + a.entry.index) (value_of n)) a.inner a.frames a.made

unfoldable pub took_number : Parser → Number → Taken Parser
took_number a n =
    cond (eqb (number_fault a.entry.key a.entry.index n) 0)
    (takes (valued a n)) (refuses (number_fault a.entry.key a.entry.index n))

unfoldable pub took_value : Parser → ℕ → Number → Taken Parser
took_value a t n =
    cond (eqb (wanted a) 0)
    (cond (eqb t number) (took_number a n) (refuses 12))
    (cond (eqb t array_opens) (takes (wants a Items)) (refuses 12))

-- so many numbers, then `]`
unfoldable pub took_items : Parser → ℕ → Number → Taken Parser
took_items a t n =
    cond (ltb a.entry.index (wanted a))
    (cond (eqb t number) (took_number a n) (refuses 12))
    (cond (eqb t array_closes) (takes (wants a Key)) (refuses 12))

-- the `]` of a space: 15, 10, or its blocks are made, and it is the inner space of the one around it: a Separation, which has a name, or an Indexed.
-- CalRGB and Lab have three components, the others one
unfoldable pub count_of : ℕ → ℕ
count_of kind = cond (eqb kind 2 || eqb kind 3) 3 1

unfoldable pub resumes : List ℕ → Want
resumes w = cond (eqb (length w) 0) Hival Dict

unfoldable pub resumed : List ℕ → ℕ
resumed w = cond (eqb (length w) 0) 4 5

unfoldable pub outside : ℕ → Want → Want
outside n w = cond (eqb n 0) Top w

unfoldable pub closed : Parser → Made → Parser
closed a m =
    with (outside (length (around a.frames)) (resumes (name_of (around a.frames)))) (resumed (name_of (around a.frames))) a.entry
    a.values (record { count = count_of a.kind; code = a.made.next; hival = a.inner.hival }) (around a.frames) m

-- room is the length of the room lent, in bytes
unfoldable pub closes : ℕ → Parser → Scan → Taken Parser
closes room a s =
    cond (ltb blocks (a.made.next + (1 + run_blocks a))) (refuses 15)
    (cond (ltb room (512 * (a.made.next + (1 + run_blocks a)))) (refuses 10) (takes (closed a (made_with a s.word))))

unfoldable pub took_shut : ℕ → Parser → Scan → ℕ → Taken Parser
took_shut room a s t = cond (eqb t array_closes) (closes room a s) (refuses 12)

-- an inner space: a device space as a bare name, or `[`. The codes of the device spaces are FF00 and their counts
unfoldable pub device : Parser → ℕ → Parser
device a m =
    with (resumes (name_of a.frames)) a.kind a.entry a.values (record { count = m; code = 0xFF00 + m; hival = a.inner.hival })
    a.frames a.made

unfoldable pub took_space : Parser → Scan → ℕ → Taken Parser
took_space a s t =
    cond (eqb t array_opens) (takes (opens a s.first))
    (cond (eqb t name && not (eqb (device_named s.word.bytes) 0)) (takes (device a (device_named s.word.bytes))) (refuses 12))

-- hival: 13, or 4 unless it is whole in 0..255
unfoldable pub with_hival : Parser → Number → Parser
with_hival a n =
    with Lookup a.kind a.entry a.values
    (record { count = a.inner.count; code = a.inner.code; hival = millionths n / 1000000 }) a.frames a.made

unfoldable pub took_hival : Parser → ℕ → Number → Taken Parser
took_hival a t n =
    cond (eqb t number)
    (cond (fits n) (cond (whole_in n 0 255) (takes (with_hival a n)) (refuses 4)) (refuses 13))
    (refuses 12)

-- the palette, a string in either form: 7 unless it has m (hival + 1) bytes
unfoldable pub took_lookup : Parser → Scan → ℕ → Taken Parser
took_lookup a s t =
    cond (eqb t text) (cond (eqb s.word.size (palette_size a.inner)) (takes (wants a Shut)) (refuses 7)) (refuses 12)

-- an ink's name, of 1 to 127 bytes
unfoldable pub inked : Parser → List ℕ → Parser
inked a w = with Space a.kind a.entry a.values a.inner (named w a.frames) a.made

unfoldable pub took_ink : Parser → Scan → ℕ → Taken Parser
took_ink a s t =
    cond (eqb t name && (leb 1 s.word.size && leb s.word.size 127)) (takes (inked a s.word.bytes)) (refuses 12)

-- one token, by what may stand there
unfoldable pub took_by : ℕ → Parser → Scan → ℕ → Want → Taken Parser
took_by room a s t Top = took_top a s t
took_by room a s t Family = took_family a s t
took_by room a s t Dict = took_dict a t
took_by room a s t Key = took_key a s t
took_by room a s t Value = took_value a t s.number
took_by room a s t Items = took_items a t s.number
took_by room a s t Shut = took_shut room a s t
took_by room a s t Space = took_space a s t
took_by room a s t Hival = took_hival a t s.number
took_by room a s t Lookup = took_lookup a s t
took_by room a s t Ink = took_ink a s t

unfoldable pub took : ℕ → Parser → Scan → Token → Taken Parser
took room a s t = took_by room a s (sort_of t s.number) a.want
