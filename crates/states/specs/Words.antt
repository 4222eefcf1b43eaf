-- FORMAT.md, Designers' texts: the state as 25 words of 64 bits: each field has its word, and of a word that no one
-- wrote the part that the field has room for.
use Rattle.std.specs.Prelude.{ℕ, ◌%◌, ◌<◌, Bool, cond, List, [], ◌∷◌, eqb, get_or}
use Rattle.lexical.specs.declared.types.Part.{Part}
use Rattle.lexical.specs.declared.types.Part.TheVariants.{Empty, Sign, Digits, Point, Decimals, Keyword}
use Rattle.lexer.specs.declared.types.Mode.{Mode}
use Rattle.lexer.specs.declared.types.Mode.TheVariants.{Gap, Comment, Regular, Name, Hash, HashDigit, Less, Greater, Hex, HexDigit, Text, Return, Escape, Octal, Octals}
use Rattle.lexical.specs.declared.types.Number.{Number}
use Rattle.lexer.specs.declared.types.Lexer.{Lexer}
use Rattle.reader.specs.declared.types.Want.{Want}
use Rattle.reader.specs.declared.types.Want.TheVariants.{Top, Family, Dict, Key, Value, Items, Shut, Space, Hival, Lookup, Ink}
use Rattle.reader.specs.declared.types.Head.{Head}
use Rattle.states.specs.declared.types.Packed.{Packed}
use Rattle.states.specs.declared.types.State.{State}

-- how many words are lent
abbrev pub count : ℕ
count = 25

abbrev pub pack : ℕ → ℕ → ℕ → Packed
pack t d s = record { tag = t; depth = d; small = s }

abbrev pub packed : Mode → Packed
packed Gap = pack 0 0 0
packed Comment = pack 1 0 0
packed Regular = pack 2 0 0
packed Name = pack 3 0 0
packed Hash = pack 4 0 0
packed (HashDigit s) = pack 5 0 s
packed Less = pack 6 0 0
packed Greater = pack 7 0 0
packed Hex = pack 8 0 0
packed (HexDigit s) = pack 9 0 s
packed (Text d) = pack 10 d 0
packed (Return d) = pack 11 d 0
packed (Escape d) = pack 12 d 0
packed (Octal d s) = pack 13 d s
packed (Octals d s) = pack 14 d s

-- any number past the last is Gap
unfoldable pub unpacked : Packed → Mode
unpacked p =
    cond (eqb p.tag 1) Comment
    (cond (eqb p.tag 2) Regular
    (cond (eqb p.tag 3) Name
    (cond (eqb p.tag 4) Hash
    (cond (eqb p.tag 5) (HashDigit p.small)
    (cond (eqb p.tag 6) Less
    (cond (eqb p.tag 7) Greater
    (cond (eqb p.tag 8) Hex
    (cond (eqb p.tag 9) (HexDigit p.small)
    (cond (eqb p.tag 10) (Text p.depth)
    (cond (eqb p.tag 11) (Return p.depth)
    (cond (eqb p.tag 12) (Escape p.depth)
    (cond (eqb p.tag 13) (Octal p.depth p.small)
    (cond (eqb p.tag 14) (Octals p.depth p.small) Gap)))))))))))))

-- what a token of regular characters is so far
unfoldable pub part_in : ℕ → Part
part_in t =
    cond (eqb t 1) Sign (cond (eqb t 2) Digits (cond (eqb t 3) Point (cond (eqb t 4) Decimals (cond (eqb t 5) Keyword Empty))))

abbrev pub part_tag : Part → ℕ
part_tag Empty = 0
part_tag Sign = 1
part_tag Digits = 2
part_tag Point = 3
part_tag Decimals = 4
part_tag Keyword = 5

-- what the next token may be
unfoldable pub want_in : ℕ → Want
want_in t =
    cond (eqb t 1) Family
    (cond (eqb t 2) Dict
    (cond (eqb t 3) Key
    (cond (eqb t 4) Value
    (cond (eqb t 5) Items
    (cond (eqb t 6) Shut
    (cond (eqb t 7) Space
    (cond (eqb t 8) Hival
    (cond (eqb t 9) Lookup
    (cond (eqb t 10) Ink Top)))))))))

abbrev pub want_tag : Want → ℕ
want_tag Top = 0
want_tag Family = 1
want_tag Dict = 2
want_tag Key = 3
want_tag Value = 4
want_tag Items = 5
want_tag Shut = 6
want_tag Space = 7
want_tag Hival = 8
want_tag Lookup = 9
want_tag Ink = 10

abbrev pub bit : Bool → ℕ
bit b = cond b 1 0

-- a word's low half, two bytes, byte and bit
abbrev pub half : List ℕ → ℕ → ℕ
half w i = get_or w i 0 % 4294967296

abbrev pub short : List ℕ → ℕ → ℕ
short w i = get_or w i 0 % 65536

abbrev pub byte : List ℕ → ℕ → ℕ
byte w i = get_or w i 0 % 256

abbrev pub flag : List ℕ → ℕ → Bool
flag w i = eqb (get_or w i 0 % 2) 1

abbrev pub number_in : List ℕ → Number
number_in w = record { part = part_in (half w 3); minus = flag w 4; fine = flag w 5; raw = get_or w 6 0; after = half w 7 }

abbrev pub lexer_in : List ℕ → Lexer
lexer_in w =
    record {
      mode = unpacked (pack (half w 0) (half w 1) (byte w 2));
      number = number_in w;
      size = half w 8;
      seen = half w 9;
      first = half w 10;
    }

abbrev pub head_in : List ℕ → Head
head_in w =
    record {
      want = want_in (half w 11);
      kind = byte w 12;
      entry = record { key = half w 13; index = half w 14; mask = half w 15; exponent = byte w 16 };
      inner = record { count = byte w 17; code = short w 18; hival = short w 19 };
      next = byte w 20;
      top = byte w 21;
      deep = byte w 22;
    }

-- the state that any words are
unfoldable pub state_in : List ℕ → State
state_in w = record { lexer = lexer_in w; head = head_in w; refusal = half w 23; place = half w 24 }

-- the words of a state
abbrev pub lexer_words : Lexer → List ℕ
lexer_words l =
    (packed l.mode).tag ∷ (packed l.mode).depth ∷ (packed l.mode).small
    ∷ part_tag l.number.part ∷ bit l.number.minus ∷ bit l.number.fine ∷ l.number.raw ∷ l.number.after
    ∷ l.size ∷ l.seen ∷ l.first ∷ []

abbrev pub head_words : Head → List ℕ
head_words h =
    want_tag h.want ∷ h.kind
    ∷ h.entry.key ∷ h.entry.index ∷ h.entry.mask ∷ h.entry.exponent
    ∷ h.inner.count ∷ h.inner.code ∷ h.inner.hival
    ∷ h.next ∷ h.top ∷ h.deep ∷ []

-- the ranges that the types of the fields give
pub record LexerFits (l : Lexer) : Type 0 where
  pub tag : (packed l.mode).tag < 4294967296
  pub depth : (packed l.mode).depth < 4294967296
  pub small : (packed l.mode).small < 256
  pub after : l.number.after < 4294967296
  pub size : l.size < 4294967296
  pub seen : l.seen < 4294967296
  pub first : l.first < 4294967296

pub record HeadFits (h : Head) : Type 0 where
  pub kind : h.kind < 256
  pub key : h.entry.key < 4294967296
  pub index : h.entry.index < 4294967296
  pub mask : h.entry.mask < 4294967296
  pub exponent : h.entry.exponent < 256
  pub count : h.inner.count < 256
  pub code : h.inner.code < 65536
  pub hival : h.inner.hival < 65536
  pub next : h.next < 256
  pub top : h.top < 256
  pub deep : h.deep < 256
