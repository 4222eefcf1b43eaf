-- FORMAT.md, Designers' texts: what is kept between two calls: a struct and lists that the caller lends. Every such
-- memory is a state.
use Rattle.std.specs.Prelude.{◌≡◌, ℕ, zero, suc, ◌+◌, ◌-◌, ◌*◌, ◌%◌, cond, List, [], ◌∷◌, eqb, leb, ℤ, get_or, take, drop, Result, Ok, Err}
use Rattle.fixed.specs.Bytes.{blocks}
use Rattle.fixed.specs.Refusals.{number_of}
use Rattle.fixed.specs.declared.refusals.Refusal.{Refusal}
use Rattle.lexer.specs.Scans.{Taken, takes, refuses}
use Rattle.reader.specs.declared.types.Head.{Head}
use Rattle.reader.specs.declared.types.Sort.{Sort}
use Rattle.reader.specs.declared.types.Sort.TheVariants.{Keyword, Name, Number, Text, ArrayOpens, ArrayCloses, DictOpens, DictCloses}
use Rattle.reader.specs.Spaces.{Frame, Made, Parser, with}

-- places in a ring for the open spaces: in `marks` the bracket of each, in `names` the length of its name and 127 bytes
abbrev pub ring : ℕ
ring = blocks + 1

abbrev pub before_slot : ℕ → ℕ
before_slot zero = ring - 1
before_slot (suc x) = x

abbrev pub after_slot : ℕ → ℕ
after_slot x = cond (eqb x (ring - 1)) 0 (x + 1)

abbrev pub name_at : List ℕ → ℕ → List ℕ
name_at names x = take (get_or names (128 * x) 0 % 128) (drop (128 * x + 1) names)

abbrev pub frame_at : List ℕ → List ℕ → ℕ → Frame
frame_at marks names x = record { start = get_or marks x 0; name = name_at names x }

-- the n spaces from place x back
unfoldable pub frames_at : List ℕ → List ℕ → ℕ → ℕ → List Frame
frames_at marks names x zero = []
frames_at marks names x (suc n) = frame_at marks names x ∷ frames_at marks names (before_slot x) n

abbrev pub top_of : Head → ℕ
top_of h = h.top % ring

abbrev pub deep_of : Head → ℕ
deep_of h = cond (leb h.deep ring) h.deep ring

-- so many blocks, and their brackets
abbrev pub made_at : ℕ → List ℕ → List ℕ → Made
made_at next opens page = record { next = next; page = take (512 * next) page; opens = take next opens }

abbrev pub parser_at : Head → List ℤ → List ℕ → List ℕ → List ℕ → List ℕ → Parser
parser_at h values marks names opens page =
    with h.want h.kind h.entry values h.inner (frames_at marks names (top_of h) (deep_of h)) (made_at h.next opens page)

-- what a token comes to, where these lists are lent
abbrev pub took_at : Result Head Refusal → List ℤ → List ℕ → List ℕ → List ℕ → List ℕ → Taken Parser
took_at (Ok h) values marks names opens page = takes (parser_at h values marks names opens page)
took_at (Err r) values marks names opens page = refuses (number_of r)

-- a token that alters no list comes to f, whatever lists are lent
abbrev pub Turns : Head → Result Head Refusal → (Parser → Taken Parser) → Type 0
Turns h r f =
    (values : List ℤ) (marks names opens page : List ℕ) →
    took_at r values marks names opens page ≡ f (parser_at h values marks names opens page)

-- the number of a sort of token
abbrev pub sorted : Sort → ℕ
sorted Keyword = 0
sorted Name = 1
sorted Number = 2
sorted Text = 3
sorted ArrayOpens = 4
sorted ArrayCloses = 5
sorted DictOpens = 6
sorted DictCloses = 7
