-- FORMAT.md, Designers' texts: a text as a fold over its bytes. What is done with a token is a parameter, `took`; so
-- the tokens of a text and what a reader makes of them are one definition, and a text in parts is one law of folds.
use Rattle.std.specs.Prelude.{ℕ, Bool, true, false, ◌&&◌, ◌||◌, not, cond, eqb, ltb, take, drop}
use mathlib.Core.List.{List, [], ◌∷◌, ◌++◌, foldl}
use Rattle.lexical.specs.Chars.{white, regular, line_end}
use Rattle.lexical.specs.Numbers.{none, with_figure}
use Rattle.lexer.specs.Moves.{more, ended, joined, last_move, is_gap}
use Rattle.lexer.specs.declared.types.Mode.{Mode}
use Rattle.lexer.specs.declared.types.Mode.TheVariants.{Gap, Comment, Regular, Name, Hash, HashDigit, Less, Greater, Hex, HexDigit, Text, Return, Escape, Octal, Octals}
use Rattle.lexical.specs.declared.types.Number.{Number}
use Rattle.lexer.specs.declared.types.Token.{Token}
use Rattle.lexer.specs.declared.types.Event.{Event}
use Rattle.lexer.specs.declared.types.Event.TheVariants.{Quiet, Byte, Figure, WellMade, Bad}
use Rattle.lexer.specs.declared.types.Move.{Move}
use Rattle.lexer.specs.declared.types.Met.{Met}
use Rattle.lexer.specs.declared.types.Met.TheVariants.{Nothing, Complete, Wrong, Past}
use Rattle.lexer.specs.declared.types.Lexer.{Lexer}
use Rattle.lexer.specs.declared.types.Found.{Found}

-- the most bytes that an entry of a space may have: a palette of 256 colours over DeviceCMYK
abbrev pub longest : ℕ
longest = 1024

-- a text has at most so many bytes
abbrev pub bound : ℕ
bound = 4294967295

-- the name or string that began last: how many bytes it has, and the first 1,024 of them
pub record Word : Type 0 where
  pub size : ℕ
  pub bytes : List ℕ

-- where the reading stands: in which mode, the number and the word so far, how many bytes were read, and where the last token began
pub record Scan : Type 0 where
  pub mode : Mode
  pub number : Number
  pub word : Word
  pub seen : ℕ
  pub first : ℕ

-- nothing read yet
unfoldable pub start : Scan
start = record { mode = Gap; number = none; word = record { size = 0; bytes = [] }; seen = 0; first = 0 }

abbrev pub grown : Word → ℕ → Word
grown w x = record { size = more w.size; bytes = cond (ltb w.size longest) (w.bytes ++ (x ∷ [])) w.bytes }

abbrev pub moved : Scan → Mode → Number → Word → Scan
moved s m n w = record { mode = m; number = n; word = w; seen = s.seen; first = s.first }

-- what a move does
unfoldable pub after : Scan → Mode → Event → Scan
after s m Quiet = moved s m s.number s.word
after s m (Byte x) = moved s m s.number (grown s.word x)
after s m (Figure b) = moved s m (with_figure s.number b) s.word
after s m (WellMade t) = moved s m s.number s.word
after s m Bad = moved s m s.number s.word

abbrev pub moved_by : Scan → Move → Scan
moved_by s v = after s v.mode v.event

-- and what it meets
abbrev pub met_by : Event → Met
met_by Quiet = Nothing
met_by (Byte x) = Nothing
met_by (Figure b) = Nothing
met_by (WellMade t) = Complete t
met_by Bad = Wrong

-- between tokens a byte may be the first of one; / ( and < begin a name or string
unfoldable pub begun_word : ℕ → Word → Word
begun_word b w = cond (eqb b 47 || (eqb b 40 || eqb b 60)) (record { size = 0; bytes = [] }) w

unfoldable pub placed : Scan → ℕ → Scan
placed s b =
    cond (is_gap s.mode)
    (record { mode = s.mode; number = none; word = begun_word b s.word; seen = s.seen; first = s.seen })
    s

abbrev pub counted : Scan → Scan
counted s = record { mode = s.mode; number = s.number; word = s.word; seen = more s.seen; first = s.first }

-- the two phases of a byte
abbrev pub ended_scan : Scan → ℕ → Scan
ended_scan s b = moved_by s (ended s.mode b)

abbrev pub ended_met : Scan → ℕ → Met
ended_met s b = met_by (ended s.mode b).event

abbrev pub joined_scan : Scan → ℕ → Scan
joined_scan s b = counted (moved_by (placed s b) (joined s.mode b))

abbrev pub joined_met : Scan → ℕ → Met
joined_met s b = met_by (joined s.mode b).event

-- and the end of the text
abbrev pub last_scan : Scan → Scan
last_scan s = moved_by s (last_move s.mode)

abbrev pub last_met : Scan → Met
last_met s = met_by (last_move s.mode).event

-- ---- a text, with what is made of its tokens

-- what a token comes to: something is made of it, or it is refused with a number
pub data Taken (A : Type 0) : Type 0 where
  takes : A → Taken A
  refuses : ℕ → Taken A

-- a text is read on, or it is refused with a number at a byte
pub data Progress (A : Type 0) : Type 0 where
  going : Scan → A → Progress A
  stopped : ℕ → ℕ → Progress A

-- a token is refused at its first byte
unfoldable pub taken : {A : Type 0} → Scan → Taken A → Progress A
taken s (takes a) = going s a
taken s (refuses n) = stopped n s.first

-- bad syntax is 12 at the first byte of its token; the first byte past 4,294,967,295 bytes is 12 at that byte
unfoldable pub handed : {A : Type 0} → (A → Scan → Token → Taken A) → A → Scan → Met → Progress A
handed took a s Nothing = going s a
handed took a s (Complete t) = taken s (took a s t)
handed took a s Wrong = stopped 12 s.first
handed took a s Past = stopped 12 s.seen

-- the byte b, once what it ended has been handed on
unfoldable pub joins : {A : Type 0} → (A → Scan → Token → Taken A) → ℕ → Progress A → Progress A
joins took b (going s a) = handed took a (joined_scan s b) (joined_met s b)
joins took b (stopped n at) = stopped n at

-- one byte: nothing after a refusal
unfoldable pub step_of : {A : Type 0} → (A → Scan → Token → Taken A) → Progress A → ℕ → Progress A
step_of took (going s a) b =
    cond (ltb s.seen bound) (joins took b (handed took a (ended_scan s b) (ended_met s b))) (stopped 12 s.seen)
step_of took (stopped n at) b = stopped n at

-- a part of the text
unfoldable pub fed : {A : Type 0} → (A → Scan → Token → Taken A) → Progress A → List ℕ → Progress A
fed took p l = foldl (step_of took) p l

-- the parts of a text, one after the other
unfoldable pub whole_of : List (List ℕ) → List ℕ
whole_of [] = []
whole_of (p ∷ ps) = p ++ whole_of ps

-- the end of the text
unfoldable pub finished : {A : Type 0} → (A → Scan → Token → Taken A) → Progress A → Progress A
finished took (going s a) = handed took a (last_scan s) (last_met s)
finished took (stopped n at) = stopped n at

-- ---- the tokens of a text, each with its first byte, and the number or word that was read last, its own where it has one

pub record Lexeme : Type 0 where
  pub at : ℕ
  pub token : Token
  pub number : Number
  pub word : Word

abbrev pub lexeme : Scan → Token → Lexeme
lexeme s t = record { at = s.first; token = t; number = s.number; word = s.word }

abbrev pub listed : List Lexeme → Scan → Token → Taken (List Lexeme)
listed ts s t = takes (ts ++ (lexeme s t ∷ []))

unfoldable pub tokens_of : List ℕ → Progress (List Lexeme)
tokens_of l = finished listed (fed listed (going start []) l)

-- ---- reading on to the next token

pub record Finding : Type 0 where
  pub scan : Scan
  pub met : Met
  pub rest : List ℕ

abbrev pub finding : Scan → Met → List ℕ → Finding
finding s m l = record { scan = s; met = m; rest = l }

abbrev pub is_nothing : Met → Bool
is_nothing Nothing = true
is_nothing (Complete t) = false
is_nothing Wrong = false
is_nothing Past = false

-- the first thing that is met in a part of the text, and what is left of it: the byte that ends a token without being a part of it is left
unfoldable pub found : Scan → List ℕ → Finding
found s [] = finding s Nothing []
found s (b ∷ l) =
    cond (ltb s.seen bound)
    (cond (is_nothing (ended_met s b))
    (cond (is_nothing (joined_met (ended_scan s b) b))
    (found (joined_scan (ended_scan s b) b) l)
    (finding (joined_scan (ended_scan s b) b) (joined_met (ended_scan s b) b) l))
    (finding (ended_scan s b) (ended_met s b) (b ∷ l)))
    (finding s Past (b ∷ l))

-- ---- bytes that meet nothing and leave the mode as it is, as most bytes do

-- white space between tokens; of a comment, a number, a keyword, a name or a literal string, what only makes it longer
unfoldable pub is_plain : Mode → ℕ → Bool
is_plain Gap b = white b
is_plain Comment b = not (line_end b)
is_plain Regular b = regular b
is_plain Name b = regular b && not (eqb b 35)
is_plain Hash b = false
is_plain (HashDigit d) b = false
is_plain Less b = false
is_plain Greater b = false
is_plain Hex b = false
is_plain (HexDigit d) b = false
is_plain (Text d) b = not (eqb b 40 || (eqb b 41 || (eqb b 92 || eqb b 13)))
is_plain (Return d) b = false
is_plain (Escape d) b = false
is_plain (Octal d v) b = false
is_plain (Octals d v) b = false

-- a number or keyword is open
abbrev pub is_regular : Mode → Bool
is_regular Gap = false
is_regular Comment = false
is_regular Regular = true
is_regular Name = false
is_regular Hash = false
is_regular (HashDigit d) = false
is_regular Less = false
is_regular Greater = false
is_regular Hex = false
is_regular (HexDigit d) = false
is_regular (Text d) = false
is_regular (Return d) = false
is_regular (Escape d) = false
is_regular (Octal d v) = false
is_regular (Octals d v) = false

-- a name or a literal string is, and so between two of its escapes
abbrev pub is_spelled : Mode → Bool
is_spelled Gap = false
is_spelled Comment = false
is_spelled Regular = false
is_spelled Name = true
is_spelled Hash = false
is_spelled (HashDigit d) = false
is_spelled Less = false
is_spelled Greater = false
is_spelled Hex = false
is_spelled (HexDigit d) = false
is_spelled (Text d) = true
is_spelled (Return d) = false
is_spelled (Escape d) = false
is_spelled (Octal d v) = false
is_spelled (Octals d v) = false

-- what such a byte does
unfoldable pub plain_scan : Scan → ℕ → Scan
plain_scan s b =
    cond (is_gap s.mode) (record { mode = s.mode; number = none; word = s.word; seen = more s.seen; first = s.seen })
    (cond (is_regular s.mode)
    (record { mode = s.mode; number = with_figure s.number b; word = s.word; seen = more s.seen; first = s.first })
    (cond (is_spelled s.mode)
    (record { mode = s.mode; number = s.number; word = grown s.word b; seen = more s.seen; first = s.first })
    (record { mode = s.mode; number = s.number; word = s.word; seen = more s.seen; first = s.first })))

-- ---- what is kept of it in memory: a struct, and a lent list of 1,024 bytes. Every such memory is a place to read on from.

abbrev pub scan_at : Lexer → List ℕ → Scan
scan_at l word =
    record { mode = l.mode; number = l.number; word = record { size = l.size; bytes = take l.size word }; seen = l.seen; first = l.first }

-- between two pairs of digits of a hexadecimal string
abbrev pub hex_scan : Number → ℕ → ℕ → ℕ → List ℕ → Scan
hex_scan n size seen first word =
    record { mode = Hex; number = n; word = record { size = size; bytes = take size word }; seen = seen; first = first }

abbrev pub found_at : Found → List ℕ → List ℕ → Finding
found_at r word text = finding (scan_at r.lexer word) r.met (drop r.at text)
