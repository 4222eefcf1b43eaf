-- What the compiler keeps, in the code's own types.
use Rattle.std.specs.Prelude.{ℕ, ◌+◌, ◌*◌, ◌≤◌, List, ℤ, length, Option, None, Some}
use Rattle.stack.specs.Flat.{flat}
use Rattle.program.specs.Parse as P
use Rattle.program.specs.Words.{Mark, mark0, mark1, mark2, Words, going, ended!, begin, fails}
use Rattle.program.specs.Words as W
use Rattle.program.specs.Texts.{Read, program, unread}
use Rattle.program.specs.declared.state.Held.{Held}
use Rattle.program.specs.declared.state.Held.TheVariants as H
use Rattle.program.specs.declared.state.Waiting.{Waiting}
use Rattle.program.specs.declared.state.Waiting.TheVariants as V
use Rattle.program.specs.declared.state.State.{State}
use Rattle.program.specs.declared.state.State.TheVariants as S

-- the numbers held
abbrev pub held_by : Held → P.Held
held_by H.Nothing = P.nothing
held_by (H.One x) = P.last x
held_by (H.Two x y) = P.last_two x y

-- how many they are
abbrev pub count_of : Held → ℕ
count_of H.Nothing = 0
count_of (H.One x) = 1
count_of (H.Two x y) = 2

-- the pairs that wait
abbrev pub mark_by : Waiting → Mark
mark_by V.Nothing = mark0
mark_by (V.One f) = mark1 f
mark_by (V.Two f g) = mark2 f g

-- the state, with the words so far and the open pairs
abbrev pub keeps : State → List ℤ → List W.Outer → Words
keeps (S.Within w h) out os = going out (mark_by w) os (held_by h)
keeps S.Whole out os = ended! out
keeps S.Refused out os = fails

-- how many numbers are held in it
abbrev pub held_in : State → ℕ
held_in (S.Within w h) = count_of h
held_in S.Whole = 0
held_in S.Refused = 0

-- there is room for the words of one token more
abbrev pub Room : List ℤ → ℕ → Type 0
Room out c = length out + 2 * c + 2 ≤ 800

-- a token gives at most two words
abbrev pub Grown : State → List ℤ → List ℤ → ℕ → Type 0
Grown s new old c = length new + 2 * held_in s ≤ length old + 2 * c + 2

-- a count that is read: a whole number, or none
abbrev pub count_by : Option ℤ → P.Count
count_by (Some n) = P.whole! n
count_by None = P.broken

-- what is to become of a text: the words of its program, or refusal 16
pub data Wanted : Type 0 where
  words : List ℤ → Wanted
  sixteen : Wanted

abbrev pub wanted : Read → Wanted
wanted (program c) = words (flat c)
wanted unread = sixteen

-- the same of what the compiler keeps
abbrev pub wanted_w : Words → Wanted
wanted_w (going x mk os h) = sixteen
wanted_w (ended! x) = words x
wanted_w begin = sixteen
wanted_w fails = sixteen

-- what the compiler replies, and its words
abbrev pub built_by : Option (Unit {0}) → List ℤ → Wanted
built_by (Some u) out = words out
built_by None out = sixteen
