-- The compiler's own view of a text that is read so far: the words of the flat form, with 0 for a jump that is not known yet, and where those jumps stand.
use Rattle.std.specs.Prelude.{ℕ, ◌+◌, ◌-◌, cond, List, [], ◌∷◌, ◌++◌, ℤ, pos, ltb, length, set}
use Rattle.stack.specs.Programs.{Op, number, copy, index}
use Rattle.stack.specs.Flat.{words_of, flat}
use Rattle.symbols.specs.Tokens.{Token, opens, closes, if_t, ifelse_t, copy_t, index_t, roll_t, num_t, op_t, other}
use Rattle.program.specs.Parse.{Pairs, no_pair, one_pair, two_pairs, Held, nothing, last, last_two, Level, level, State, within, whole, start, bad, Count, spoiled, counting, rolling}

-- the words of the pairs that wait
abbrev pub waiting : Pairs → List ℤ
waiting no_pair = []
waiting (one_pair a) = pos 5 ∷ pos 0 ∷ flat a
waiting (two_pairs a b) = pos 5 ∷ pos 0 ∷ (flat a ++ (pos 6 ∷ pos 0 ∷ flat b))

-- the jump before an open pair: the first of two, or the second
abbrev pub opening : Pairs → List ℤ
opening no_pair = pos 5 ∷ pos 0 ∷ []
opening (one_pair a) = pos 6 ∷ pos 0 ∷ []
opening (two_pairs a b) = []

-- the words of a level
abbrev pub level_words : Level → List ℤ
level_words (level c p h) = flat c ++ waiting p

-- its pairs that wait
abbrev pub pairs_of : Level → Pairs
pairs_of (level c p h) = p

-- the words of the levels outside
unfoldable pub outer_words : List Level → List ℤ
outer_words [] = []
outer_words (l ∷ ls) = outer_words ls ++ (level_words l ++ opening (pairs_of l))

-- all words so far
abbrev pub state_words : List Level → Level → List ℤ
state_words ls l = outer_words ls ++ level_words l

-- ---- the same with words alone: what the compiler keeps

-- the pairs that wait, and where the jumps before them stand
pub data Mark : Type 0 where
  mark0 : Mark
  mark1 : ℕ → Mark
  mark2 : ℕ → ℕ → Mark

-- an open pair: where its jump stands; it is the first, or the second after one that begins at f
pub data Outer : Type 0 where
  first : ℕ → Outer
  second : ℕ → ℕ → Outer
  neither : Outer

-- how far the compiler is: words, the pairs that wait, the open pairs, the numbers held
pub data Words : Type 0 where
  going : List ℤ → Mark → List Outer → Held → Words
  ended! : List ℤ → Words
  begin : Words
  fails : Words

-- the numbers held were no counts
abbrev pub flush_w : List ℤ → Held → List ℤ
flush_w x nothing = x
flush_w x (last a) = x ++ words_of (number a)
flush_w x (last_two a b) = (x ++ words_of (number a)) ++ words_of (number b)

-- a number more
abbrev pub held_w : List ℤ → Held → ℤ → List Outer → Words
held_w x nothing z os = going x mark0 os (last z)
held_w x (last a) z os = going x mark0 os (last_two a z)
held_w x (last_two a b) z os = going (x ++ words_of (number a)) mark0 os (last_two b z)

-- copy or index
abbrev pub counted_w : (ℤ → Count) → (ℤ → Op) → List ℤ → Held → List ℤ
counted_w w f x nothing = x ++ words_of spoiled
counted_w w f x (last a) = x ++ words_of (counting f (w a))
counted_w w f x (last_two a b) = (x ++ words_of (number a)) ++ words_of (counting f (w b))

-- roll
abbrev pub rolled_w : (ℤ → Count) → List ℤ → Held → List ℤ
rolled_w w x nothing = x ++ words_of spoiled
rolled_w w x (last a) = x ++ words_of spoiled
rolled_w w x (last_two a b) = x ++ words_of (rolling (w a) (w b))

-- a `}`
abbrev pub closed_w : List Outer → List ℤ → Words
closed_w [] x = ended! x
closed_w (first f ∷ os) x = going x (mark1 f) os nothing
closed_w (second f g ∷ os) x = going x (mark2 f g) os nothing
closed_w (neither ∷ os) x = fails

-- one token: as Parse.token_at
unfoldable pub token_w : (ℤ → Count) → List ℤ → Mark → List Outer → Held → Token → Words
token_w w x mark0 os h opens = cond (ltb (length os) 7) (going (flush_w x h ++ (pos 5 ∷ pos 0 ∷ [])) mark0 (first (length (flush_w x h)) ∷ os) nothing) fails
token_w w x mark0 os h closes = closed_w os (flush_w x h)
token_w w x mark0 os h if_t = fails
token_w w x mark0 os h ifelse_t = fails
token_w w x mark0 os h copy_t = going (counted_w w copy x h) mark0 os nothing
token_w w x mark0 os h index_t = going (counted_w w index x h) mark0 os nothing
token_w w x mark0 os h roll_t = going (rolled_w w x h) mark0 os nothing
token_w w x mark0 os h (num_t z) = held_w x h z os
token_w w x mark0 os h (op_t o) = going (flush_w x h ++ words_of o) mark0 os nothing
token_w w x mark0 os h other = fails
token_w w x (mark1 f) os h opens = cond (ltb (length os) 7) (going (x ++ (pos 6 ∷ pos 0 ∷ [])) mark0 (second f (length x) ∷ os) nothing) fails
token_w w x (mark1 f) os h closes = fails
token_w w x (mark1 f) os h if_t = going (set x (f + 1) (pos (length x - (f + 2)))) mark0 os nothing
token_w w x (mark1 f) os h ifelse_t = fails
token_w w x (mark1 f) os h copy_t = fails
token_w w x (mark1 f) os h index_t = fails
token_w w x (mark1 f) os h roll_t = fails
token_w w x (mark1 f) os h (num_t z) = fails
token_w w x (mark1 f) os h (op_t o) = fails
token_w w x (mark1 f) os h other = fails
token_w w x (mark2 f g) os h opens = fails
token_w w x (mark2 f g) os h closes = fails
token_w w x (mark2 f g) os h if_t = fails
token_w w x (mark2 f g) os h ifelse_t = going (set (set x (f + 1) (pos (g - f))) (g + 1) (pos (length x - (g + 2)))) mark0 os nothing
token_w w x (mark2 f g) os h copy_t = fails
token_w w x (mark2 f g) os h index_t = fails
token_w w x (mark2 f g) os h roll_t = fails
token_w w x (mark2 f g) os h (num_t z) = fails
token_w w x (mark2 f g) os h (op_t o) = fails
token_w w x (mark2 f g) os h other = fails

-- what the compiler keeps of pairs that wait
abbrev pub mark_of : ℕ → Pairs → Mark
mark_of f no_pair = mark0
mark_of f (one_pair a) = mark1 f
mark_of f (two_pairs a b) = mark2 f (f + (2 + length (flat a)))

-- and of an open pair
abbrev pub outer_of : ℕ → Pairs → Outer
outer_of f no_pair = first f
outer_of f (one_pair a) = second f (f + (2 + length (flat a)))
outer_of f (two_pairs a b) = neither

-- and of all open pairs
unfoldable pub outers_of : List Level → List Outer
outers_of [] = []
outers_of (level c p h ∷ ls) = outer_of (length (outer_words ls ++ flat c)) p ∷ outers_of ls

-- and of the whole state
unfoldable pub kept_of : State → Words
kept_of (within ls (level c p h)) = going (state_words ls (level c p h)) (mark_of (length (outer_words ls ++ flat c)) p) (outers_of ls) h
kept_of (whole c) = ended! (flat c)
kept_of start = begin
kept_of bad = fails

-- one token more; the first opens the program
unfoldable pub token_k : (ℤ → Count) → Words → Token → Words
token_k w (going x mk os h) t = token_w w x mk os h t
token_k w (ended! x) t = fails
token_k w begin opens = going [] mark0 [] nothing
token_k w begin closes = fails
token_k w begin if_t = fails
token_k w begin ifelse_t = fails
token_k w begin copy_t = fails
token_k w begin index_t = fails
token_k w begin roll_t = fails
token_k w begin (num_t z) = fails
token_k w begin (op_t o) = fails
token_k w begin other = fails
token_k w fails t = fails

-- all tokens
unfoldable pub tokens_k : (ℤ → Count) → Words → List Token → Words
tokens_k w k [] = k
tokens_k w k (t ∷ ts) = tokens_k w (token_k w k t) ts
