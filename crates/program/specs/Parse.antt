-- From tokens to the tree of a program, one token at a time. What FORMAT.md, Programs, calls bad nesting is the clauses that say `bad`: too deep, a pair without its
-- if or ifelse straight after it, an if or ifelse without its pairs straight before it, anything after the outer pair or in place of it.
use Rattle.std.specs.Prelude.{suc, ◌*◌, ◌/◌, ◌%◌, cond, List, [], ◌∷◌, ℤ, pos, negsuc, neg_ℤ, nat_abs, ltb, eqb, length}
use Rattle.std.specs.Int.Signed.{lt_z}
use Rattle.stack.specs.Programs.{Op, number, copy, index, roll, Code, done, act, when, either}
use Rattle.stack.specs.Operators.{signed_by}
use Rattle.symbols.specs.Tokens.{Token, opens, closes, if_t, ifelse_t, copy_t, index_t, roll_t, num_t, op_t, other}

-- a program and one part more
unfoldable pub joined : Code → Code → Code
joined done d = d
joined (act o c) d = act o (joined c d)
joined (when b c) d = when b (joined c d)
joined (either a b c) d = either a b (joined c d)

-- and one operator more
abbrev pub ended : Code → Op → Code
ended c o = joined c (act o done)

-- closed pairs that wait for their if or ifelse
pub data Pairs : Type 0 where
  no_pair : Pairs
  one_pair : Code → Pairs
  two_pairs : Code → Code → Pairs

-- numbers that may yet be counts: none, the last, the last two
pub data Held : Type 0 where
  nothing : Held
  last : ℤ → Held
  last_two : ℤ → ℤ → Held

-- one pair of braces that is open: what stood before it, the pairs that wait there, and the numbers held (none, where a pair waits)
pub data Level : Type 0 where
  level : Code → Pairs → Held → Level

-- how far a text is read: within these levels, the innermost apart; its outer pair is closed; nothing is read yet; or there is no program
pub data State : Type 0 where
  within : List Level → Level → State
  whole : Code → State
  start : State
  bad : State

-- the numbers held were no counts
abbrev pub flushed : Code → Held → Code
flushed c nothing = c
flushed c (last x) = ended c (number x)
flushed c (last_two x y) = ended (ended c (number x)) (number y)

-- a number more: the last two are held
abbrev pub held : Code → Held → ℤ → Level
held c nothing z = level c no_pair (last z)
held c (last x) z = level c no_pair (last_two x z)
held c (last_two x y) z = level (ended c (number x)) no_pair (last_two y z)

-- a number read as a count: a whole number, or one that is not whole
pub data Count : Type 0 where
  whole! : ℤ → Count
  broken : Count

-- numbers are millionths
unfoldable pub count_z : ℤ → Count
count_z z = cond (eqb (nat_abs z % 1000000) 0) (whole! (signed_by (lt_z z (pos 0)) (nat_abs z / 1000000))) broken

-- the number that a count is written as
abbrev pub millions : ℤ → ℤ
millions (pos n) = pos (n * 1000000)
millions (negsuc n) = neg_ℤ (pos (suc n * 1000000))

-- stands where a count is missing or not whole: no stack is high enough for it, so judging refuses it (17) wherever it stands
abbrev pub spoiled : Op
spoiled = copy (negsuc 0)

-- copy or index
abbrev pub counting : (ℤ → Op) → Count → Op
counting f (whole! n) = f n
counting f broken = spoiled

-- both must be whole
abbrev pub rolling : Count → Count → Op
rolling (whole! n) (whole! j) = roll n j
rolling (whole! n) broken = spoiled
rolling broken d = spoiled

-- copy and index with the last number
abbrev pub counted : (ℤ → Count) → (ℤ → Op) → Code → Held → Level
counted w f c nothing = level (ended c spoiled) no_pair nothing
counted w f c (last x) = level (ended c (counting f (w x))) no_pair nothing
counted w f c (last_two x y) = level (ended (ended c (number x)) (counting f (w y))) no_pair nothing

-- roll with the last two
abbrev pub rolled_by : (ℤ → Count) → Code → Held → Level
rolled_by w c nothing = level (ended c spoiled) no_pair nothing
rolled_by w c (last x) = level (ended c spoiled) no_pair nothing
rolled_by w c (last_two x y) = level (ended c (rolling (w x) (w y))) no_pair nothing

-- a `}`: the pair waits in the level outside; with none outside the program is whole
abbrev pub closed : List Level → Code → State
closed [] c = whole c
closed (level d no_pair h ∷ ls) c = within ls (level d (one_pair c) nothing)
closed (level d (one_pair a) h ∷ ls) c = within ls (level d (two_pairs a c) nothing)
closed (level d (two_pairs a b) h ∷ ls) c = bad

-- one token in a level; w makes a count of a number. Nesting is 8 with the outer pair, so 7 levels around this one are the most
unfoldable pub token_at : (ℤ → Count) → List Level → Level → Token → State
token_at w ls (level c no_pair h) opens = cond (ltb (length ls) 7) (within (level (flushed c h) no_pair nothing ∷ ls) (level done no_pair nothing)) bad
token_at w ls (level c no_pair h) closes = closed ls (flushed c h)
token_at w ls (level c no_pair h) if_t = bad
token_at w ls (level c no_pair h) ifelse_t = bad
token_at w ls (level c no_pair h) copy_t = within ls (counted w copy c h)
token_at w ls (level c no_pair h) index_t = within ls (counted w index c h)
token_at w ls (level c no_pair h) roll_t = within ls (rolled_by w c h)
token_at w ls (level c no_pair h) (num_t z) = within ls (held c h z)
token_at w ls (level c no_pair h) (op_t o) = within ls (level (ended (flushed c h) o) no_pair nothing)
token_at w ls (level c no_pair h) other = bad
token_at w ls (level c (one_pair a) h) opens = cond (ltb (length ls) 7) (within (level c (one_pair a) nothing ∷ ls) (level done no_pair nothing)) bad
token_at w ls (level c (one_pair a) h) closes = bad
token_at w ls (level c (one_pair a) h) if_t = within ls (level (joined c (when a done)) no_pair nothing)
token_at w ls (level c (one_pair a) h) ifelse_t = bad
token_at w ls (level c (one_pair a) h) copy_t = bad
token_at w ls (level c (one_pair a) h) index_t = bad
token_at w ls (level c (one_pair a) h) roll_t = bad
token_at w ls (level c (one_pair a) h) (num_t z) = bad
token_at w ls (level c (one_pair a) h) (op_t o) = bad
token_at w ls (level c (one_pair a) h) other = bad
token_at w ls (level c (two_pairs a b) h) opens = bad
token_at w ls (level c (two_pairs a b) h) closes = bad
token_at w ls (level c (two_pairs a b) h) if_t = bad
token_at w ls (level c (two_pairs a b) h) ifelse_t = within ls (level (joined c (either a b done)) no_pair nothing)
token_at w ls (level c (two_pairs a b) h) copy_t = bad
token_at w ls (level c (two_pairs a b) h) index_t = bad
token_at w ls (level c (two_pairs a b) h) roll_t = bad
token_at w ls (level c (two_pairs a b) h) (num_t z) = bad
token_at w ls (level c (two_pairs a b) h) (op_t o) = bad
token_at w ls (level c (two_pairs a b) h) other = bad

-- ---- a whole text

-- one token more; the first opens the program, and none follows its end
unfoldable pub token : (ℤ → Count) → State → Token → State
token w (within ls l) t = token_at w ls l t
token w (whole c) t = bad
token w start opens = within [] (level done no_pair nothing)
token w start closes = bad
token w start if_t = bad
token w start ifelse_t = bad
token w start copy_t = bad
token w start index_t = bad
token w start roll_t = bad
token w start (num_t z) = bad
token w start (op_t o) = bad
token w start other = bad
token w bad t = bad

-- all of them
unfoldable pub tokens : (ℤ → Count) → State → List Token → State
tokens w s [] = s
tokens w s (t ∷ ts) = tokens w (token w s t) ts

-- what a text is, once its tokens are read: `whole c` where it is a program, anything else is refusal 16
abbrev pub parsed : (ℤ → Count) → List Token → State
parsed w ts = tokens w start ts
