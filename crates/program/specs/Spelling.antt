-- How a program is written: what parsing gives back (proofs/Spelled).
use Rattle.std.specs.Prelude.{ℕ, zero, suc, List, [], ◌∷◌, ◌++◌, ℤ}
use Rattle.stack.specs.Programs.{Op, number, copy, index, roll, two, one, constant, pop, exch, dup, Code, done, act, when, either}
use Rattle.symbols.specs.Tokens.{Token, opens, closes, if_t, ifelse_t, copy_t, index_t, roll_t, num_t, op_t}

-- an operator; m n is the number that is written for the count n
abbrev pub op_tokens : (ℤ → ℤ) → Op → List Token
op_tokens m (number z) = num_t z ∷ []
op_tokens m (copy n) = num_t (m n) ∷ copy_t ∷ []
op_tokens m (index n) = num_t (m n) ∷ index_t ∷ []
op_tokens m (roll n j) = num_t (m n) ∷ num_t (m j) ∷ roll_t ∷ []
op_tokens m (two t) = op_t (two t) ∷ []
op_tokens m (one o) = op_t (one o) ∷ []
op_tokens m (constant b) = op_t (constant b) ∷ []
op_tokens m pop = op_t pop ∷ []
op_tokens m exch = op_t exch ∷ []
op_tokens m dup = op_t dup ∷ []

-- what stands between the outer braces
unfoldable pub spelled : (ℤ → ℤ) → Code → List Token
spelled m done = []
spelled m (act o c) = op_tokens m o ++ spelled m c
spelled m (when b c) = opens ∷ (spelled m b ++ (closes ∷ if_t ∷ spelled m c))
spelled m (either a b c) = opens ∷ (spelled m a ++ (closes ∷ opens ∷ (spelled m b ++ (closes ∷ ifelse_t ∷ spelled m c))))

-- the whole program
abbrev pub written : (ℤ → ℤ) → Code → List Token
written m c = opens ∷ (spelled m c ++ (closes ∷ []))

-- no more than n pairs of braces, one in the other
unfoldable pub Within : ℕ → Code → Type 0
Within n done = Unit {0}
Within n (act o c) = Within n c
Within zero (when b c) = ⊥
Within (suc n) (when b c) = Within n b × Within (suc n) c
Within zero (either a b c) = ⊥
Within (suc n) (either a b c) = Within n a × (Within n b × Within (suc n) c)
