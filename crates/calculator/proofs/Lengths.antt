-- A token gives at most two words of the flat form, and the outer pair none.
use mathlib.Core.Path.{◌≡◌, refl, subst}
use mathlib.Core.Bool.{Bool, true, false, cond}
use mathlib.Core.List.{List, [], ◌∷◌, ◌++◌}
use Prim.Native.Nat.{ℕ, suc, ◌+◌, ◌*◌, ◌≤◌}
use native.Mathlib.Omega.{arith}
use borrow.Author.Tests.{leb-true}
use lib.IntN.{ℤ, pos}
use lib.Dec.{ltb, leb, eqb}
use lib.ListN.{length, length-append, length-set}
use Rattle.lexical.specs.Chars.{white, regular, line_end}
use Rattle.lexical.specs.Numbers.{numeric, number_of, fits}
use Rattle.stack.specs.Programs.{Op, number, copy, index}
use Rattle.stack.specs.Flat.{plain_by, words_of}
use Rattle.symbols.specs.Tokens.{Token, opens, closes, if_t, ifelse_t, copy_t, index_t, roll_t, num_t, op_t, other, token_by, named, word_token, brace_token, between, Mode, gap, comment, run, lexed, tokens_of}
use Rattle.program.specs.Parse.{Held, nothing, last, last_two, State, within, whole, start, bad, Count, whole!, broken, count_z, spoiled, counting, rolling, tokens, parsed}
use Rattle.program.specs.Words.{Mark, mark0, mark1, mark2, Outer, first, second, neither, Words, going, ended!, begin, fails, flush_w, held_w, counted_w, rolled_w, closed_w, token_w, kept_of, token_k, tokens_k}
use Rattle.fixed.specs.Sizes.{most_tokens, most_flat}
use Rattle.program.specs.Texts.{unread, read_by, read_tokens, read_of}
use Rattle.program.proofs.Compiled.{compiled}
use Rattle.calculator.specs.Calculator.{words_by}

-- ---- the operators of a text are one word each

-- a token of a text
abbrev Lone : Token → Type 0
Lone opens = Unit {0}
Lone closes = Unit {0}
Lone if_t = Unit {0}
Lone ifelse_t = Unit {0}
Lone copy_t = Unit {0}
Lone index_t = Unit {0}
Lone roll_t = Unit {0}
Lone (num_t z) = Unit {0}
Lone (op_t o) = length (words_of o) ≡ 1
Lone other = Unit {0}

lone-cond : (b : Bool) (t u : Token) → Lone t → Lone u → Lone (cond b t u)
lone-cond true t u p q = p
lone-cond false t u p q = q

words-cond : (b : Bool) (o p : Op) → length (words_of o) ≡ 1 → length (words_of p) ≡ 1 → length (words_of (cond b o p)) ≡ 1
words-cond true o p x y = x
words-cond false o p x y = y

plain-one : (w : ℕ) → length (words_of (plain_by w)) ≡ 1
unfolding plain_by
plain-one w =
    words-cond (ltb w 18) _ _ refl
    (words-cond (ltb w 21) _ _ refl (words-cond (ltb w 23) _ _ refl (words-cond (eqb w 23) _ _ refl (words-cond (eqb w 24) _ _ refl refl))))

by-lone : (t : ℕ) (z : ℤ) → Lone (token_by t z)
unfolding token_by
by-lone t z =
    lone-cond (eqb t 26) _ _ tt
    (lone-cond (eqb t 27) _ _ tt
    (lone-cond (eqb t 5) _ _ tt
    (lone-cond (eqb t 6) _ _ tt
    (lone-cond (eqb t 1) _ _ tt
    (lone-cond (eqb t 2) _ _ tt
    (lone-cond (eqb t 3) _ _ tt (lone-cond (eqb t 4) _ _ tt (lone-cond (ltb t 7) _ _ tt (lone-cond (ltb 25 t) _ _ tt (plain-one t))))))))))

word-lone : (w : List ℕ) → Lone (word_token w)
unfolding word_token
word-lone w = lone-cond (numeric (number_of w).part) _ _ (lone-cond (fits (number_of w)) _ _ tt tt) (by-lone (named w) (pos 0))

brace-lone : (b : ℕ) → Lone (brace_token b)
unfolding brace_token
brace-lone b = lone-cond (eqb b 123) _ _ tt (lone-cond (eqb b 125) _ _ tt tt)

abbrev Lones : List Token → Type 0
Lones [] = Unit {0}
Lones (t ∷ ts) = Lone t × Lones ts

lones-cond : (b : Bool) (ts us : List Token) → Lones ts → Lones us → Lones (cond b ts us)
lones-cond true ts us p q = p
lones-cond false ts us p q = q

between-lone : (b : ℕ) (ts us : List Token) → Lones ts → Lones us → Lones (between b ts us)
between-lone b ts us p q = lones-cond (white b) _ _ p (lones-cond (eqb b 37) _ _ q (brace-lone b, p))

lexed-lone : (m : Mode) (l : List ℕ) → Lones (lexed m l)
unfolding lexed
lexed-lone gap [] = tt
lexed-lone comment [] = tt
lexed-lone (run w) [] = (word-lone w, tt)
lexed-lone gap (b ∷ l) = lones-cond (regular b) _ _ (lexed-lone (run (b ∷ [])) l) (between-lone b _ _ (lexed-lone gap l) (lexed-lone comment l))
lexed-lone comment (b ∷ l) = lones-cond (line_end b) _ _ (lexed-lone gap l) (lexed-lone comment l)
lexed-lone (run w) (b ∷ l) = lones-cond (regular b) _ _ (lexed-lone (run (w ++ (b ∷ []))) l) (word-lone w, between-lone b _ _ (lexed-lone gap l) (lexed-lone comment l))

-- ---- one token

abbrev held_count : Held → ℕ
held_count nothing = 0
held_count (last x) = 1
held_count (last_two x y) = 2

-- n tokens after the first brace: a number that is held will be two words
abbrev Short : ℕ → Words → Type 0
Short n (going x mk os h) = length x + 2 * held_count h ≤ 2 * n
Short n (ended! x) = length x + 2 ≤ 2 * n
Short n begin = ⊥
Short n fails = Unit {0}

short-cond : (n : ℕ) (b : Bool) (k : Words) → Short n k → Short n (cond b k fails)
short-cond n true k s = s
short-cond n false k s = tt

flush-length : (x : List ℤ) (h : Held) → length (flush_w x h) ≡ length x + 2 * held_count h
flush-length x nothing = omega arith
flush-length x (last a) = length-append x _
flush-length x (last_two a b) = let e = length-append (x ++ words_of (number a)) (words_of (number b)) in let f = length-append x (words_of (number a)) in omega arith

closed-short : (n : ℕ) (os : List Outer) (x : List ℤ) → length x ≤ 2 * n → Short (suc n) (closed_w os x)
closed-short n [] x s = omega arith
closed-short n (first f ∷ os) x s = omega arith
closed-short n (second f g ∷ os) x s = omega arith
closed-short n (neither ∷ os) x s = tt

counting-length : (f : ℤ → Op) → ((n : ℤ) → length (words_of (f n)) ≡ 2) → (k : Count) → length (words_of (counting f k)) ≡ 2
counting-length f e (whole! n) = e n
counting-length f e broken = refl

rolling-length : (j k : Count) → length (words_of (rolling j k)) ≤ 3
rolling-length (whole! n) (whole! j) = omega arith
rolling-length (whole! n) broken = omega arith
rolling-length broken k = omega arith

module _ (w : ℤ → Count) (n : ℕ) where
  counted-short : (f : ℤ → Op) → ((k : ℤ) → length (words_of (f k)) ≡ 2) → (x : List ℤ) (h : Held) → length x + 2 * held_count h ≤ 2 * n → length (counted_w w f x h) + 0 ≤ 2 * suc n
  counted-short f e x nothing s = omega (arith, length-append x (words_of spoiled))
  counted-short f e x (last a) s = omega (arith, length-append x (words_of (counting f (w a))), counting-length f e (w a))
  counted-short f e x (last_two a b) s =
      omega (arith, length-append (x ++ words_of (number a)) (words_of (counting f (w b))), length-append x (words_of (number a)), counting-length f e (w b))

  rolled-short : (x : List ℤ) (h : Held) → length x + 2 * held_count h ≤ 2 * n → length (rolled_w w x h) + 0 ≤ 2 * suc n
  rolled-short x nothing s = omega (arith, length-append x (words_of spoiled))
  rolled-short x (last a) s = omega (arith, length-append x (words_of spoiled))
  rolled-short x (last_two a b) s = omega (arith, length-append x (words_of (rolling (w a) (w b))), rolling-length (w a) (w b))

  held-short : (x : List ℤ) (h : Held) (z : ℤ) (os : List Outer) → length x + 2 * held_count h ≤ 2 * n → Short (suc n) (held_w x h z os)
  held-short x nothing z os s = omega arith
  held-short x (last a) z os s = omega arith
  held-short x (last_two a b) z os s = omega (arith, length-append x (words_of (number a)))

  token-short : (x : List ℤ) (mk : Mark) (os : List Outer) (h : Held) (t : Token) → Lone t → length x + 2 * held_count h ≤ 2 * n → Short (suc n) (token_w w x mk os h t)
  unfolding token_w
  token-short x mark0 os h opens l s = short-cond (suc n) (ltb (length os) 7) _ (omega (arith, length-append (flush_w x h) (pos 5 ∷ pos 0 ∷ []), flush-length x h))
  token-short x mark0 os h closes l s = closed-short n os (flush_w x h) (omega (arith, flush-length x h))
  token-short x mark0 os h if_t l s = tt
  token-short x mark0 os h ifelse_t l s = tt
  token-short x mark0 os h copy_t l s = counted-short copy (λ k. refl) x h s
  token-short x mark0 os h index_t l s = counted-short index (λ k. refl) x h s
  token-short x mark0 os h roll_t l s = rolled-short x h s
  token-short x mark0 os h (num_t z) l s = held-short x h z os s
  token-short x mark0 os h (op_t o) l s = omega (arith, length-append (flush_w x h) (words_of o), flush-length x h, l)
  token-short x mark0 os h other l s = tt
  token-short x (mark1 f) os h opens l s = short-cond (suc n) (ltb (length os) 7) _ (omega (arith, length-append x (pos 6 ∷ pos 0 ∷ [])))
  token-short x (mark1 f) os h closes l s = tt
  token-short x (mark1 f) os h if_t l s = rw length-set (omega arith)
  token-short x (mark1 f) os h ifelse_t l s = tt
  token-short x (mark1 f) os h copy_t l s = tt
  token-short x (mark1 f) os h index_t l s = tt
  token-short x (mark1 f) os h roll_t l s = tt
  token-short x (mark1 f) os h (num_t z) l s = tt
  token-short x (mark1 f) os h (op_t o) l s = tt
  token-short x (mark1 f) os h other l s = tt
  token-short x (mark2 f g) os h opens l s = tt
  token-short x (mark2 f g) os h closes l s = tt
  token-short x (mark2 f g) os h if_t l s = tt
  token-short x (mark2 f g) os h ifelse_t l s = simp length-set (omega arith)
  token-short x (mark2 f g) os h copy_t l s = tt
  token-short x (mark2 f g) os h index_t l s = tt
  token-short x (mark2 f g) os h roll_t l s = tt
  token-short x (mark2 f g) os h (num_t z) l s = tt
  token-short x (mark2 f g) os h (op_t o) l s = tt
  token-short x (mark2 f g) os h other l s = tt

-- ---- all tokens

step-short : (w : ℤ → Count) (n : ℕ) (k : Words) (t : Token) → Lone t → Short n k → Short (suc n) (token_k w k t)
unfolding token_k
step-short w n (going x mk os h) t l s = token-short w n x mk os h t l s
step-short w n (ended! x) t l s = tt
step-short w n begin t l s = absurd s
step-short w n fails t l s = tt

all_short : (w : ℤ → Count) (n : ℕ) (k : Words) (ts : List Token) → Lones ts → Short n k → Short (n + length ts) (tokens_k w k ts)
unfolding tokens_k
all_short w n k [] l s = let e : n ≡ n + 0 = omega arith in rw e at s
all_short w n k (t ∷ ts) l s =
    let e : suc n + length ts ≡ n + suc (length ts) = omega arith in
    rw e at (all_short w (suc n) (token_k w k t) ts l.1 (step-short w n k t l.0 s))

-- the first token is the outer brace, or there is no program
first_short : (w : ℤ → Count) (t : Token) → Short 0 (token_k w begin t)
unfolding token_k
first_short w opens = omega arith
first_short w closes = tt
first_short w if_t = tt
first_short w ifelse_t = tt
first_short w copy_t = tt
first_short w index_t = tt
first_short w roll_t = tt
first_short w (num_t z) = tt
first_short w (op_t o) = tt
first_short w other = tt

-- ---- a text

read_short : (n : ℕ) (s : State) → Short n (kept_of s) → n ≤ 399 → length (words_by (read_by s)) ≤ most_flat
unfolding kept_of
read_short n (within ls l) h le = omega arith
read_short n (whole c) h le = omega arith
read_short n start h le = omega arith
read_short n bad h le = omega arith

none-few : length (words_by (read_by (parsed count_z []))) ≤ most_flat
unfolding tokens
none-few = omega arith

tokens-few : (ts : List Token) → Lones ts → length ts ≤ most_tokens → length (words_by (read_by (parsed count_z ts))) ≤ most_flat
unfolding tokens_k
tokens-few [] l le = none-few
tokens-few (t ∷ ts) l le =
    let s : Short (0 + length ts) (tokens_k count_z (token_k count_z begin t) ts) = all_short count_z 0 (token_k count_z begin t) ts l.1 (first_short count_z t) in
    read_short (0 + length ts) (parsed count_z (t ∷ ts)) (subst (λ (k : Words). Short (0 + length ts) k) (compiled count_z (t ∷ ts)) s) (omega arith)

pub words-few : (l : List ℕ) → length (words_by (read_of l)) ≤ most_flat
unfolding read_tokens
words-few l = by (leb (length (tokens_of l)) most_tokens) refl
  where
    by : (b : Bool) → leb (length (tokens_of l)) most_tokens ≡ b → length (words_by (cond b (read_by (parsed count_z (tokens_of l))) unread)) ≤ most_flat
    by true e = tokens-few (tokens_of l) (lexed-lone gap _) (leb-true (length (tokens_of l)) most_tokens e)
    by false e = omega arith
