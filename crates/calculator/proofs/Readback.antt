-- A text that is written token by token is read back as its tokens, and so a program as its tree.
use mathlib.Core.Path.{◌≡◌, refl, sym, ap, ◌∙◌}
use mathlib.Core.Bool.{Bool, true, false, cond, ◌&&◌, true≢false}
use mathlib.Core.List.{List, [], ◌∷◌, ◌++◌, append_assoc, append-nil}
use Prim.Native.Nat.{ℕ, zero, suc, ◌+◌, ◌/◌, ◌%◌, ◌≤◌, ◌<◌}
use native.Mathlib.Omega.{arith}
use borrow.Author.Tests.{le-leb, eqb-true}
use lib.IntN.{ℤ, pos, negsuc}
use lib.Dec.{T, eqb}
use lib.ListN.{length}
use Rattle.lexical.specs.Names.{same}
use Rattle.fixed.proofs.Decide.{and_left, and_right}
use Rattle.lexical.specs.Chars.{white, delimiter, regular}
use Rattle.lexical.specs.Numbers.{with_other, with_figure, after_other, number_of}
use Rattle.calculator.proofs.Tables.{at}
use Rattle.stack.specs.Programs.{add, sub, mul, equal, unequal, above, at_least, below, at_most, both, any, Two, sum, test, join, neg, abs, nay, Op, number, copy, index, roll, two, one, constant, pop, exch, dup, Code, done, act, when, either}
use Rattle.stack.specs.Flat.{plain_by, two_by, one_by}
use Rattle.symbols.specs.Tokens.{Token, opens, closes, if_t, ifelse_t, copy_t, index_t, roll_t, num_t, op_t, token_by, named, sum_named, test_named, truth_named, stack_named, word_token, brace_token, between, gap, comment, run, lexed, before_zero, tokens_of}
use Rattle.program.specs.Parse.{count_z, millions, parsed}
use Rattle.program.specs.Spelling.{op_tokens, spelled, written, Within}
use Rattle.fixed.specs.Sizes.{most_tokens}
use Rattle.program.specs.Texts.{program, unread, read_by, read_tokens, read_of}
use Rattle.program.proofs.Whole.{read-written}
use Rattle.calculator.specs.Written.{digits, figures, number_text, op_name, token_text, spaced, program_text, Narrow, Writable, Carried}
use Rattle.calculator.proofs.Digits.{number-token}

-- ---- runs of regular characters

all_regular : List ℕ → Bool
all_regular [] = true
all_regular (b ∷ l) = regular b && all_regular l

both-regular : (x y : List ℕ) → all_regular x ≡ true → all_regular y ≡ true → all_regular (x ++ y) ≡ true
unfolding all_regular
both-regular [] y e f = f
both-regular (b ∷ x) y e f = λ i. and_left (regular b) (all_regular x) e i && both-regular x y (and_right (regular b) (all_regular x) e) f i

is-true : (b : Bool) → T b → b ≡ true
is-true true t = refl
is-true false t = absurd t

digit-regular : (d : ℕ) → d < 10 → regular (48 + d) ≡ true
unfolding regular white delimiter
digit-regular d h = is-true (regular (48 + d)) (at (λ k x. regular (48 + k)) (0 ∷ 0 ∷ 0 ∷ 0 ∷ 0 ∷ 0 ∷ 0 ∷ 0 ∷ 0 ∷ 0 ∷ []) tt d h)

one-regular : (b : ℕ) → regular b ≡ true → all_regular (b ∷ []) ≡ true
unfolding all_regular
one-regular b e = λ i. e i && true

digits-regular : (k n : ℕ) → all_regular (digits k n) ≡ true
unfolding digits all_regular
digits-regular zero n = refl
digits-regular (suc k) n = both-regular (digits k (n / 10)) ((48 + n % 10) ∷ []) (digits-regular k (n / 10)) (one-regular (48 + n % 10) (digit-regular (n % 10) (omega arith)))

figures-regular : (n : ℕ) → all_regular (figures n) ≡ true
unfolding all_regular regular white delimiter
figures-regular n = both-regular (digits 4 (n / 1000000)) (46 ∷ digits 6 n) (digits-regular 4 (n / 1000000)) (digits-regular 6 n)

number-regular : (z : ℤ) → all_regular (number_text z) ≡ true
unfolding all_regular regular white delimiter
number-regular (pos n) = figures-regular n
number-regular (negsuc n) = figures-regular (suc n)

-- ---- a word and the space after it

run-read : (w u l : List ℕ) → all_regular w ≡ true → lexed (run u) (w ++ (32 ∷ l)) ≡ word_token (u ++ w) ∷ lexed gap l
unfolding all_regular lexed regular white delimiter
run-read [] u l e = ap (λ (x : List ℕ). word_token x ∷ lexed gap l) (sym (append-nil u))
run-read (b ∷ w) u l e =
    (λ i. cond (and_left (regular b) (all_regular w) e i) (lexed (run (u ++ (b ∷ []))) (w ++ (32 ∷ l))) (word_token u ∷ between b (lexed gap (w ++ (32 ∷ l))) (lexed comment (w ++ (32 ∷ l)))))
    ∙ (run-read w (u ++ (b ∷ [])) l (and_right (regular b) (all_regular w) e) ∙ ap (λ (x : List ℕ). word_token x ∷ lexed gap l) (append_assoc u (b ∷ []) w))

Some : List ℕ → Type 0
Some [] = ⊥
Some (b ∷ l) = Unit {0}

word_read : (w l : List ℕ) → Some w → all_regular w ≡ true → lexed gap (w ++ (32 ∷ l)) ≡ word_token w ∷ lexed gap l
unfolding all_regular lexed Some
word_read [] l s e = absurd s
word_read (b ∷ w) l s e =
    (λ i. cond (and_left (regular b) (all_regular w) e i) (lexed (run (b ∷ [])) (w ++ (32 ∷ l))) (between b (lexed gap (w ++ (32 ∷ l))) (lexed comment (w ++ (32 ∷ l)))))
    ∙ run-read w (b ∷ []) l (and_right (regular b) (all_regular w) e)

-- no regular character is zero
zero-not : regular 0 ≡ false
unfolding regular white delimiter
zero-not = refl

never-zero : (b : ℕ) → regular b ≡ true → eqb b 0 ≡ false
never-zero b e = by (eqb b 0) refl
  where
    by : (t : Bool) → eqb b 0 ≡ t → t ≡ false
    by false q = refl
    by true q = absurd (true≢false (sym e ∙ (ap regular (eqb-true b 0 q) ∙ zero-not)))

word_kept : (w l : List ℕ) → all_regular w ≡ true → before_zero (w ++ l) ≡ w ++ before_zero l
unfolding all_regular before_zero
word_kept [] l e = refl
word_kept (b ∷ w) l e =
    (λ i. cond (never-zero b (and_left (regular b) (all_regular w) e) i) [] (b ∷ before_zero (w ++ l)))
    ∙ ap (λ (x : List ℕ). b ∷ x) (word_kept w l (and_right (regular b) (all_regular w) e))

space-kept : (l : List ℕ) → before_zero (32 ∷ l) ≡ 32 ∷ before_zero l
unfolding before_zero
space-kept l = refl

-- ---- one token

-- a token that can be written, and is read back
record Back (t : Token) : Type 0 where
  pub reads : (l : List ℕ) → lexed gap (token_text t ++ (32 ∷ l)) ≡ t ∷ lexed gap l
  pub keeps : (l : List ℕ) → before_zero (token_text t ++ (32 ∷ l)) ≡ token_text t ++ (32 ∷ before_zero l)

word_back : (t : Token) → Some (token_text t) → all_regular (token_text t) ≡ true → word_token (token_text t) ≡ t → Back t
word_back t s e f =
    record {
      reads = λ l. word_read (token_text t) l s e ∙ ap (λ (x : Token). x ∷ lexed gap l) f;
      keeps = λ l. word_kept (token_text t) (32 ∷ l) e ∙ ap (λ (x : List ℕ). token_text t ++ x) (space-kept l);
    }

opens_back : Back opens
unfolding lexed regular white delimiter brace_token before_zero
opens_back = record { reads = λ l. refl; keeps = λ l. refl }

closes-back : Back closes
unfolding lexed regular white delimiter brace_token before_zero
closes-back = record { reads = λ l. refl; keeps = λ l. refl }

if-back : Back if_t
unfolding Some all_regular regular white delimiter word_token number_of with_figure with_other after_other named sum_named test_named truth_named stack_named same token_by plain_by two_by one_by
if-back = word_back if_t tt refl refl

ifelse-back : Back ifelse_t
unfolding Some all_regular regular white delimiter word_token number_of with_figure with_other after_other named sum_named test_named truth_named stack_named same token_by plain_by two_by one_by
ifelse-back = word_back ifelse_t tt refl refl

copy-back : Back copy_t
unfolding Some all_regular regular white delimiter word_token number_of with_figure with_other after_other named sum_named test_named truth_named stack_named same token_by plain_by two_by one_by
copy-back = word_back copy_t tt refl refl

index_back : Back index_t
unfolding Some all_regular regular white delimiter word_token number_of with_figure with_other after_other named sum_named test_named truth_named stack_named same token_by plain_by two_by one_by
index_back = word_back index_t tt refl refl

roll-back : Back roll_t
unfolding Some all_regular regular white delimiter word_token number_of with_figure with_other after_other named sum_named test_named truth_named stack_named same token_by plain_by two_by one_by
roll-back = word_back roll_t tt refl refl

two_back : (t : Two) → Back (op_t (two t))
unfolding Some all_regular regular white delimiter word_token number_of with_figure with_other after_other named sum_named test_named truth_named stack_named same token_by plain_by two_by one_by
two_back (sum add) = word_back _ tt refl refl
two_back (sum sub) = word_back _ tt refl refl
two_back (sum mul) = word_back _ tt refl refl
two_back (test equal) = word_back _ tt refl refl
two_back (test unequal) = word_back _ tt refl refl
two_back (test above) = word_back _ tt refl refl
two_back (test at_least) = word_back _ tt refl refl
two_back (test below) = word_back _ tt refl refl
two_back (test at_most) = word_back _ tt refl refl
two_back (join both) = word_back _ tt refl refl
two_back (join any) = word_back _ tt refl refl

plain_back : (o : Op) → Some (op_name o) → Back (op_t o)
unfolding Some all_regular regular white delimiter word_token number_of with_figure with_other after_other named sum_named test_named truth_named stack_named same token_by plain_by two_by one_by
plain_back (number z) s = absurd s
plain_back (copy n) s = absurd s
plain_back (index n) s = absurd s
plain_back (roll n j) s = absurd s
plain_back (two t) s = two_back t
plain_back (one neg) s = word_back _ tt refl refl
plain_back (one abs) s = word_back _ tt refl refl
plain_back (one nay) s = word_back _ tt refl refl
plain_back (constant true) s = word_back _ tt refl refl
plain_back (constant false) s = word_back _ tt refl refl
plain_back pop s = word_back _ tt refl refl
plain_back exch s = word_back _ tt refl refl
plain_back dup s = word_back _ tt refl refl

number-some : (z : ℤ) → Some (number_text z)
unfolding Some digits
number-some (pos n) = tt
number-some (negsuc n) = tt

number-back : (z : ℤ) → Narrow z → Back (num_t z)
number-back z h = word_back (num_t z) (number-some z) (number-regular z) (number-token z h)

-- ---- all tokens

data Backs : List Token → Type 0 where
  none : Backs []
  more : {t : Token} {ts : List Token} → Back t → Backs ts → Backs (t ∷ ts)

backs-append : (ts us : List Token) → Backs ts → Backs us → Backs (ts ++ us)
backs-append [] us none q = q
backs-append (t ∷ ts) us (more b p) q = more b (backs-append ts us p q)

tokens-read : (ts : List Token) → Backs ts → lexed gap (spaced ts) ≡ ts
unfolding spaced lexed
tokens-read [] none = refl
tokens-read (t ∷ ts) (more b p) = b.reads (spaced ts) ∙ ap (λ (x : List Token). t ∷ x) (tokens-read ts p)

tokens-kept : (ts : List Token) → Backs ts → before_zero (spaced ts) ≡ spaced ts
unfolding spaced before_zero
tokens-kept [] none = refl
tokens-kept (t ∷ ts) (more b p) = b.keeps (spaced ts) ∙ ap (λ (x : List ℕ). token_text t ++ (32 ∷ x)) (tokens-kept ts p)

-- ---- a program

op-back : (o : Op) → Writable o → Backs (op_tokens millions o)
unfolding Some
op-back (number z) h = more (number-back z h) none
op-back (copy n) h = more (number-back (millions n) h) (more copy-back none)
op-back (index n) h = more (number-back (millions n) h) (more index_back none)
op-back (roll n j) h = more (number-back (millions n) h.0) (more (number-back (millions j) h.1) (more roll-back none))
op-back (two t) h = more (two_back t) none
op-back (one neg) h = more (plain_back (one neg) tt) none
op-back (one abs) h = more (plain_back (one abs) tt) none
op-back (one nay) h = more (plain_back (one nay) tt) none
op-back (constant true) h = more (plain_back (constant true) tt) none
op-back (constant false) h = more (plain_back (constant false) tt) none
op-back pop h = more (plain_back pop tt) none
op-back exch h = more (plain_back exch tt) none
op-back dup h = more (plain_back dup tt) none

spelled_back : (c : Code) → Carried c → Backs (spelled millions c)
unfolding Carried spelled
spelled_back done h = none
spelled_back (act o c) h = backs-append (op_tokens millions o) (spelled millions c) (op-back o h.0) (spelled_back c h.1)
spelled_back (when b c) h = more opens_back (backs-append (spelled millions b) _ (spelled_back b h.0) (more closes-back (more if-back (spelled_back c h.1))))
spelled_back (either a b c) h =
    more opens_back (backs-append (spelled millions a) _ (spelled_back a h.0) (more closes-back
    (more opens_back (backs-append (spelled millions b) _ (spelled_back b h.1.0) (more closes-back (more ifelse-back (spelled_back c h.1.1)))))))

written_back : (c : Code) → Carried c → Backs (written millions c)
written_back c h = more opens_back (backs-append (spelled millions c) (closes ∷ []) (spelled_back c h) (more closes-back none))

text-tokens : (c : Code) → Carried c → tokens_of (program_text c) ≡ written millions c
text-tokens c h = ap (lexed gap) (tokens-kept (written millions c) (written_back c h)) ∙ tokens-read (written millions c) (written_back c h)

-- a program that is written as a text is read as that program
pub text-read : (c : Code) → Within 7 c → Carried c → length (written millions c) ≤ most_tokens → read_of (program_text c) ≡ program c
unfolding read_tokens
text-read c wi h few =
    ap read_tokens (text-tokens c h)
    ∙ ((λ i. cond (le-leb (length (written millions c)) most_tokens few i) (read_by (parsed count_z (written millions c))) unread) ∙ ap read_by (read-written c wi))
