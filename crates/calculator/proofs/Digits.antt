-- A number that is written in digits is read as it was.
use mathlib.Core.Path.{◌≡◌, refl, sym, ap, ◌∙◌}
use mathlib.Core.Bool.{Bool, true, false, cond, not, ◌&&◌}
use mathlib.Core.List.{List, [], ◌∷◌, foldl, foldl-append}
use Prim.Native.Nat.{ℕ, zero, suc, ◌+◌, ◌-◌, ◌*◌, ◌/◌, ◌%◌, ◌≤◌, ◌<◌}
use native.Mathlib.Nat.{zero-add}
use native.Mathlib.Numerals.{add-one}
use native.Mathlib.Omega.{arith}
use borrow.Author.Tests.{le-leb, lt-leb}
use lib.IntN.{ℤ, pos, negsuc, neg_ℤ}
use lib.Dec.{leb, eqb}
use Rattle.lexical.specs.Chars.{decimal}
use Rattle.lexical.specs.Numbers.{none, numeric, after_other, with_digit, with_other, with_figure, number_of, scale_of, fits, value_of}
use Rattle.lexical.specs.declared.types.Part.TheVariants.{Sign, Digits, Decimals}
use Rattle.lexical.specs.declared.types.Number.{Number}
use Rattle.symbols.specs.Tokens.{num_t, other, token_by, named, word_token}
use Rattle.calculator.specs.Written.{digits, figures, number_text, Narrow}

-- ---- one figure

decimal-is : (d : ℕ) → d < 10 → decimal (48 + d) ≡ true
decimal-is d h = λ i. le-leb 48 (48 + d) (omega arith) i && le-leb (48 + d) 57 (omega arith) i

figure-is : (n : Number) (d : ℕ) → d < 10 → with_figure n (48 + d) ≡ with_digit n d
unfolding with_figure
figure-is n d h = let e : (48 + d) - 48 ≡ d = omega arith in λ i. cond (decimal-is d h i) (with_digit n (e i)) (with_other n (48 + d))

-- before the point, and after a digits past it
abbrev before : Bool → ℕ → Number
before s r = record { part = Digits; minus = s; fine = false; raw = r; after = 0 }

abbrev past : Bool → ℕ → ℕ → Number
past s r a = record { part = Decimals; minus = s; fine = false; raw = r; after = a }

before-digit : (s : Bool) (r d : ℕ) → r ≤ 2147483648 → with_digit (before s r) d ≡ before s (r * 10 + d)
unfolding with_digit
before-digit s r d h = λ i. record { part = Digits; minus = s; fine = false; raw = cond (le-leb r 2147483648 h i) (r * 10 + d) r; after = 0 }

past-digit : (s : Bool) (r a d : ℕ) → a ≤ 5 → r ≤ 2147483648 → with_digit (past s r a) d ≡ past s (r * 10 + d) (a + 1)
unfolding with_digit
past-digit s r a d g h =
    λ i. record {
      part = Decimals;
      minus = s;
      fine = lt-leb 6 a (omega arith) i && not (eqb d 0);
      raw = cond (le-leb a 5 g i && le-leb r 2147483648 h i) (r * 10 + d) r;
      after = cond (le-leb a 6 (omega arith) i) (a + 1) a;
    }

-- ---- all digits

tens : ℕ → ℕ
tens zero = 1
tens (suc k) = 10 * tens k

rest : (n : ℕ) → n / 10 * 10 + n % 10 ≡ n
rest n = omega arith

small : (n : ℕ) → n % 10 < 10
small n = omega arith

before-digits : (s : Bool) (n₀ : Number) → ((d : ℕ) → with_digit n₀ d ≡ before s d) → (k n : ℕ) → n < tens (suc k) → n ≤ 2147483648 → foldl with_figure n₀ (digits (suc k) n) ≡ before s n
unfolding digits tens
before-digits s n₀ f zero n h g = figure-is n₀ (n % 10) (small n) ∙ (f (n % 10) ∙ ap (before s) (let e : n % 10 ≡ n = omega arith in e))
before-digits s n₀ f (suc k) n h g =
    foldl-append with_figure n₀ (digits (suc k) (n / 10)) ((48 + n % 10) ∷ [])
    ∙ (ap (λ (x : Number). with_figure x (48 + n % 10)) (before-digits s n₀ f k (n / 10) (omega arith) (omega arith))
    ∙ (figure-is (before s (n / 10)) (n % 10) (small n) ∙ (before-digit s (n / 10) (n % 10) (omega arith) ∙ ap (before s) (rest n))))

-- without its last k digits
high : ℕ → ℕ → ℕ
high zero n = n
high (suc k) n = high k (n / 10)

past-digits : (s : Bool) (k n : ℕ) → k ≤ 6 → n ≤ 2147483648 → foldl with_figure (past s (high k n) 0) (digits k n) ≡ past s n k
unfolding digits high
past-digits s zero n g h = refl
past-digits s (suc k) n g h =
    foldl-append with_figure (past s (high k (n / 10)) 0) (digits k (n / 10)) ((48 + n % 10) ∷ [])
    ∙ (ap (λ (x : Number). with_figure x (48 + n % 10)) (past-digits s k (n / 10) (omega arith) (omega arith))
    ∙ (figure-is (past s (n / 10) k) (n % 10) (small n)
    ∙ (past-digit s (n / 10) k (n % 10) (omega arith) (omega arith) ∙ (λ i. past s (rest n i) (add-one k i)))))

high-six : (n : ℕ) → high 6 n ≡ n / 1000000
unfolding high
high-six n = omega arith

point : (s : Bool) (r : ℕ) → with_figure (before s r) 46 ≡ past s r 0
unfolding with_figure with_other after_other
point true r = refl
point false r = refl

figures-read : (s : Bool) (n₀ : Number) → ((d : ℕ) → with_digit n₀ d ≡ before s d) → (n : ℕ) → n ≤ 2147483648 → foldl with_figure n₀ (figures n) ≡ past s n 6
unfolding tens
figures-read s n₀ f n h =
    foldl-append with_figure n₀ (digits 4 (n / 1000000)) (46 ∷ digits 6 n)
    ∙ (ap (λ (x : Number). foldl with_figure (with_figure x 46) (digits 6 n)) (before-digits s n₀ f 3 (n / 1000000) (omega arith) (omega arith))
    ∙ (ap (λ (x : Number). foldl with_figure x (digits 6 n)) (point s (n / 1000000) ∙ ap (λ (r : ℕ). past s r 0) (sym (high-six n))) ∙ past-digits s 6 n (omega arith) h))

first-digit : (d : ℕ) → with_digit none d ≡ before false d
unfolding with_digit
first-digit d = ap (before false) (zero-add d)

-- after a sign
signed : Number
signed = record { part = Sign; minus = true; fine = false; raw = 0; after = 0 }

signed-digit : (d : ℕ) → with_digit signed d ≡ before true d
unfolding with_digit signed
signed-digit d = ap (before true) (zero-add d)

minus-read : with_figure none 45 ≡ signed
unfolding with_figure with_other after_other signed
minus-read = refl

-- ---- the token

token-of : (w : List ℕ) (s : Bool) (n : ℕ) (z : ℤ) → number_of w ≡ past s n 6 → n ≤ cond s 2147483648 2147483647 → cond s (neg_ℤ (pos n)) (pos n) ≡ z → word_token w ≡ num_t z
unfolding word_token fits value_of scale_of
token-of w s n z e h v =
    let o : n * 1 ≡ n = omega arith in
    ap (λ (x : Number). cond (numeric x.part) (cond (fits x) (num_t (value_of x)) other) (token_by (named w) (pos 0))) e
    ∙ ((λ i. cond (leb (o i) (cond s 2147483648 2147483647)) (num_t (cond s (neg_ℤ (pos (o i))) (pos (o i)))) other)
    ∙ (λ i. cond (le-leb n (cond s 2147483648 2147483647) h i) (num_t (v i)) other))

pub number-token : (z : ℤ) → Narrow z → word_token (number_text z) ≡ num_t z
unfolding number_of
number-token (pos n) h = token-of (figures n) false n (pos n) (figures-read false none first-digit n (omega arith)) h refl
number-token (negsuc n) h =
    token-of (45 ∷ figures (suc n)) true (suc n) (negsuc n) (ap (λ (x : Number). foldl with_figure x (figures (suc n))) minus-read ∙ figures-read true signed signed-digit (suc n) (omega arith)) (omega arith) refl
