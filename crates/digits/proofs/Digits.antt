-- The digits of n are the one way to write n in decimal: `digits-read`, read back they are n; `digits_decimal`, they are written as a number is; `digits-front`, a 0 is
-- in front of 0 alone; `digits-only`, there are no others. Before that `digits-small` and `digits_more`, by which the code makes them, and `digits-short`.
use mathlib.Core.Path.{◌≡◌, refl, sym, ap, ◌∙◌}
use mathlib.Core.List.{List, [], ◌∷◌, ◌++◌, append_assoc, append-nil}
use Prim.Native.Nat.{ℕ, zero, suc, ◌+◌, ◌-◌, ◌*◌, ◌/◌, ◌%◌, ◌≤◌, ◌<◌, suc-le-suc}
use native.Mathlib.Decide.{dec_lt}
use native.Mathlib.Omega.{arith}
use borrow.Author.Tests.{lt-ltb, le-ltb}
use lib.ListN.{length, get_or, length-append, get_or-append}
use lib.Seq.{get_or_at}
use Rattle.digits.specs.Digits.{digit, digits_in, digits, read_after, number_of, Digit, AllDigits, Decimal}

-- a number is below 10, or it is not
by_ten : {C : Type 0} (n : ℕ) → (n < 10 → C) → (10 ≤ n → C) → C
by_ten {C} n f g = by (dec_lt n 10)
  where
    by : Dec (n < 10) → C
    by (yes h) = f h
    by (no h) = g (omega arith)

-- ---- a number below 10, and one digit more

one-round : (rounds n : ℕ) → n < 10 → digits_in rounds n ≡ digit n ∷ []
unfolding digits_in
one-round zero n h = refl
one-round (suc rounds) n h = rw (lt-ltb n 10 h)

next-round : (rounds n : ℕ) → 10 ≤ n → digits_in (suc rounds) n ≡ digits_in rounds (n / 10) ++ (digit (n % 10) ∷ [])
unfolding digits_in
next-round rounds n h = rw (le-ltb n 10 h)

-- more rounds than n change nothing
same-rounds : (r s n : ℕ) → n ≤ r → n ≤ s → digits_in r n ≡ digits_in s n
same-rounds zero s n p q = one-round zero n (omega arith) ∙ sym (one-round s n (omega arith))
same-rounds (suc r) zero n p q = one-round (suc r) n (omega arith) ∙ sym (one-round zero n (omega arith))
same-rounds (suc r) (suc s) n p q =
    by_ten n (λ h. one-round (suc r) n h ∙ sym (one-round (suc s) n h)) (λ h.
    next-round r n h ∙ ap (λ (ds : List ℕ). ds ++ (digit (n % 10) ∷ [])) (same-rounds r s (n / 10) (omega arith) (omega arith)) ∙ sym (next-round s n h))

pub digits-small : (n : ℕ) → n < 10 → digits n ≡ digit n ∷ []
unfolding digits
digits-small n h = one-round n n h

pub digits_more : (n : ℕ) → 10 ≤ n → digits n ≡ digits (n / 10) ++ (digit (n % 10) ∷ [])
unfolding digits
digits_more n h =
    same-rounds n (suc n) n (omega arith) (omega arith) ∙ next-round n n h
    ∙ ap (λ (ds : List ℕ). ds ++ (digit (n % 10) ∷ [])) (same-rounds n (n / 10) (n / 10) (omega arith) (omega arith))

-- what holds of one digit, and of one more, holds of all
module _ (P : ℕ → List ℕ → Type 0) (small : (n : ℕ) → n < 10 → P n (digit n ∷ []))
    (more : (n : ℕ) (ds : List ℕ) → 10 ≤ n → P (n / 10) ds → P n (ds ++ (digit (n % 10) ∷ []))) where
  in-rounds : (rounds n : ℕ) → n ≤ rounds → P n (digits n)
  in-rounds zero n p = rw (digits-small n (omega arith)) (small n (omega arith))
  in-rounds (suc rounds) n p =
      by_ten n (λ h. rw (digits-small n h) (small n h)) (λ h. rw (digits_more n h) (more n _ h (in-rounds rounds (n / 10) (omega arith))))

  pub digits-ind : (n : ℕ) → P n (digits n)
  digits-ind n = in-rounds n n (omega arith)

-- ---- read back, they are n

read-last : (n : ℕ) (ds : List ℕ) (d : ℕ) → read_after n (ds ++ (d ∷ [])) ≡ read_after n ds * 10 + (d - 48)
read-last n [] d = refl
read-last n (x ∷ ds) d = read-last (n * 10 + (x - 48)) ds d

pub digits-read : (n : ℕ) → number_of (digits n) ≡ n
digits-read = digits-ind (λ n ds. number_of ds ≡ n) (λ n h. omega arith) (λ n ds h e. read-last 0 ds (digit (n % 10)) ∙ omega arith)

-- ---- they are written as a number is

-- a digit after others
module _ (ds : List ℕ) (d : ℕ) where
  all_more : AllDigits ds → Digit d → AllDigits (ds ++ (d ∷ []))
  all_more all h k l = by (dec_lt k (length ds))
    where
      by : Dec (k < length ds) → Digit (get_or (ds ++ (d ∷ [])) k 0)
      by (yes q) = rw (get_or-append ds (d ∷ []) 0 k q) (all k q)
      by (no q) = let e : length ds ≡ k = omega (arith, length-append ds (d ∷ [])) in rw (get_or_at ds d [] 0 k e) h

  front-more : 0 < length ds → get_or (ds ++ (d ∷ [])) 0 0 ≡ get_or ds 0 0
  front-more = get_or-append ds (d ∷ []) 0 0

record Shown (n : ℕ) (ds : List ℕ) : Type 0 where
  decimal : Decimal ds
  front : get_or ds 0 0 ≡ 48 → n ≡ 0

one-shown : (n : ℕ) → n < 10 → Shown n (digit n ∷ [])
one-shown n h = record { decimal = record { some = omega arith; all = all; front = λ _. refl }; front = λ e. omega arith }
  where
    all : AllDigits (digit n ∷ [])
    all zero _ = (omega arith, omega arith)
    all (suc k) l = absurd (omega arith)

more-shown : (n : ℕ) (ds : List ℕ) → 10 ≤ n → Shown (n / 10) ds → Shown n (ds ++ (digit (n % 10) ∷ []))
more-shown n ds h s =
    record {
      decimal = record { some = omega (arith, length-append ds (digit (n % 10) ∷ [])); all = all_more ds (digit (n % 10)) s.decimal.all (omega arith, omega arith); front = λ e. absurd (no_zero e) };
      front = λ e. absurd (no_zero e);
    }
  where
    no_zero : get_or (ds ++ (digit (n % 10) ∷ [])) 0 0 ≡ 48 → ⊥
    no_zero e = omega (arith, s.front (sym (front-more ds (digit (n % 10)) s.decimal.some) ∙ e))

shown : (n : ℕ) → Shown n (digits n)
shown = digits-ind Shown one-shown more-shown

pub digits_decimal : (n : ℕ) → Decimal (digits n)
digits_decimal n = (shown n).decimal

pub digits-front : (n : ℕ) → get_or (digits n) 0 0 ≡ 48 → n ≡ 0
digits-front n = (shown n).front

-- ---- and there are no others

-- digits read after n stand after those of n
read-after : (ds : List ℕ) (n : ℕ) → 0 < n → AllDigits ds → digits (read_after n ds) ≡ digits n ++ ds
read-after [] n p all = sym (append-nil (digits n))
read-after (d ∷ ds) n p all =
    let h = all 0 (omega arith) in
    let q : (n * 10 + (d - 48)) / 10 ≡ n = omega arith in
    let r : digit ((n * 10 + (d - 48)) % 10) ≡ d = omega arith in
    let joined : digits (n * 10 + (d - 48)) ≡ digits n ++ (d ∷ []) = digits_more (n * 10 + (d - 48)) (omega arith) ∙ rw (q, r) in
    read-after ds (n * 10 + (d - 48)) (omega arith) (λ k l. all (suc k) (suc-le-suc l))
    ∙ ap (λ (l : List ℕ). l ++ ds) joined
    ∙ append_assoc (digits n) (d ∷ []) ds

-- a digit that stands alone
alone : (d : ℕ) → Digit d → digits (0 * 10 + (d - 48)) ≡ d ∷ []
alone d h = let e : digit (0 * 10 + (d - 48)) ≡ d = omega arith in digits-small (0 * 10 + (d - 48)) (omega arith) ∙ rw e

pub digits-only : (ds : List ℕ) → Decimal ds → digits (number_of ds) ≡ ds
digits-only [] w = absurd (omega (arith, w.some))
digits-only (d ∷ []) w = alone d (w.all 0 (omega arith))
digits-only (d ∷ x ∷ ds) w =
    let h = w.all 0 (omega arith) in
    let above : d ≡ 48 → ⊥ = (λ e. omega (arith, w.front e)) in
    read-after (x ∷ ds) (0 * 10 + (d - 48)) (omega arith) (λ k l. w.all (suc k) (suc-le-suc l))
    ∙ ap (λ (l : List ℕ). l ++ (x ∷ ds)) (alone d h)

-- ---- how many there are

-- 10 to the k
abbrev tens : ℕ → ℕ
tens zero = 1
tens (suc k) = 10 * tens k

shorter : (k n : ℕ) → n < 10 * tens k → length (digits n) ≤ suc k
shorter zero n h = rw (digits-small n (omega arith)) (omega arith)
shorter (suc k) n h =
    by_ten n (λ l. rw (digits-small n l) (omega arith)) (λ l.
    let e = ap length (digits_more n l) ∙ length-append (digits (n / 10)) (digit (n % 10) ∷ []) in
    let less = shorter k (n / 10) (omega arith) in
    omega arith)

-- a number of 32 bits has ten at the most
pub digits-short : (n : ℕ) → n < 4294967296 → length (digits n) ≤ 10
digits-short n h = shorter 9 n (omega arith)
