-- A number that is written is read back: digits one by one, then a number in millionths, and a whole one.
use mathlib.Core.Path.{◌≡◌, refl, sym, ap, ◌∙◌}
use mathlib.Core.Bool.{Bool, true, false}
use mathlib.Core.List.{List, [], ◌∷◌, ◌++◌, foldl, foldl-append}
use Prim.Native.Nat.{ℕ, zero, suc, ◌+◌, ◌-◌, ◌*◌, ◌/◌, ◌%◌, ◌≤◌, ◌<◌, suc-le-suc}
use native.Mathlib.Omega.{arith}
use borrow.Author.Tests.{le-leb, lt-leb, leb-true}
use lib.IntN.{ℤ, pos, negsuc, neg_ℤ, nat_abs}
use lib.ListN.{length}
use Rattle.digits.specs.Digits.{digit, digits, read_after, Digit, AllDigits}
use Rattle.digits.proofs.Digits.{digits-read, digits_decimal}
use Rattle.lexical.specs.declared.types.Part.{Part}
use Rattle.lexical.specs.declared.types.Part.TheVariants.{Empty, Sign, Digits, Decimals}
use Rattle.lexical.specs.declared.types.Number.{Number}
use Rattle.lexical.specs.Numbers.{none, after_digit, pointed, after_other, with_digit, with_other, with_figure, scale_of, millionths, fits, value_of, whole_in}
use Rattle.objects.specs.Objects.{last_digits, decimal, small}

-- a list of digits
abbrev pub Figures : List ℕ → Type 0
Figures [] = Unit
Figures (d ∷ ds) = Digit d × Figures ds

all-figures : (ds : List ℕ) → AllDigits ds → Figures ds
all-figures [] all = tt
all-figures (d ∷ ds) all = (all 0 (omega arith), all-figures ds (λ k l. all (suc k) (suc-le-suc l)))

pub digits-figures : (n : ℕ) → Figures (digits n)
digits-figures n = all-figures (digits n) (digits_decimal n).all

-- a number that is no finer than millionths
abbrev pub read : Part → Bool → ℕ → ℕ → Number
read p minus raw after = record { part = p; minus = minus; fine = false; raw = raw; after = after }

-- digits only add to a number
grows : (ds : List ℕ) (n : ℕ) → n ≤ read_after n ds
grows [] n = omega arith
grows (d ∷ ds) n = let h = grows ds (n * 10 + (d - 48)) in omega arith

module _ (m : Bool) where
  before-point : (p : Part) (r d : ℕ) → pointed p ≡ false → Digit d → r ≤ 2147483648
      → with_figure (read p m r 0) d ≡ read (after_digit p) m (r * 10 + (d - 48)) 0
  unfolding with_figure with_digit
  before-point p r d e h l = rw (le-leb 48 d h.0, le-leb d 57 h.1, e, le-leb r 2147483648 l)

  after-point : (r k d : ℕ) → Digit d → r ≤ 2147483648 → k ≤ 5 → with_figure (read Decimals m r k) d ≡ read Decimals m (r * 10 + (d - 48)) (k + 1)
  unfolding with_figure with_digit
  after-point r k d h l q =
      rw (le-leb 48 d h.0, le-leb d 57 h.1, lt-leb 6 k (omega arith), le-leb k 5 q, le-leb r 2147483648 l, le-leb k 6 (omega arith))

  whole_part : (ds : List ℕ) (r : ℕ) → Figures ds → read_after r ds ≤ 2147483648 → foldl with_figure (read Digits m r 0) ds ≡ read Digits m (read_after r ds) 0
  whole_part [] r f l = refl
  whole_part (d ∷ ds) r f l =
      let g = grows ds (r * 10 + (d - 48)) in
      ap (λ (n : Number). foldl with_figure n ds) (before-point Digits r d refl f.0 (omega arith)) ∙ whole_part ds (r * 10 + (d - 48)) f.1 l

  decimals : (ds : List ℕ) (r k : ℕ) → Figures ds → read_after r ds ≤ 2147483648 → k + length ds ≤ 6
      → foldl with_figure (read Decimals m r k) ds ≡ read Decimals m (read_after r ds) (k + length ds)
  decimals [] r k f l q = let e : k ≡ k + 0 = omega arith in ap (read Decimals m r) e
  decimals (d ∷ ds) r k f l q =
      let g = grows ds (r * 10 + (d - 48)) in
      let e : k + 1 + length ds ≡ k + suc (length ds) = omega arith in
      ap (λ (n : Number). foldl with_figure n ds) (after-point r k d f.0 (omega arith) (omega arith))
      ∙ decimals ds (r * 10 + (d - 48)) (k + 1) f.1 l (omega arith)
      ∙ ap (read Decimals m (read_after r (d ∷ ds))) e

  -- from nothing, or a sign, on
  first_part : (p : Part) (ds : List ℕ) → after_digit p ≡ Digits → pointed p ≡ false → 0 < length ds → Figures ds → read_after 0 ds ≤ 2147483648
      → foldl with_figure (read p m 0 0) ds ≡ read Digits m (read_after 0 ds) 0
  first_part p [] e q some f l = absurd (omega arith)
  first_part p (d ∷ ds) e q some f l =
      ap (λ (n : Number). foldl with_figure n ds) (before-point p 0 d q f.0 (omega arith) ∙ ap (λ (x : Part). read x m (0 * 10 + (d - 48)) 0) e)
      ∙ whole_part ds (0 * 10 + (d - 48)) f.1 l

  digits-part : (p : Part) (n : ℕ) → after_digit p ≡ Digits → pointed p ≡ false → n ≤ 2147483648 → foldl with_figure (read p m 0 0) (digits n) ≡ read Digits m n 0
  digits-part p n e q l =
      let s : read_after 0 (digits n) ≤ 2147483648 = rw (digits-read n) l in
      first_part p (digits n) e q (digits_decimal n).some (digits-figures n) s ∙ ap (λ (r : ℕ). read Digits m r 0) (digits-read n)

-- ---- the last digits

-- n without its last k digits
abbrev over : ℕ → ℕ → ℕ
over zero n = n
over (suc k) n = over k (n / 10)

read-last : (n : ℕ) (ds : List ℕ) (d : ℕ) → read_after n (ds ++ (d ∷ [])) ≡ read_after n ds * 10 + (d - 48)
read-last n [] d = refl
read-last n (x ∷ ds) d = read-last (n * 10 + (x - 48)) ds d

last-read : (k n : ℕ) → read_after (over k n) (last_digits k n) ≡ n
unfolding last_digits
last-read zero n = refl
last-read (suc k) n = let h = last-read k (n / 10) in read-last (over k (n / 10)) (last_digits k (n / 10)) (digit (n % 10)) ∙ omega arith

six-over : (n : ℕ) → over 6 n ≡ n / 1000000
six-over n = omega arith

pub six-figures : (n : ℕ) → Figures (last_digits 6 n)
unfolding last_digits
six-figures n = omega arith

six-length : (n : ℕ) → length (last_digits 6 n) ≡ 6
unfolding last_digits
six-length n = refl

six-read : (n : ℕ) → read_after (n / 1000000) (last_digits 6 n) ≡ n
six-read n = ap (λ (q : ℕ). read_after q (last_digits 6 n)) (sym (six-over n)) ∙ last-read 6 n

-- ---- a number in millionths, and a whole one

-- what a number is read as
abbrev pub negative : ℤ → Bool
negative (pos n) = false
negative (negsuc n) = true

abbrev pub in_millionths : ℤ → Number
in_millionths z = read Decimals (negative z) (nat_abs z) 6

abbrev pub in_ones : ℕ → Number
in_ones n = read Digits false n 0

module _ (m : Bool) (p : Part) (n : ℕ) (e : after_digit p ≡ Digits) (q : pointed p ≡ false) (l : n ≤ 2147483648)
    (dot : with_figure (read Digits m (n / 1000000) 0) 46 ≡ read Decimals m (n / 1000000) 0) where
  in_parts : foldl with_figure (read p m 0 0) (digits (n / 1000000) ++ (46 ∷ last_digits 6 n)) ≡ read Decimals m n 6
  in_parts =
      let s : read_after (n / 1000000) (last_digits 6 n) ≤ 2147483648 = rw (six-read n) l in
      let k : 0 + length (last_digits 6 n) ≤ 6 = rw (six-length n) (omega arith) in
      foldl-append with_figure (read p m 0 0) (digits (n / 1000000)) (46 ∷ last_digits 6 n)
      ∙ ap (λ (x : Number). foldl with_figure x (46 ∷ last_digits 6 n)) (digits-part m p (n / 1000000) e q (omega arith))
      ∙ ap (λ (x : Number). foldl with_figure x (last_digits 6 n)) dot
      ∙ decimals m (last_digits 6 n) (n / 1000000) 0 (six-figures n) s k
      ∙ rw (six-read n, six-length n)

pub number_read : (z : ℤ) → small z ≡ true → foldl with_figure none (decimal z) ≡ in_millionths z
unfolding decimal with_figure with_other after_other
number_read (pos n) h = in_parts false Empty n refl refl (omega (arith, leb-true n 2147483647 h)) refl
number_read (negsuc n) h = in_parts true Sign (suc n) refl refl (omega (arith, leb-true n 2147483647 h)) refl

pub whole-read : (n : ℕ) → n ≤ 2147 → foldl with_figure none (digits n) ≡ in_ones n
whole-read n h = digits-part false Empty n refl refl (omega arith)

-- ---- and it is right to the millionth

pub number_fits : (z : ℤ) → small z ≡ true → fits (in_millionths z) ≡ true
unfolding fits scale_of
number_fits (pos n) h = let o = leb-true n 2147483647 h in le-leb (n * 1) 2147483647 (omega arith)
number_fits (negsuc n) h = let o = leb-true n 2147483647 h in le-leb (suc n * 1) 2147483648 (omega arith)

pub number-value : (z : ℤ) → value_of (in_millionths z) ≡ z
unfolding value_of scale_of
number-value (pos n) = let e : n * 1 ≡ n = omega arith in ap pos e
number-value (negsuc n) = let e : suc n * 1 ≡ suc n = omega arith in ap (λ (k : ℕ). neg_ℤ (pos k)) e

module _ (n : ℕ) where
  product : n * 1000000 % 1000000 ≡ 0
  product = omega arith

  quotient : n * 1000000 / 1000000 ≡ n
  quotient = omega arith

  pub whole-fits : n ≤ 2147 → fits (in_ones n) ≡ true
  unfolding fits scale_of
  whole-fits h = le-leb (n * 1000000) 2147483647 (omega arith)

  pub whole-in : (lo hi : ℕ) → lo ≤ n → n ≤ hi → whole_in (in_ones n) lo hi ≡ true
  unfolding whole_in scale_of
  whole-in lo hi l h = rw (product, quotient, le-leb lo n l, le-leb n hi h)

  pub whole-value : millionths (in_ones n) / 1000000 ≡ n
  unfolding scale_of
  whole-value = quotient
