-- FORMAT.md, The listing: numbers in decimal, as bytes: 48 is the digit 0, and 57 the digit 9.
use Rattle.std.specs.Prelude.{ℕ, zero, suc, ◌+◌, ◌-◌, ◌*◌, ◌/◌, ◌%◌, ◌≤◌, ◌<◌, ◌≡◌, cond, List, [], ◌∷◌, ◌++◌, ltb, length, get_or}

-- the byte of a digit 0 to 9
abbrev pub digit : ℕ → ℕ
digit d = 48 + d

-- the digits of n, the most significant first: a number below 10 is one digit, and any other has the digits of n / 10 and then its last.
-- `rounds` is how often it may be divided; n times is always enough
unfoldable pub digits_in : ℕ → ℕ → List ℕ
digits_in zero n = digit n ∷ []
digits_in (suc rounds) n = cond (ltb n 10) (digit n ∷ []) (digits_in rounds (n / 10) ++ (digit (n % 10) ∷ []))

unfoldable pub digits : ℕ → List ℕ
digits n = digits_in n n

-- ---- What the laws in proofs/Digits.antt say of them

-- the number that digits read as, from the first on, after a number n that was read before them
abbrev pub read_after : ℕ → List ℕ → ℕ
read_after n [] = n
read_after n (d ∷ ds) = read_after (n * 10 + (d - 48)) ds

abbrev pub number_of : List ℕ → ℕ
number_of ds = read_after 0 ds

-- a byte that is a digit, and a list of them
abbrev pub Digit : ℕ → Type 0
Digit d = (48 ≤ d) × (d ≤ 57)

abbrev pub AllDigits : List ℕ → Type 0
AllDigits ds = (k : ℕ) → k < length ds → Digit (get_or ds k 0)

-- a number as it is written: one digit or more, nothing but digits, and a 0 in front only where it stands alone
pub record Decimal (ds : List ℕ) : Type 0 where
  pub some : 0 < length ds
  pub all : AllDigits ds
  pub front : get_or ds 0 0 ≡ 48 → length ds ≡ 1
