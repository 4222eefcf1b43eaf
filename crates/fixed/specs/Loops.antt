-- What a test refuses with, and what a loop over the numbers below a bound finds: a sum, whether all pass, and the first fault.
use Rattle.std.specs.Prelude.{ℕ, zero, suc, ◌+◌, ◌-◌, Bool, true, ◌&&◌, cond, List, eqb, get_or}

-- the refusal k unless the test t passes; where it does, what is refused after it. 0 is no refusal
abbrev pub unless : Bool → ℕ → ℕ → ℕ
unless t k after = cond t after k

-- the sum of f k over each k below n
unfoldable pub total : (ℕ → ℕ) → ℕ → ℕ
total f zero = 0
total f (suc n) = total f n + f n

-- whether f holds of `count` numbers from k on
unfoldable pub all_from : (ℕ → Bool) → ℕ → ℕ → Bool
all_from f k zero = true
all_from f k (suc count) = f k && all_from f (suc k) count

-- and of each from `from` to below `to`
abbrev pub all_between : (ℕ → Bool) → ℕ → ℕ → Bool
all_between f from to = all_from f from (to - from)

-- whether the bytes from `from` to below `to` are zero
unfoldable pub zero_between : List ℕ → ℕ → ℕ → Bool
zero_between b from to = all_between (λ k. eqb (get_or b k 0) 0) from to

-- the first fault of `count` blocks from block i on, in their order, where f gives the number of a block's refusal or 0:
-- `refused number block`, or `none` where there is no fault
unfoldable pub first_from : {A : Type 0} → A → (ℕ → ℕ → A) → (ℕ → ℕ) → ℕ → ℕ → A
first_from none refused f i zero = none
first_from none refused f i (suc count) = cond (eqb (f i) 0) (first_from none refused f (suc i) count) (refused (f i) i)
