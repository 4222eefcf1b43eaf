-- Sums over the numbers below a bound: one term more, parted in two, added and multiplied term by term, and taken column by column.
use mathlib.Core.Path.{◌≡◌, refl, ap, ◌∙◌, sym}
use Prim.Native.Nat.{ℕ, zero, suc, ◌+◌, ◌-◌, ◌*◌, ◌<◌}
use native.Mathlib.Nat.{add-zero, mul-zero, mul-suc, mul-add}
use native.Mathlib.Numerals.{add-one, add-two, add-three, add-four}
use native.Mathlib.Omega.{arith}
use Rattle.fixed.specs.Loops.{total}

-- one term more
pub total-step : (f : ℕ → ℕ) (n acc x : ℕ) → acc ≡ total f n → x ≡ f n → acc + x ≡ total f (n + 1)
unfolding total
total-step f n acc x p q = rw (add-one, p, q)

-- term by term
pub total-same : (f g : ℕ → ℕ) (n : ℕ) → ((k : ℕ) → k < n → f k ≡ g k) → total f n ≡ total g n
unfolding total
total-same f g zero h = refl
total-same f g (suc n) h = rw (total-same f g n (λ k p. h k (omega arith)), h n (omega arith))

-- a sum of zeros
pub total-zero : (f : ℕ → ℕ) (n : ℕ) → ((k : ℕ) → k < n → f k ≡ 0) → total f n ≡ 0
unfolding total
total-zero f zero h = refl
total-zero f (suc n) h = let a = total-zero f n (λ k p. h k (omega arith)) in let b = h n (omega arith) in omega arith

-- the first m terms, and those after them
pub total-parts : (f : ℕ → ℕ) (m n : ℕ) → total f (m + n) ≡ total f m + total (λ k. f (m + k)) n
unfolding total
total-parts f m zero = ap (total f) (add-zero m) ∙ sym (add-zero (total f m))
total-parts f m (suc n) = let e : m + suc n ≡ suc (m + n) = omega arith in let h = total-parts f m n in ap (total f) e ∙ omega arith

-- four terms more
pub total-four : (f : ℕ → ℕ) (m : ℕ) → total f (m + 4) ≡ total f m + (f m + f (m + 1) + f (m + 2) + f (m + 3))
unfolding total
total-four f m = ap (total f) (add-four m) ∙ rw (add-one, add-two, add-three) (omega arith)

pub total-plus : (f g : ℕ → ℕ) (n : ℕ) → total (λ k. f k + g k) n ≡ total f n + total g n
unfolding total
total-plus f g zero = refl
total-plus f g (suc n) = let h = total-plus f g n in omega arith

pub total-times : (c : ℕ) (f : ℕ → ℕ) (n : ℕ) → total (λ k. c * f k) n ≡ c * total f n
unfolding total
total-times c f zero = sym (mul-zero c)
total-times c f (suc n) =
    let h = total-times c f n in
    let d = mul-add c (total f n) (f n) in
    omega arith

-- m rows of n terms, column by column
pub total-columns : (f : ℕ → ℕ) (m n : ℕ) → total f (n * m) ≡ total (λ k. total (λ r. f (n * r + k)) m) n
unfolding total
total-columns f zero n = ap (total f) (mul-zero n) ∙ sym (total-zero (λ k. 0) n (λ k h. refl))
total-columns f (suc m) n =
    ap (total f) (mul-suc n m)
    ∙ total-parts f (n * m) n
    ∙ ap (λ (x : ℕ). x + total (λ k. f (n * m + k)) n) (total-columns f m n)
    ∙ sym (total-plus (λ k. total (λ r. f (n * r + k)) m) (λ k. f (n * m + k)) n)

-- the sums of the first 1, 2, .., n terms, summed: term r stands in n - r of them
pub total-running : (f : ℕ → ℕ) (n : ℕ) → total (λ m. total f (m + 1)) n ≡ total (λ r. (n - r) * f r) n
unfolding total
total-running f zero = refl
total-running f (suc n) =
    let h = total-running f n in
    let more : total (λ r. (suc n - r) * f r) n ≡ total (λ r. (n - r) * f r + f r) n = total-same _ _ n one_more in
    let parts = total-plus (λ r. (n - r) * f r) f n in
    let last : (suc n - n) * f n ≡ f n = (let e : suc n - n ≡ 1 = omega arith in rw e (omega arith)) in
    let whole : total f (n + 1) ≡ total f n + f n = ap (total f) (add-one n) in
    omega arith
  where
    one_more : (r : ℕ) → r < n → (suc n - r) * f r ≡ (n - r) * f r + f r
    one_more r p = let e : suc n - r ≡ suc (n - r) = omega arith in rw e (omega arith)
