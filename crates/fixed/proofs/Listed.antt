-- Laws of specs/Values.antt: lists that a function lists, values that it fills, and the index that a value picks; and lists of zeros.
use mathlib.Core.Path.{◌≡◌, refl, ap, ◌∙◌, sym, subst}
use mathlib.Core.Bool.{false, cond}
use mathlib.Core.List.{List, [], ◌∷◌, ◌++◌}
use Prim.Native.Nat.{ℕ, zero, suc, ◌+◌, ◌*◌, ◌≤◌, ◌<◌}
use native.Mathlib.Nat.{le_refl, mul-le-mul, mul-add, mul-one, mul_comm}
use native.Mathlib.Numerals.{add-one}
use native.Mathlib.Omega.{arith}
use native.Mathlib.Decide.{dec_lt}
use lib.IntN.{ℤ, pos, negsuc, nat_abs}
use lib.Signed.{lt_z}
use lib.ListN.{length, get_or, set, replicate, length-append, get_or-append, length-set}
use lib.Seq.{get_or_at, sets}
use borrow.Author.Tests.{ltb-false}
use Rattle.fixed.specs.Numbers.{limited, half_up, round_index}
use Rattle.fixed.specs.Values.{value, listed, filled, index_of}
use Rattle.fixed.proofs.Decide.{cond_ind}
use Rattle.fixed.proofs.Stores.{sets-append}

pub listed-length : (f : ℕ → ℤ) (n : ℕ) → length (listed f n) ≡ n
unfolding listed
listed-length f zero = refl
listed-length f (suc n) = length-append (listed f n) (f n ∷ []) ∙ rw (listed-length f n) (omega arith)

at_last : (f : ℕ → ℤ) (n k : ℕ) → Dec (k < n) → k < suc n → (k < n → value (listed f n) k ≡ f k) → value (listed f n ++ (f n ∷ [])) k ≡ f k
at_last f n k (yes q) h r = get_or-append (listed f n) (f n ∷ []) (pos 0) k (rw (listed-length f n) q) ∙ r q
at_last f n k (no q) h r =
    let e : k ≡ n = omega arith in
    rw e (get_or_at (listed f n) (f n) [] (pos 0) n (listed-length f n))

pub listed-value : (f : ℕ → ℤ) (n k : ℕ) → k < n → value (listed f n) k ≡ f k
unfolding listed
listed-value f zero k h = absurd (omega arith)
listed-value f (suc n) k h = at_last f n k (dec_lt k n) h (listed-value f n k)

-- one more element, stored after those listed
pub listed-turn : (f : ℕ → ℤ) (d : List ℤ) (at j : ℕ) {u : List ℤ} {x : ℤ} → u ≡ sets d at (listed f j) → x ≡ f j → set u (at + j) x ≡ sets d at (listed f (j + 1))
unfolding listed
listed-turn f d at j {u} {x} e h =
    ap (λ (l : List ℤ). set l (at + j) x) e ∙
    (ap (λ (k : ℕ). set (sets d at (listed f j)) (at + k) x) (sym (listed-length f j)) ∙
    (ap (λ (y : ℤ). set (sets d at (listed f j)) (at + length (listed f j)) y) h ∙
    (sets-append (listed f j) d at (f j ∷ []) ∙ ap (λ (k : ℕ). sets d at (listed f k)) (sym (add-one j)))))

pub filled-length : (f : ℕ → ℤ) (m : ℕ) (v : List ℤ) → length (filled f m v) ≡ length v
unfolding filled
filled-length f zero v = refl
filled-length f (suc m) v = length-set (filled f m v) m (f m) ∙ filled-length f m v

pub filled-same : (f g : ℕ → ℤ) (m : ℕ) (v : List ℤ) → ((k : ℕ) → k < m → f k ≡ g k) → filled f m v ≡ filled g m v
unfolding filled
filled-same f g zero v h = refl
filled-same f g (suc m) v h = rw (filled-same f g m v (λ k lt. h k (omega arith)), h m (omega arith))

-- one more value of a loop
pub filled-turn : (f : ℕ → ℤ) (k : ℕ) (v : List ℤ) {u : List ℤ} {x : ℤ} → u ≡ filled f k v → x ≡ f k → set u k x ≡ filled f (k + 1) v
unfolding filled
filled-turn f k v {x = x} e h = ap (λ (l : List ℤ). set l k x) e ∙ rw (add-one k, h)

-- the index that a value picks
module _ (r h : ℕ) (x : ℤ) (e : pos r ≡ round_index x h) where
  pub index_is : r ≡ index_of x h
  unfolding index_of
  index_is = ap nat_abs e

  within : (z : ℤ) → pos r ≡ limited (pos 0) (pos h) z → r ≤ h
  unfolding limited
  within z =
      cond_ind P (lt_z z (pos 0)) (λ _ f. let g : r ≡ 0 = ap nat_abs f in omega arith) (λ _.
      cond_ind P (lt_z (pos h) z) (λ _ f. let g : r ≡ h = ap nat_abs f in omega arith) (λ t f.
      ltb-false h r (subst (λ (y : ℤ). lt_z (pos h) y ≡ false) (sym f) t)))
    where
      P : ℤ → Type 0
      P y = pos r ≡ y → r ≤ h

  pub index-le : r ≤ h
  index-le = within (half_up x 1000000) e

-- what is limited to 0..h is at most h
pub limited-within : (h : ℕ) (z : ℤ) → nat_abs (limited (pos 0) (pos h) z) ≤ h
unfolding limited
limited-within h z = by_sign z
  where
    P : ℤ → Type 0
    P y = nat_abs y ≤ h

    by_sign : (z : ℤ) → nat_abs (cond (lt_z z (pos 0)) (pos 0) (cond (lt_z (pos h) z) (pos h) z)) ≤ h
    by_sign (pos k) = cond_ind P (lt_z (pos k) (pos 0)) (λ _. omega arith) (λ _. cond_ind P (lt_z (pos h) (pos k)) (λ _. le_refl h) (λ t. ltb-false h k t))
    by_sign (negsuc k) = omega arith

pub index-within : (x : ℤ) (h : ℕ) → index_of x h ≤ h
unfolding index_of
index-within x h = limited-within h (half_up x 1000000)

-- row i of m entries lies in a table of h + 1 rows
pub row_room : (m h i k : ℕ) → i ≤ h → k < m → i * m + k < m * (h + 1)
row_room m h i k le lt =
    let a : i + 1 ≤ h + 1 = omega arith in
    let r : m * (i + 1) ≤ m * (h + 1) = mul-le-mul (le_refl m) a in
    let s : m * (i + 1) ≡ i * m + m = rw (mul-add m i 1, mul-one m, mul_comm m i) in
    omega arith

-- a list of zeros has 0 at every place, and past its end
pub zeros-at : (m k : ℕ) → get_or (replicate {A = ℕ} m 0) k 0 ≡ 0
zeros-at zero k = refl
zeros-at (suc m) zero = refl
zeros-at (suc m) (suc k) = zeros-at m k
