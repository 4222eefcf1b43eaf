-- Bytes that are zero: those of a block that its page has, and those that it has not, which are zero.
use mathlib.Core.Path.{◌≡◌, refl, sym, ap, ◌∙◌}
use mathlib.Core.Bool.{Bool, true, ◌&&◌}
use mathlib.Core.List.{List}
use Prim.Native.Nat.{ℕ, zero, suc, ◌+◌, ◌-◌, ◌≤◌, ◌<◌, min}
use native.Mathlib.Nat.{add-zero}
use native.Mathlib.Omega.{arith}
use borrow.Author.Tests.{eq-eqb}
use lib.Dec.{eqb}
use lib.ListN.{length, get_or, take, drop, length-drop, get_or-eq_default}
use lib.Seq.{get_or-drop, get_or-take, length-take-le}
use Rattle.fixed.specs.Loops.{all_from, zero_between}

-- a scan of which only the first m numbers can fail
all-cut : (f g : ℕ → Bool) (j k m n : ℕ) → m ≤ n → ((i : ℕ) → i < m → f (j + i) ≡ g (k + i)) → ((i : ℕ) → m ≤ i → i < n → g (k + i) ≡ true) → all_from f j m ≡ all_from g k n
unfolding all_from
all-cut f g j k zero zero h a b = refl
all-cut f g j k zero (suc n) h a b =
    let e : g k ≡ true = rw (add-zero k) at (b 0 (omega arith) (omega arith)) in
    rw e (all-cut f g j (suc k) zero n (omega arith) (λ i l. absurd (omega arith)) (λ i l o. let q : k + suc i ≡ suc k + i = omega arith in rw q at (b (suc i) (omega arith) (omega arith))))
all-cut f g j k (suc m) zero h a b = absurd (omega arith)
all-cut f g j k (suc m) (suc n) h a b = λ t. head t && all-cut f g (suc j) (suc k) m n (omega arith) tail past t
  where
    head : f j ≡ g k
    head = let p : j + 0 ≡ j = add-zero j in let q : k + 0 ≡ k = add-zero k in rw (p, q) at (a 0 (omega arith))

    tail : (i : ℕ) → i < m → f (suc j + i) ≡ g (suc k + i)
    tail i l =
        let p : j + suc i ≡ suc j + i = omega arith in
        let q : k + suc i ≡ suc k + i = omega arith in
        rw (p, q) at (a (suc i) (omega arith))

    past : (i : ℕ) → m ≤ i → i < n → g (suc k + i) ≡ true
    past i l o = let q : k + suc i ≡ suc k + i = omega arith in rw q at (b (suc i) (omega arith) (omega arith))

-- the bytes from f to below e of a page, where these are the ends that a block's bytes have there
pub zeros-there : (p : List ℕ) (start from to e f : ℕ) → e ≡ min (start + to) (length p) → f ≡ min (start + from) e
    → zero_between (take (e - f) (drop f p)) 0 (length (take (e - f) (drop f p))) ≡ zero_between (drop start p) from to
unfolding zero_between
zeros-there p start from to e f g h =
    let long : length (take (e - f) (drop f p)) ≡ e - f = length-take-le (e - f) (drop f p) (simp length-drop (omega arith)) in
    let size : length (take (e - f) (drop f p)) - 0 ≡ e - f = omega arith in
    ap (all_from (λ k. eqb (get_or (take (e - f) (drop f p)) k 0) 0) 0) size
    ∙ all-cut _ _ 0 from (e - f) (to - from) (omega arith) same past
  where
    same : (i : ℕ) → i < e - f → eqb (get_or (take (e - f) (drop f p)) (0 + i) 0) 0 ≡ eqb (get_or (drop start p) (from + i) 0) 0
    same i l =
        let z : 0 + i ≡ i = omega arith in
        let q : f + i ≡ start + (from + i) = omega arith in
        ap (λ (x : ℕ). eqb x 0) (ap (λ (k : ℕ). get_or (take (e - f) (drop f p)) k 0) z ∙ get_or-take (e - f) (drop f p) i 0 l ∙ get_or-drop f p i 0 ∙ ap (λ (k : ℕ). get_or p k 0) q ∙ sym (get_or-drop start p (from + i) 0))

    past : (i : ℕ) → e - f ≤ i → i < to - from → eqb (get_or (drop start p) (from + i) 0) 0 ≡ true
    past i l o = let out : length p ≤ start + (from + i) = omega arith in
        eq-eqb _ _ (get_or-drop start p (from + i) 0 ∙ get_or-eq_default p 0 out)
