-- Decisions: a test of the code, which is what the definition's test says, and the answer is that of the branch taken.
use mathlib.Core.Path.{◌≡◌, refl, sym, ◌∙◌}
use mathlib.Core.Bool.{Bool, true, false, ◌&&◌, ◌||◌, true≢false, cond}
use Prim.Native.Nat.{ℕ, ◌≤◌, ◌<◌}
use borrow.Author.Tests.{eq-eqb, ne_eqb, lt-ltb, le-ltb, le-leb}
use lib.Dec.{eqb, ltb, leb}

-- both sides of a test that passed
pub and_left : (a b : Bool) → (a && b) ≡ true → a ≡ true
and_left true b e = refl
and_left false b e = e

pub and_right : (a b : Bool) → (a && b) ≡ true → b ≡ true
and_right true b e = e
and_right false b e = absurd (true≢false (sym e))

pub both : {a b : Bool} → a ≡ true → b ≡ true → (a && b) ≡ true
both p q = rw (p, q)

-- the second side of a test matters only where the first passed
pub and_same : (a : Bool) {x y : Bool} → (a ≡ true → x ≡ y) → (a && x) ≡ (a && y)
and_same true h = h refl
and_same false h = refl

-- one of two tests passed
pub or-ind : {C : Type 0} (s t : Bool) → (s || t) ≡ true → (s ≡ true → C) → (t ≡ true → C) → C
or-ind true t h f g = f refl
or-ind false t h f g = g h

-- a property of both branches, each under its test
pub cond_ind : {A : Type 0} (P : A → Type 0) (t : Bool) {x y : A} → (t ≡ true → P x) → (t ≡ false → P y) → P (cond t x y)
cond_ind P true f g = f refl
cond_ind P false f g = g refl

-- a test that refuses with k, and did not
pub passed : (t : Bool) (x k : ℕ) → (k ≡ 0 → ⊥) → cond t x k ≡ 0 → (t ≡ true) × (x ≡ 0)
passed true x k h e = (refl, e)
passed false x k h e = absurd (h e)

module _ {A : Type 0} where
  pub is-yes : (u : Bool) (a b r : A) {t : Bool} → t ≡ u → t ≡ true → r ≡ a → r ≡ cond u a b
  is-yes u a b r e h q = rw (← e, h, q)

  pub is-no : (u : Bool) (a b r : A) {t : Bool} → t ≡ u → t ≡ false → r ≡ b → r ≡ cond u a b
  is-no u a b r e h q = rw (← e, h, q)

  pub eq_yes : (y n : ℕ) (a b r : A) {x : ℕ} → x ≡ y → x ≡ n → r ≡ a → r ≡ cond (eqb y n) a b
  eq_yes y n a b r e h q = is-yes _ a b r refl (eq-eqb y n (sym e ∙ h)) q

  pub eq_no : (y n : ℕ) (a b r : A) {x : ℕ} → x ≡ y → (x ≡ n → ⊥) → r ≡ b → r ≡ cond (eqb y n) a b
  eq_no y n a b r e h q = is-no _ a b r refl (ne_eqb y n (λ z. h (e ∙ z))) q

  pub lt_yes : (y n : ℕ) (a b r : A) {x : ℕ} → x ≡ y → x < n → r ≡ a → r ≡ cond (ltb y n) a b
  lt_yes y n a b r e h q = is-yes _ a b r refl (lt-ltb y n (rw e at h)) q

  pub lt_no : (y n : ℕ) (a b r : A) {x : ℕ} → x ≡ y → n ≤ x → r ≡ b → r ≡ cond (ltb y n) a b
  lt_no y n a b r e h q = is-no _ a b r refl (le-ltb y n (rw e at h)) q

  pub le_yes : (y n : ℕ) (a b r : A) {x : ℕ} → x ≡ y → x ≤ n → r ≡ a → r ≡ cond (leb y n) a b
  le_yes y n a b r e h q = is-yes _ a b r refl (le-leb y n (rw e at h)) q
