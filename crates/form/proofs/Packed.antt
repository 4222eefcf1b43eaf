-- Kinds that are compared with bits, and the place whose kinds the stack has.
use mathlib.Core.Path.{◌≡◌, refl, sym, ap, ◌∙◌}
use mathlib.Core.Bool.{Bool, true, false, true≢false}
use mathlib.Core.List.{List, [], ◌∷◌}
use Prim.Native.Nat.{ℕ, zero, suc, ◌+◌, ◌-◌, ◌/◌, ◌%◌, ◌≤◌, ◌<◌}
use native.Mathlib.Omega.{arith}
use native.Mathlib.Decide.{dec_lt}
use lib.IntN.{ℤ, pos, negsuc, nat_abs}
use lib.Dec.{eqb}
use lib.ListN.{get_or, drop}
use lib.Seq.{drop-drop}
use borrow.Author.Tests.{le-leb}
use Rattle.fixed.proofs.Decide.{both}
use Rattle.stack.specs.Stack.{truth, same_z, same_kinds}
use Rattle.stack.specs.Memory.{stack_of}
use Rattle.stack.specs.Operators.{is_true}
use Rattle.stack.proofs.Same.{same-eq}
use Rattle.stack.proofs.Stacks.{stack-drop}
use Rattle.form.specs.Paths.{met, at, comes}
use Rattle.form.specs.Table.{kinds_up, low_part, place_at, places_from, bits_of}
use Rattle.form.proofs.Tables.{part-le, up_none, places-get, come-past}
use Rattle.form.proofs.Turns.{no-ill, came, stays-met}
use Rattle.form.proofs.Passes.{bits-drop}

-- ---- the same is what is one

same_z-refl : (x : ℤ) → same_z x x ≡ true
same_z-refl (pos a) = let h : a ≤ a = omega arith in both (le-leb a a h) (le-leb a a h)
same_z-refl (negsuc a) = let h : a ≤ a = omega arith in both (le-leb a a h) (le-leb a a h)

same-refl : (x : List ℤ) → same_kinds x x ≡ true
unfolding same_kinds
same-refl [] = refl
same-refl (x ∷ xs) = both (same_z-refl x) (same-refl xs)

not-same : (x y : List ℤ) → (x ≡ y → ⊥) → false ≡ same_kinds x y
not-same x y ne = by (same_kinds x y) refl
  where
    by : (b : Bool) → same_kinds x y ≡ b → false ≡ same_kinds x y
    by true e = absurd (ne (same-eq x y e))
    by false e = sym e

-- ---- kinds and bits

up-drop : (v n : ℕ) (ks : List ℤ) → drop n (kinds_up v n ks) ≡ ks
unfolding kinds_up
up-drop v zero ks = refl
up-drop v (suc n) ks =
    ap (λ (k : ℕ). drop k (kinds_up (v / 2) n (truth (eqb (v % 2) 1) ∷ ks))) (let e : suc n ≡ n + 1 = omega arith in e)
    ∙ (sym (drop-drop 1 n (kinds_up (v / 2) n (truth (eqb (v % 2) 1) ∷ ks))) ∙ ap (drop 1) (up-drop (v / 2) n (truth (eqb (v % 2) 1) ∷ ks)))

-- the top of a stack, but for its lowest i
bits-top : (a : List ℤ) (to i : ℕ) → i ≤ to → drop (to - i) (bits_of (stack_of a to)) ≡ bits_of (stack_of a i)
bits-top a to i le = sym (bits-drop (to - i) (stack_of a to)) ∙ (ap bits_of (stack-drop a to (to - i)) ∙ ap (λ (k : ℕ). bits_of (stack_of a k)) (let e : to - (to - i) ≡ i = omega arith in e))

bit-eq : (b c : ℕ) → b ≤ 1 → c ≤ 1 → truth (eqb b 1) ≡ truth (eqb c 1) → b ≡ c
bit-eq zero zero h g e = refl
bit-eq zero (suc zero) h g e = absurd (let f : 0 ≡ 1 = ap nat_abs e in omega arith)
bit-eq zero (suc (suc c)) h g e = absurd (omega arith)
bit-eq (suc zero) zero h g e = absurd (let f : 1 ≡ 0 = ap nat_abs e in omega arith)
bit-eq (suc zero) (suc zero) h g e = refl
bit-eq (suc zero) (suc (suc c)) h g e = absurd (omega arith)
bit-eq (suc (suc b)) c h g e = absurd (omega arith)

module _ (a : List ℤ) (to i v : ℕ) where
  kind-at : i < to → bits_of (stack_of a to) ≡ kinds_up v (to - i) (bits_of (stack_of a i)) → truth (is_true (get_or a i (pos 0))) ≡ truth (eqb (v % 2) 1)
  unfolding bits_of stack_of kinds_up
  kind-at lt e =
      let f : to - i ≡ suc (to - suc i) = omega arith in
      let le : suc i ≤ to = omega arith in
      let r : drop (to - suc i) (kinds_up v (to - i) (bits_of (stack_of a i))) ≡ truth (eqb (v % 2) 1) ∷ bits_of (stack_of a i) =
      ap (λ (k : ℕ). drop (to - suc i) (kinds_up v k (bits_of (stack_of a i)))) f ∙ up-drop (v / 2) (to - suc i) (truth (eqb (v % 2) 1) ∷ bits_of (stack_of a i)) in
      ap (λ (l : List ℤ). get_or l 0 (pos 0)) (sym (bits-top a to (suc i) le) ∙ (ap (drop (to - suc i)) e ∙ r))

  pub kind-differs : (b : ℕ) → i < to → truth (eqb b 1) ≡ truth (is_true (get_or a i (pos 0))) → b ≤ 1 → (b ≡ v % 2 → ⊥) → false ≡ same_kinds (bits_of (stack_of a to)) (kinds_up v (to - i) (bits_of (stack_of a i)))
  kind-differs b lt eb small ne = not-same _ _ (λ e. ne (bit-eq b (v % 2) small (omega arith) (eb ∙ kind-at lt e)))

  pub kind-agrees : (b : ℕ) {ks : List ℤ} → i < to → truth (eqb b 1) ≡ truth (is_true (get_or a i (pos 0))) → b ≡ v % 2 → kinds_up v (to - i) (bits_of (stack_of a i)) ≡ ks → kinds_up (v / 2) (to - (i + 1)) (bits_of (stack_of a (i + 1))) ≡ ks
  unfolding bits_of stack_of kinds_up
  kind-agrees b {ks} lt eb ev inv =
      let k : i + 1 ≡ suc i = omega arith in
      let e : suc (to - (i + 1)) ≡ to - i = omega arith in
      ap (λ (n : ℕ). kinds_up (v / 2) (to - (i + 1)) (bits_of (stack_of a n))) k
      ∙ (ap (λ (z : ℤ). kinds_up (v / 2) (to - (i + 1)) (z ∷ bits_of (stack_of a i))) (sym eb ∙ ap (λ (n : ℕ). truth (eqb n 1)) ev)
      ∙ (ap (λ (n : ℕ). kinds_up v n (bits_of (stack_of a i))) e ∙ inv))

  pub kinds-through : i ≡ to → true ≡ same_kinds (bits_of (stack_of a to)) (kinds_up v (to - i) (bits_of (stack_of a i)))
  kinds-through e =
      let z : to - i ≡ 0 = omega arith in
      sym (ap (same_kinds (bits_of (stack_of a to))) (up_none v (to - i) (bits_of (stack_of a i)) z ∙ ap (λ (n : ℕ). bits_of (stack_of a n)) e) ∙ same-refl (bits_of (stack_of a to)))

-- ---- a row

module _ (a : List ℤ) (h x y m : ℕ) (m-is : m ≡ low_part h) (low : Bool) (low-is : low ≡ same_kinds (bits_of (stack_of a m)) (kinds_up x (m - 0) (bits_of (stack_of a 0)))) where
  part-is : kinds_up x (m - 0) (bits_of (stack_of a 0)) ≡ kinds_up x (low_part h) []
  unfolding bits_of stack_of
  part-is = ap (λ (n : ℕ). kinds_up x n []) (let e : m - 0 ≡ m = omega arith in e ∙ m-is)

  pub row-high : low ≡ true → (r : Bool) → r ≡ same_kinds (bits_of (stack_of a h)) (kinds_up y (h - m) (bits_of (stack_of a m))) → r ≡ same_kinds (bits_of (stack_of a h)) (kinds_up y (h - low_part h) (kinds_up x (low_part h) []))
  row-high e r f =
      f ∙ (λ i. same_kinds (bits_of (stack_of a h)) (kinds_up y (h - m-is i) ((same-eq _ _ (sym low-is ∙ e) ∙ part-is) i)))

  pub row-low : low ≡ false → false ≡ same_kinds (bits_of (stack_of a h)) (kinds_up y (h - low_part h) (kinds_up x (low_part h) []))
  row-low e = not-same _ _ (λ f. true≢false (sym (same-refl (bits_of (stack_of a m))) ∙ (ap (same_kinds (bits_of (stack_of a m))) (part f) ∙ (sym low-is ∙ e))))
    where
      part : bits_of (stack_of a h) ≡ kinds_up y (h - low_part h) (kinds_up x (low_part h) []) → bits_of (stack_of a m) ≡ kinds_up x (m - 0) (bits_of (stack_of a 0))
      part f =
          let le : m ≤ h = rw m-is (part-le h) in
          sym (bits-top a h m le)
          ∙ (ap (λ (n : ℕ). drop (h - n) (bits_of (stack_of a h))) m-is
          ∙ (ap (drop (h - low_part h)) f ∙ (up-drop y (h - low_part h) (kinds_up x (low_part h) []) ∙ sym part-is)))

-- ---- the place to which a path came, in the table

module _ (t t' : List ℕ) (n q : ℕ) (ks : List ℤ) (e : at (places_from t' 0 n) ≡ comes ks q (places_from t 0 n)) where
  pub within : q < n
  within = by (dec_lt q n)
    where
      by : Dec (q < n) → q < n
      by (yes h) = h
      by (no h) = let l : n ≤ q = omega arith in absurd (no-ill (e ∙ sym (come-past t n q ks l)))

  pub came-to : place_at t' q ≡ met ks
  came-to = let z : 0 + q ≡ q = omega arith in sym (places-get t' 0 n q within ∙ ap (place_at t') z) ∙ came ks q (places_from t 0 n) (places_from t' 0 n) e

  pub stays-at : (r : ℕ) → r < n → place_at t r ≡ met ks → place_at t' r ≡ met ks
  stays-at r lt f =
      let z : 0 + r ≡ r = omega arith in
      sym (places-get t' 0 n r lt ∙ ap (place_at t') z) ∙ stays-met ks q r (places_from t 0 n) (places_from t' 0 n) e (places-get t 0 n r lt ∙ (ap (place_at t) z ∙ f))
