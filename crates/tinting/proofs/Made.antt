-- Steps 12 and 13 from what a function computes; a tint more on the stack; and results past the last value change none.
use mathlib.Core.Path.{◌≡◌, refl, sym, ap, ◌∙◌}
use mathlib.Core.Bool.{Bool, ◌||◌}
use mathlib.Core.List.{List, ◌∷◌}
use Prim.Native.Nat.{ℕ, zero, suc, ◌+◌, ◌≤◌, ◌<◌, min}
use native.Mathlib.Omega.{arith}
use native.Mathlib.Decide.{dec_lt}
use native.Mathlib.Numerals.{add-one}
use lib.IntN.{ℤ, pos}
use lib.ListN.{length, set}
use lib.Seq.{set_out}
use Rattle.fixed.specs.Numbers.{limited, outside}
use Rattle.fixed.specs.Values.{value, filled}
use Rattle.fixed.specs.declared.values.Colour.{Colour}
use Rattle.fixed.proofs.Listed.{filled-length}
use Rattle.stack.specs.Memory.{stack_of}
use Rattle.stack.specs.Stack.{pushed}
use Rattle.stack.proofs.Stacks.{stack_push}
use borrow.Author.Tests.{lt-ltb}
use Rattle.form.specs.Steps.{tints_in, tints_outside, form_step, form_values}

-- ---- the step from what a function computes: u are the values that the words leave, b whether one of t tints was moved

pub form-made : (c : Colour) (t m : ℕ) (ws : List ℤ) {u : List ℤ} {b : Bool} → u ≡ form_values t m ws c.values → b ≡ tints_outside t c.values
    → ◌≡◌ {A = Colour} (record { values = u; moved = c.moved || b }) (form_step t m ws c)
unfolding form_step
form-made c t m ws p f = λ i. record { values = p i; moved = c.moved || f i }

-- ---- the tints: one more on the stack, and one more looked at

tints-length : (k : ℕ) (v : List ℤ) → length (tints_in k v) ≡ k
unfolding tints_in
tints-length zero v = refl
tints-length (suc k) v = ap suc (tints-length k v)

-- of a stack in an array, and of one that is pushed on
pub tint-turn : (a : List ℤ) (k : ℕ) (v : List ℤ) {x : ℤ} → k < length a → stack_of a k ≡ tints_in k v → x ≡ limited (pos 0) (pos 1000000) (value v k) → stack_of (set a k x) (k + 1) ≡ tints_in (k + 1) v
unfolding tints_in
tint-turn a k v {x} h e f = ap (stack_of (set a k x)) (add-one k) ∙ (stack_push a k x h ∙ ((λ i. f i ∷ e i) ∙ ap (λ (n : ℕ). tints_in n v) (let g : suc k ≡ k + 1 = omega arith in g)))

pub tint-pushed : (k : ℕ) (v : List ℤ) {s u : List ℤ} {x : ℤ} → k < 100 → s ≡ tints_in k v → u ≡ pushed x s → x ≡ limited (pos 0) (pos 1000000) (value v k) → u ≡ tints_in (k + 1) v
unfolding tints_in pushed
tint-pushed k v {s} {u} {x} h e f g =
    let l : length s < 100 = omega (arith, ap length e, tints-length k v) in
    f ∙ (simp (lt-ltb (length s) 100 l) ((λ i. g i ∷ e i) ∙ ap (λ (n : ℕ). tints_in n v) (let d : suc k ≡ k + 1 = omega arith in d)))

pub moving-turn : (k : ℕ) (v : List ℤ) {b o : Bool} → o ≡ tints_outside k v → b ≡ outside (pos 0) (pos 1000000) (value v k) → (o || b) ≡ tints_outside (k + 1) v
unfolding tints_outside
moving-turn k v e f = (λ i. e i || f i) ∙ ap (λ (n : ℕ). tints_outside n v) (let g : suc k ≡ k + 1 = omega arith in g)

-- ---- results past the last value change none

pub filled-past : (f : ℕ → ℤ) (m n : ℕ) (v : List ℤ) → length v ≤ n → n ≤ m → filled f m v ≡ filled f n v
unfolding filled
filled-past f zero n v h k = let e : n ≡ 0 = omega arith in rw e
filled-past f (suc m) n v h k = by (filled-past f m n v h) (dec_lt m n)
  where
    by : (n ≤ m → filled f m v ≡ filled f n v) → Dec (m < n) → set (filled f m v) m (f m) ≡ filled f n v
    by on (yes q) = let e : n ≡ suc m = omega arith in rw e
    by on (no q) = let g : n ≤ m = omega arith in set_out (filled f m v) m (f m) (rw filled-length (omega arith)) ∙ on g

pub filled-min : (f : ℕ → ℤ) (m n : ℕ) (v : List ℤ) → length v ≤ n → filled f (min m n) v ≡ filled f m v
filled-min f m n v h = by (dec_lt n m)
  where
    by : Dec (n < m) → filled f (min m n) v ≡ filled f m v
    by (yes p) = ap (λ (k : ℕ). filled f k v) (let e : min m n ≡ n = omega arith in e) ∙ sym (filled-past f m n v h (omega arith))
    by (no p) = ap (λ (k : ℕ). filled f k v) (let e : min m n ≡ m = omega arith in e)
