-- The laws of the loops of specs/Loops.antt, each once: what a turn adds, and what a turn that stops settles.
use mathlib.Core.Path.{◌≡◌, refl, ap, ◌∙◌, sym}
use mathlib.Core.Bool.{Bool, true, false, ◌&&◌, cond}
use Prim.Native.Nat.{ℕ, zero, suc, ◌+◌, ◌-◌, ◌≤◌, ◌<◌}
use native.Mathlib.Nat.{add-zero}
use native.Mathlib.Numerals.{add-one}
use native.Mathlib.Omega.{arith}
use borrow.Author.Tests.{eqb-true, eq-eqb, ne_eqb}
use lib.Dec.{eqb}
use Rattle.fixed.specs.Loops.{all_from, all_between, first_from}
use Rattle.fixed.proofs.Decide.{and_left, and_right, cond_ind}

-- The loop that looks for the first fault: `Clean none refused f n i` is its invariant, that blocks below i have none.
module _ {A : Type 0} (none : A) (refused : ℕ → ℕ → A) (f : ℕ → ℕ) (n : ℕ) where
  pub record Clean (i : ℕ) : Type 0 where
    pub rest : first_from none refused f 0 n ≡ first_from none refused f i (n - i)

  first_more : (i : ℕ) → i < n → first_from none refused f i (n - i) ≡ cond (eqb (f i) 0) (first_from none refused f (i + 1) (n - (i + 1))) (refused (f i) i)
  unfolding first_from
  first_more i h = let e : n - i ≡ suc (n - (i + 1)) = omega arith in rw (e, add-one)

  pub clean-start : Clean 0
  clean-start = let e : n - 0 ≡ n = omega arith in record { rest = rw e }

  pub clean-turn : (i code : ℕ) → Clean i → i < n → code ≡ f i → code ≡ 0 → Clean (i + 1)
  clean-turn i code c h e z = record { rest = c.rest ∙ first_more i h ∙ rw (eq-eqb (f i) 0 (sym e ∙ z)) }

  pub clean-stop : (i code : ℕ) → Clean i → i < n → code ≡ f i → (code ≡ 0 → ⊥) → refused code i ≡ first_from none refused f 0 n
  clean-stop i code c h e z = sym (c.rest ∙ first_more i h ∙ rw (ne_eqb (f i) 0 (λ w. z (e ∙ w))) (ap (λ (k : ℕ). refused k i) (sym e)))

  pub clean_end : (i : ℕ) → Clean i → n ≤ i → none ≡ first_from none refused f 0 n
  unfolding first_from
  clean_end i c h = let e : n - i ≡ 0 = omega arith in sym (c.rest ∙ rw e)

-- Where the search for the first fault ends in what no fault gives, no block has a fault; and where none has, it ends so.

-- a block and those after it
from_next : (f : ℕ → ℕ) (i n : ℕ) → f i ≡ 0 → ((k : ℕ) → k < n → f (suc i + k) ≡ 0) → (k : ℕ) → k < suc n → f (i + k) ≡ 0
from_next f i n e h zero l = rw (add-zero i) e
from_next f i n e h (suc k) l = let p : i + suc k ≡ suc i + k = omega arith in rw p (h k (omega arith))

module _ {A : Type 0} (none : A) (refused : ℕ → ℕ → A) (f : ℕ → ℕ) where
  -- y is none of the refusals
  module _ (y : A) (never : (k i : ℕ) → refused k i ≡ y → ⊥) where
    from-none : (n i : ℕ) → first_from none refused f i n ≡ y → (none ≡ y) × ((k : ℕ) → k < n → f (i + k) ≡ 0)
    unfolding first_from
    from-none zero i e = (e, λ k l. absurd (omega arith))
    from-none (suc n) i e = cond_ind P (eqb (f i) 0)
        (λ t d. let r = from-none n (suc i) d in (r.0, from_next f i n (eqb-true _ _ t) r.1))
        (λ _ d. absurd (never (f i) i d)) e
      where
        P : A → Type 0
        P x = x ≡ y → (none ≡ y) × ((k : ℕ) → k < suc n → f (i + k) ≡ 0)

    -- no fault was found, so there is none, and what follows the search is y
    pub first-none : (n : ℕ) → first_from none refused f 0 n ≡ y → (none ≡ y) × ((i : ℕ) → i < n → f i ≡ 0)
    first-none n e =
        let r = from-none n 0 e in
        (r.0, λ i l. let p : 0 + i ≡ i = omega arith in rw p at (r.1 i l))

  from_all : (n i : ℕ) → ((k : ℕ) → k < n → f (i + k) ≡ 0) → first_from none refused f i n ≡ none
  unfolding first_from
  from_all zero i h = refl
  from_all (suc n) i h =
      let e : f i ≡ 0 = rw (add-zero i) at (h 0 (omega arith)) in
      rw (eq-eqb _ _ e) (from_all n (suc i) (λ k l. let p : i + suc k ≡ suc i + k = omega arith in rw p at (h (suc k) (omega arith))))

  -- where there is no fault, none is found
  pub first-all : (n : ℕ) → ((i : ℕ) → i < n → f i ≡ 0) → first_from none refused f 0 n ≡ none
  first-all n h = from_all n 0 (λ k l. let p : 0 + k ≡ k = omega arith in rw p (h k l))

-- The loop that tests whether all pass: `Passing f from to k` is its invariant, that those below k do.
module _ (f : ℕ → Bool) (from to : ℕ) where
  pub record Passing (k : ℕ) : Type 0 where
    pub rest : all_between f from to ≡ all_from f k (to - k)

  all_more : (k : ℕ) → k < to → all_from f k (to - k) ≡ (f k && all_from f (k + 1) (to - (k + 1)))
  unfolding all_from
  all_more k h = let e : to - k ≡ suc (to - (k + 1)) = omega arith in rw (e, add-one)

  pub passing-start : Passing from
  passing-start = record { rest = refl }

  pub passing-turn : (k : ℕ) → Passing k → k < to → f k ≡ true → Passing (k + 1)
  passing-turn k a h e = record { rest = a.rest ∙ all_more k h ∙ rw e }

  pub passing-stop : (k : ℕ) → Passing k → k < to → f k ≡ false → false ≡ all_between f from to
  passing-stop k a h e = sym (a.rest ∙ all_more k h ∙ rw e)

  pub passing-end : (k : ℕ) → Passing k → to ≤ k → true ≡ all_between f from to
  unfolding all_from
  passing-end k a h = let e : to - k ≡ 0 = omega arith in sym (a.rest ∙ rw e)

  -- The same of a loop that goes on to the end, and gathers in z whether those below k pass.
  pub record Gathered (z : Bool) (k : ℕ) : Type 0 where
    pub rest : all_between f from to ≡ (z && all_from f k (to - k))

  pub gathered-start : Gathered true from
  gathered-start = record { rest = refl }

  pub gathered-turn : (z t : Bool) (k : ℕ) → Gathered z k → k < to → t ≡ f k → Gathered (z && t) (k + 1)
  gathered-turn true t k g h e = record { rest = g.rest ∙ all_more k h ∙ ap (λ (u : Bool). u && all_from f (k + 1) (to - (k + 1))) (sym e) }
  gathered-turn false t k g h e = record { rest = g.rest }

  pub gathered-end : (z : Bool) (k : ℕ) → Gathered z k → to ≤ k → z ≡ all_between f from to
  gathered-end true k g h = passing-end k (record { rest = g.rest }) h
  gathered-end false k g h = sym g.rest

-- a scan finds the same at two places where the tests agree one by one
pub all_same : (f g : ℕ → Bool) (j k n : ℕ) → ((i : ℕ) → i < n → f (j + i) ≡ g (k + i)) → all_from f j n ≡ all_from g k n
unfolding all_from
all_same f g j k zero h = refl
all_same f g j k (suc n) h = λ i. head i && all_same f g (suc j) (suc k) n tail i
  where
    head : f j ≡ g k
    head = let p : j + 0 ≡ j = add-zero j in let q : k + 0 ≡ k = add-zero k in rw (p, q) at (h 0 (omega arith))

    tail : (i : ℕ) → i < n → f (suc j + i) ≡ g (suc k + i)
    tail i l =
        let p : j + suc i ≡ suc j + i = omega arith in
        let q : k + suc i ≡ suc k + i = omega arith in
        rw (p, q) at (h (suc i) (omega arith))

-- where all pass, each does
pub all-each : (f : ℕ → Bool) (k n : ℕ) → all_from f k n ≡ true → (i : ℕ) → i < n → f (k + i) ≡ true
unfolding all_from
all-each f k zero e i l = absurd (omega arith)
all-each f k (suc n) e zero l = rw (add-zero k) (and_left (f k) _ e)
all-each f k (suc n) e (suc i) l =
    let p : k + suc i ≡ suc k + i = omega arith in
    rw p (all-each f (suc k) n (and_right (f k) _ e) i (omega arith))
