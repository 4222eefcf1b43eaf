-- What the search for the first fault ends in: what no fault gives, or the first fault, with none below it.
use mathlib.Core.Path.{◌≡◌}
use mathlib.Core.Logic.{◌⊎◌, inl, inr, ⊎_elim}
use Prim.Native.Nat.{ℕ, zero, suc, ◌+◌, ◌≤◌, ◌<◌}
use native.Mathlib.Decide.{dec_lt}
use native.Mathlib.Omega.{arith}
use borrow.Author.Tests.{eqb-true, eqb-false}
use lib.Dec.{eqb}
use Rattle.fixed.specs.Loops.{first_from}
use Rattle.fixed.proofs.Decide.{cond_ind}

module _ {A : Type 0} (none : A) (refused : ℕ → ℕ → A) (f : ℕ → ℕ) where
  -- the first fault of n blocks from block i on is that of block `at`, and gives y
  pub record First (i n : ℕ) (y : A) : Type 0 where
    pub at : ℕ
    pub from : i ≤ at
    pub below : at < i + n
    pub gives : refused (f at) at ≡ y
    pub fault : f at ≡ 0 → ⊥
    pub clean : (j : ℕ) → i ≤ j → j < at → f j ≡ 0

  -- it is not block i, but one after it
  later : (i n : ℕ) (y : A) → f i ≡ 0 → First (suc i) n y → First i (suc n) y
  later i n y e r =
      record {
        at = r.at;
        from = omega (arith, r.from);
        below = omega (arith, r.below);
        gives = r.gives;
        fault = r.fault;
        clean = λ j p l. before j (dec_lt i j) p l;
      }
    where
      before : (j : ℕ) → Dec (i < j) → i ≤ j → j < r.at → f j ≡ 0
      before j (yes q) p l = r.clean j (omega arith) l
      before j (no q) p l = let same : j ≡ i = omega arith in rw same e

  -- it is block i
  here : (i n : ℕ) (y : A) → (f i ≡ 0 → ⊥) → refused (f i) i ≡ y → First i (suc n) y
  here i n y h e =
      record {
        at = i;
        from = omega arith;
        below = omega arith;
        gives = e;
        fault = h;
        clean = λ j p l. absurd (omega arith);
      }

  pub first-ways : (i n : ℕ) (y : A) → first_from none refused f i n ≡ y → (none ≡ y) ⊎ First i n y
  unfolding first_from
  first-ways i zero y e = inl e
  first-ways i (suc n) y e = cond_ind P (eqb (f i) 0)
      (λ t d. ⊎_elim inl (λ r. inr (later i n y (eqb-true _ _ t) r)) (first-ways (suc i) n y d))
      (λ t d. inr (here i n y (eqb-false _ _ t) d)) e
    where
      P : A → Type 0
      P x = x ≡ y → (none ≡ y) ⊎ First i (suc n) y
