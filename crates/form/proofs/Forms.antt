-- The table at the start and the verdict at the end.
use mathlib.Core.Path.{◌≡◌, refl, sym, ap, ◌∙◌}
use mathlib.Core.Bool.{Bool, true, false, not, true≢false}
use mathlib.Core.List.{List, [], ◌∷◌}
use Prim.Native.Nat.{ℕ, zero, suc, ◌+◌, ◌*◌, ◌%◌, ◌<◌}
use native.Mathlib.Omega.{arith}
use lib.IntN.{ℤ, pos}
use lib.ListN.{length, get_or, replicate, length-replicate}
use lib.Dec.{eqb}
use borrow.Author.Tests.{eqb-true, lt-ltb, eq-eqb}
use Rattle.std.specs.Option.{option_eq}
use Rattle.std.specs.Prelude.{Option, None, Some}
use Rattle.stack.specs.Stack.{pushed, same_kinds}
use Rattle.stack.specs.Judging.{fits, wrong, judged}
use Rattle.stack.specs.Programs.{Code}
use Rattle.form.specs.Paths.{Place, unmet, met, at, ill, comes, checks, start_of, leaves_numbers}
use Rattle.stack.specs.Flat.{flat}
use Rattle.form.specs.Table.{kinds_at, place_at, place_by, places_from, bits_of, arrived, verdict}
use Rattle.form.proofs.Tables.{same-long, kinds-length, places-get}
use Rattle.form.proofs.Turns.{came}
use Rattle.form.proofs.Places.{unmets}
use Rattle.form.proofs.Judged.{flat-judged}

zero-at : (n i : ℕ) → ◌≡◌ {A = ℕ} (get_or (replicate n 0) i 0) 0
zero-at zero i = refl
zero-at (suc n) zero = refl
zero-at (suc n) (suc i) = zero-at n i

zeros-places : (n p k : ℕ) → places_from (replicate n 0) p k ≡ replicate k unmet
unfolding places_from
zeros-places n p zero = refl
zeros-places n p (suc k) = λ i. place_by (replicate n 0) p (zero-at n (2 * p) i % 128) ∷ zeros-places n (suc p) k i

-- the kinds of numbers are as a row keeps them
pub numbers-bits : (n : ℕ) → bits_of (replicate n (pos 0)) ≡ replicate n (pos 0)
unfolding bits_of
numbers-bits zero = refl
numbers-bits (suc n) = ap (λ (l : List ℤ). pos 0 ∷ l) (numbers-bits n)

starts : (t n : ℕ) (b : Bool) (ps : List Place) → arrived b ps ≡ start_of t n → at ps ≡ start_of t n
unfolding comes
starts t n true ps e = e
starts t n false ps e = let z : ill ≡ at (met (replicate t (pos 0)) ∷ replicate n unmet) = e ∙ ap (λ (k : ℕ). comes (replicate t (pos 0)) 0 (replicate k unmet)) (let f : n + 1 ≡ suc n = omega arith in f) in cc

none_left : (count : ℕ) → false ≡ leaves_numbers count wrong
unfolding leaves_numbers
none_left count = refl

few-left : (count : ℕ) (ks : List ℤ) → (length ks ≡ count → ⊥) → false ≡ leaves_numbers count (fits ks)
unfolding leaves_numbers
few-left count ks ne = sym (same-long (replicate count (pos 0)) ks (λ e. ne (sym e ∙ length-replicate count (pos 0))))

pub number-pushed : (i : ℕ) {s u : List ℤ} → i < 100 → s ≡ replicate i (pos 0) → u ≡ pushed (pos 0) s → u ≡ replicate (i + 1) (pos 0)
unfolding pushed
number-pushed i {s} lt e f =
    let l : length s < 100 = omega (arith, ap length e, length-replicate i (pos 0)) in
    f ∙ (simp (lt-ltb (length s) 100 l) (ap (λ (l : List ℤ). pos 0 ∷ l) e)) ∙ ap (λ (n : ℕ). replicate n (pos 0)) (let g : suc i ≡ i + 1 = omega arith in g)

pub same_some : (r : Option ℕ) (n : ℕ) → false ≡ not (option_eq eqb r (Some n)) → r ≡ Some n
same_some None n e = absurd (true≢false (sym e))
same_some (Some m) n e = by (eqb m n) refl e
  where
    by : (b : Bool) → eqb m n ≡ b → false ≡ not b → Some m ≡ Some n
    by true f g = ap Some (eqb-true m n f)
    by false f g = absurd (true≢false (sym g))

pub other_some : (r : Option ℕ) (n : ℕ) → true ≡ not (option_eq eqb r (Some n)) → r ≡ Some n → ⊥
other_some r n e f = true≢false (e ∙ (ap (λ (s : Option ℕ). not (option_eq eqb s (Some n))) f ∙ ap not (eq-eqb n n refl)))

-- at the start the first place has the kinds of the numbers
pub start-stands : (m taken n : ℕ) (b : Bool) (t : List ℕ) → arrived b (places_from t 0 (n + 1)) ≡ comes (bits_of (replicate taken (pos 0))) 0 (places_from (replicate m 0) 0 (n + 1)) → place_at t 0 ≡ met (replicate taken (pos 0))
start-stands m taken n b t e =
    let lt : 0 < n + 1 = omega arith in
    sym (places-get t 0 (n + 1) 0 lt)
    ∙ came (replicate taken (pos 0)) 0 (replicate (n + 1) unmet) (places_from t 0 (n + 1)) (starts taken n b (places_from t 0 (n + 1)) (e ∙ (λ i. comes (numbers-bits taken i) 0 (zeros-places m 0 (n + 1) i))))

module _ (m taken n : ℕ) (b : Bool) (t : List ℕ) (e : arrived b (places_from t 0 (n + 1)) ≡ comes (bits_of (replicate taken (pos 0))) 0 (places_from (replicate m 0) 0 (n + 1))) (ws : List ℤ) (r : Option ℕ) (u : List ℕ) (v : verdict r u n ≡ checks ws 0 (at (places_from t 0 (n + 1)))) (count : ℕ) where
  checked : verdict r u n ≡ checks ws 0 (start_of taken n)
  checked = v ∙ ap (checks ws 0) (starts taken n b (places_from t 0 (n + 1)) (e ∙ (λ i. comes (numbers-bits taken i) 0 (zeros-places m 0 (n + 1) i))))

  pub form-right : r ≡ Some count → (s : Bool) → s ≡ same_kinds (bits_of (replicate count (pos 0))) (kinds_at u n count) → s ≡ leaves_numbers count (checks ws 0 (start_of taken n))
  unfolding leaves_numbers
  form-right er s es =
      es ∙ (ap (λ (l : List ℤ). same_kinds l (kinds_at u n count)) (numbers-bits count)
      ∙ ap (leaves_numbers count) (ap (λ (i : Option ℕ). verdict i u n) (sym er) ∙ checked))

  pub form-wrong : (r ≡ Some count → ⊥) → false ≡ leaves_numbers count (checks ws 0 (start_of taken n))
  form-wrong ne = by r ne ∙ ap (leaves_numbers count) checked
    where
      by : (j : Option ℕ) → (j ≡ Some count → ⊥) → false ≡ leaves_numbers count (verdict j u n)
      by None ne = none_left count
      by (Some h) ne = few-left count (kinds_at u n h) (λ e. ne (ap Some (sym (kinds-length u n h) ∙ e)))

unmets-replicate : (n : ℕ) → unmets n (unmet ∷ []) ≡ replicate (n + 1) unmet
unfolding unmets
unmets-replicate zero = refl
unmets-replicate (suc n) = ap (λ (l : List Place). unmet ∷ l) (unmets-replicate n) ∙ ap (λ (k : ℕ). replicate k unmet) (let e : suc (n + 1) ≡ suc n + 1 = omega arith in e)

-- a program's words are well-formed for t values and m numbers just where the program is judged right and leaves m numbers
pub formed-judged : (t : ℕ) (c : Code) → checks (flat c) 0 (start_of t (length (flat c))) ≡ judged c (replicate t (pos 0))
formed-judged t c = ap (λ (l : List Place). checks (flat c) 0 (comes (replicate t (pos 0)) 0 l)) (sym (unmets-replicate (length (flat c)))) ∙ flat-judged c (replicate t (pos 0))
