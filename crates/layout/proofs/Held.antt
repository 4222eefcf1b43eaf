-- Bytes that hold a list at a place. No bound is asked of the bytes: past their end they are 0.
use mathlib.Core.Path.{◌≡◌, refl, sym, ap, ◌∙◌, subst}
use mathlib.Core.List.{List, [], ◌∷◌, ◌++◌}
use mathlib.Core.Bool.{true}
use Prim.Native.Nat.{ℕ, zero, suc, ◌+◌, ◌-◌, ◌<◌, ◌≤◌}
use native.Mathlib.Nat.{add-zero, not-suc-le-zero}
use native.Mathlib.Omega.{arith}
use borrow.Author.Tests.{eqb-true, eq-eqb}
use lib.ListN.{length, get_or, drop, replicate, length-append, length-replicate, get_or-replicate, get_or-append}
use lib.Seq.{ext_get_or, get_or-append-add, get_or-drop}
use lib.Dec.{eqb}
use Rattle.fixed.specs.Loops.{all_from, zero_between}
use Rattle.fixed.proofs.Decide.{and_left, and_right}
use Rattle.layout.specs.Field.{padded}

-- l holds w from `at` on
pub record Holds (l : List ℕ) (at : ℕ) (w : List ℕ) : Type 0 where
  pub each : (i : ℕ) → i < length w → get_or l (at + i) 0 ≡ get_or w i 0

pub held-self : (l : List ℕ) → Holds l 0 l
held-self l = record { each = λ i h. let e : 0 + i ≡ i = omega arith in rw e }

module _ {l : List ℕ} {at : ℕ} where
  pub held-left : (u v : List ℕ) → Holds l at (u ++ v) → Holds l at u
  held-left u v h =
      record { each = λ i p. h.each i (simp length-append (omega arith)) ∙ get_or-append u v 0 i p }

  pub held-right : (u v : List ℕ) (k : ℕ) → k ≡ at + length u → Holds l at (u ++ v) → Holds l k v
  held-right u v k e h =
      record {
        each = λ i p.
            let q : k + i ≡ at + (length u + i) = omega arith in
            rw q (h.each (length u + i) (simp length-append (omega arith)) ∙ get_or-append-add u v i 0);
      }

pub held-nil : {l : List ℕ} {at : ℕ} → Holds l at []
held-nil = record { each = λ i p. omega arith }

pub held_cons : {l : List ℕ} {at x : ℕ} {w : List ℕ} → get_or l at 0 ≡ x → Holds l (suc at) w → Holds l at (x ∷ w)
held_cons {l} {at} {x} {w} e h = record { each = stepped }
  where
    stepped : (i : ℕ) → i < suc (length w) → get_or l (at + i) 0 ≡ get_or (x ∷ w) i 0
    stepped zero p = let q : at + 0 ≡ at = omega arith in rw q e
    stepped (suc i) p = let q : at + suc i ≡ suc at + i = omega arith in rw q (h.each i (omega arith))

pub held-head : {l : List ℕ} {at x : ℕ} {w : List ℕ} → Holds l at (x ∷ w) → get_or l at 0 ≡ x
held-head {l} {at} h = let q : at + 0 ≡ at = omega arith in rw q at (h.each 0 (omega arith))

pub held-tail : {l : List ℕ} {at x : ℕ} {w : List ℕ} → Holds l at (x ∷ w) → Holds l (suc at) w
held-tail {l} {at} h =
    record { each = λ i p. let q : suc at + i ≡ at + suc i = omega arith in rw q (h.each (suc i) (omega arith)) }

pub held-join : {l : List ℕ} {at : ℕ} (u v : List ℕ) (k : ℕ) → k ≡ at + length u → Holds l at u → Holds l k v → Holds l at (u ++ v)
held-join {l} {at} [] v k e g h = subst (λ (j : ℕ). Holds l j v) (e ∙ add-zero at) h
held-join (a ∷ u) v k e g h = held_cons (held-head g) (held-join u v k (omega arith) (held-tail g) h)

-- a list that holds another of its length is that list
pub held_whole : (l w : List ℕ) → length l ≡ length w → Holds l 0 w → l ≡ w
held_whole l w e h = ext_get_or 0 l w e (λ i p. let q : 0 + i ≡ i = omega arith in rw q at (h.each i (omega arith)))

-- ---- runs: n bytes of a list, whatever its length

pub length-padded : (n : ℕ) (s : List ℕ) → length (padded n s) ≡ n
unfolding padded
length-padded zero s = refl
length-padded (suc n) s = ap suc (length-padded n (drop 1 s))

pub get_d-padded : (n : ℕ) (s : List ℕ) (i : ℕ) → i < n → get_or (padded n s) i 0 ≡ get_or s i 0
unfolding padded
get_d-padded zero s i h = absurd (not-suc-le-zero h)
get_d-padded (suc n) s zero h = refl
get_d-padded (suc n) s (suc i) h =
    get_d-padded n (drop 1 s) i (omega arith) ∙ get_or-drop 1 s i 0 ∙ (let e : 1 + i ≡ suc i = omega arith in ap (λ (k : ℕ). get_or s k 0) e)

-- ---- zeros

zeros-from : (l : List ℕ) (at n : ℕ) → all_from (λ k. eqb (get_or l k 0) 0) at n ≡ true → Holds l at (replicate n 0)
unfolding all_from
zeros-from l at zero e = held-nil
zeros-from l at (suc n) e =
    held_cons (eqb-true _ 0 (and_left _ _ e)) (zeros-from l (suc at) n (and_right (eqb (get_or l at 0) 0) _ e))

from-zeros : (l : List ℕ) (at n : ℕ) → Holds l at (replicate n 0) → all_from (λ k. eqb (get_or l k 0) 0) at n ≡ true
unfolding all_from
from-zeros l at zero h = refl
from-zeros l at (suc n) h = rw (eq-eqb _ 0 (held-head h)) (from-zeros l (suc at) n (held-tail h))

-- bytes tested to be zero hold zeros, and those that hold zeros pass the test
pub zeros-held : (l : List ℕ) (from to : ℕ) → zero_between l from to ≡ true → Holds l from (replicate (to - from) 0)
unfolding zero_between
zeros-held l from to e = zeros-from l from (to - from) e

pub held-zeros : (l : List ℕ) (from to : ℕ) → Holds l from (replicate (to - from) 0) → zero_between l from to ≡ true
unfolding zero_between
held-zeros l from to h = from-zeros l from (to - from) h

-- each byte of a stretch that is zero
pub zero-at : (l : List ℕ) (from to i : ℕ) → zero_between l from to ≡ true → from ≤ i → i < to → get_or l i 0 ≡ 0
zero-at l from to i e h k =
    let q : from + (i - from) ≡ i = omega arith in
    let p : i - from < to - from = omega arith in
    let r : i - from < length (replicate {A = ℕ} (to - from) 0) = rw (length-replicate {A = ℕ} (to - from) 0) p in
    let z : get_or (replicate {A = ℕ} (to - from) 0) (i - from) 0 ≡ 0 = get_or-replicate (to - from) (i - from) 0 0 p in
    let s : get_or l (from + (i - from)) 0 ≡ 0 = (zeros-held l from to e).each (i - from) r ∙ z in
    rw q at s

-- and a stretch whose bytes are zero
pub all-zero : (l : List ℕ) (from to : ℕ) → ((i : ℕ) → from ≤ i → i < to → get_or l i 0 ≡ 0) → zero_between l from to ≡ true
all-zero l from to h =
    held-zeros l from to (record {
      each = λ i p.
          let m : i < to - from = rw (length-replicate {A = ℕ} (to - from) 0) at p in
          h (from + i) (omega arith) (omega arith) ∙ sym (get_or-replicate (to - from) i 0 0 m);
    })
