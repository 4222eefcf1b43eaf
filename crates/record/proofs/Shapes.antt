-- Refusal 3 of a block and of the record read of it are one: the name rule finds the same in both, and so do the tests on kind, own number and zeros.
use mathlib.Core.Path.{◌≡◌, refl, sym, ap, ◌∙◌}
use mathlib.Core.List.{List}
use mathlib.Core.Bool.{Bool, true, false, ◌&&◌, cond, not}
use Prim.Native.Nat.{ℕ, zero, suc, ◌+◌, ◌-◌, ◌<◌, ◌≤◌}
use native.Mathlib.Omega.{arith}
use borrow.Author.Tests.{leb-true}
use lib.ListN.{length, get_or, drop, replicate, length-append, length-replicate, get_or-replicate, get_or-append}
use lib.Seq.{get_or-append-add, get_or-drop}
use lib.Dec.{eqb, leb, ltb}
use Rattle.fixed.specs.Bytes.{byte_at}
use Rattle.fixed.specs.Loops.{all_from, zero_between}
use Rattle.fixed.proofs.Decide.{cond_ind, and_left, and_same}
use Rattle.fixed.proofs.Scans.{all_same}
use Rattle.layout.specs.Field.{padded}
use Rattle.layout.proofs.Held.{length-padded, get_d-padded, all-zero}
use Rattle.record.specs.Layout.{kind_of, room}
use Rattle.record.specs.Reading.{kind_at, own_at, body_by, run_at, name_from, names_at, bytes_by, record_at}
use Rattle.fixed.specs.Bytes.{blocks}
use Rattle.record.specs.Rules.{none_zero, name_fits, names_fit, well_laid, name_shown, well_formed, used, well_named, well_shaped}
use Rattle.record.specs.declared.types.Separation.{Separation as Ink}
use Rattle.record.specs.declared.types.Body.{Body}
use Rattle.record.specs.declared.types.Body.TheVariants.{Separation}

-- the name rule sees the same name at two places of two lists where the 128 bytes there agree
pub name-same : (s t : List ℕ) (j k n : ℕ) → ((i : ℕ) → i < 128 → byte_at s (j + i) ≡ byte_at t (k + i)) → name_fits s j n ≡ name_fits t k n
unfolding name_fits none_zero zero_between
name-same s t j k n h =
    and_same (leb 1 n) (λ _. and_same (leb n 127) (λ m.
    let few : n ≤ 127 = leb-true n 127 m in
    λ i. name few i && rest few i))
  where
    name : n ≤ 127 → all_from (λ i. not (eqb (byte_at s i) 0)) j (j + n - j) ≡ all_from (λ i. not (eqb (byte_at t i) 0)) k (k + n - k)
    name few =
        let p : j + n - j ≡ n = omega arith in
        let q : k + n - k ≡ n = omega arith in
        rw (p, q) (all_same _ _ j k n (λ i l. ap (λ (x : ℕ). not (eqb x 0)) (h i (omega arith))))

    zeros : (i : ℕ) → i < 128 - n → eqb (byte_at s (j + n + i)) 0 ≡ eqb (byte_at t (k + n + i)) 0
    zeros i l =
        let p : j + (n + i) ≡ j + n + i = omega arith in
        let q : k + (n + i) ≡ k + n + i = omega arith in
        ap (λ (x : ℕ). eqb x 0) (rw (p, q) at (h (n + i) (omega arith)))

    rest : n ≤ 127 → all_from (λ i. eqb (byte_at s i) 0) (j + n) (j + 128 - (j + n)) ≡ all_from (λ i. eqb (byte_at t i) 0) (k + n) (k + 128 - (k + n))
    rest few =
        let p : j + 128 - (j + n) ≡ 128 - n = omega arith in
        let q : k + 128 - (k + n) ≡ 128 - n = omega arith in
        rw (p, q) (all_same _ _ (j + n) (k + n) (128 - n) zeros)

-- ---- a run in its room: the bytes of the block, and zeros past them

module _ (b : List ℕ) (at n : ℕ) where
  pub run-at : (i : ℕ) → i < n → get_or (run_at b at n) i 0 ≡ get_or b (at + i) 0
  run-at i l =
      let m : i < length (padded n (drop at b)) = rw (length-padded n (drop at b)) l in
      get_or-append (padded n (drop at b)) (replicate (504 - n) 0) 0 i m ∙ get_d-padded n (drop at b) i l ∙ get_or-drop at b i 0

  -- it has as many bytes as every room
  pub run-length : n ≤ room → length (run_at b at n) ≡ room
  run-length h =
      let l : length (padded n (drop at b)) ≡ n = length-padded n (drop at b) in
      let m : length (replicate {A = ℕ} (room - n) 0) ≡ room - n = length-replicate {A = ℕ} (room - n) 0 in
      length-append (padded n (drop at b)) (replicate (room - n) 0) ∙ omega arith

  pub run_past : (i : ℕ) → n ≤ i → i < 504 → get_or (run_at b at n) i 0 ≡ 0
  run_past i l m =
      let e : length (padded n (drop at b)) + (i - n) ≡ i = omega (arith, length-padded n (drop at b)) in
      let s : get_or (run_at b at n) (length (padded n (drop at b)) + (i - n)) 0 ≡ get_or (replicate {A = ℕ} (504 - n) 0) (i - n) 0 =
      get_or-append-add (padded n (drop at b)) (replicate (504 - n) 0) (i - n) 0 in
      rw e at s ∙ get_or-replicate (504 - n) (i - n) 0 0 (omega arith)

  pub run-zeros : zero_between (run_at b at n) n 504 ≡ true
  run-zeros = all-zero (run_at b at n) n 504 run_past

pub no_bytes : zero_between (replicate {A = ℕ} 504 0) 0 504 ≡ true
no_bytes = all-zero (replicate 504 0) 0 504 (λ i l m. get_or-replicate 504 i 0 0 m)

-- the room of a Separation has the 128 bytes of its block that are a name's place
pub name-run : (b : List ℕ) (p : Ink) → (record_at b).body ≡ Separation p → (record_at b).bytes ≡ run_at b name_from 128
unfolding body_by bytes_by record_at
name-run b p e = by-kinds (kind_at b) (ap kind_of e)
  where
    by-kinds : (k : ℕ) → kind_of (body_by k b) ≡ 5 → bytes_by k b ≡ run_at b name_from 128
    by-kinds k =
        let P : Body → Type 0 = λ y. kind_of y ≡ 5 → bytes_by k b ≡ run_at b name_from 128 in
        cond_ind P (eqb k 1) (λ _ e. absurd (omega arith)) (λ _.
        cond_ind P (eqb k 2) (λ _ e. absurd (omega arith)) (λ _.
        cond_ind P (eqb k 3) (λ _ e. absurd (omega arith)) (λ _.
        cond_ind P (eqb k 4) (λ _ e. absurd (omega arith)) (λ _.
        cond_ind P (eqb k 5) (λ t _. rw t) (λ _.
        cond_ind P (eqb k 6) (λ _ e. absurd (omega arith)) (λ _.
        cond_ind P (eqb k 7) (λ _ e. absurd (omega arith)) (λ _.
        cond_ind P (eqb k 8) (λ _ e. absurd (omega arith)) (λ _ e. absurd (omega arith)))))))))

-- ---- the record read shows of refusal 3 what the block shows

and-true : (a : Bool) → (a && true) ≡ a
and-true true = refl
and-true false = refl

by_kind : (b : List ℕ) (k : ℕ) → k ≤ 8
    → cond (eqb k 5) (name_fits b 8 (byte_at b 7)) (cond (eqb k 8) (names_fit (names_at b) (byte_at b 6)) true) ≡ (well_named (body_by k b) (bytes_by k b) && zero_between (bytes_by k b) (used (body_by k b)) 504)
unfolding body_by bytes_by well_named
by_kind b zero p = sym no_bytes
by_kind b (suc zero) p = sym no_bytes
by_kind b (suc (suc zero)) p = sym no_bytes
by_kind b (suc (suc (suc zero))) p = sym no_bytes
by_kind b (suc (suc (suc (suc zero)))) p = sym no_bytes
by_kind b (suc (suc (suc (suc (suc zero))))) p =
    name-same b (run_at b 8 128) 8 0 (byte_at b 7) (λ i l. let e : 0 + i ≡ i = omega arith in rw e (sym (run-at b 8 128 i l)))
    ∙ sym (rw (run-zeros b 8 128) (and-true _))
by_kind b (suc (suc (suc (suc (suc (suc zero)))))) p = sym (run-zeros b 4 504)
by_kind b (suc (suc (suc (suc (suc (suc (suc zero))))))) p = sym (run-zeros b 4 504)
by_kind b (suc (suc (suc (suc (suc (suc (suc (suc zero)))))))) p = sym (rw (run-zeros b 8 500) (and-true _))
by_kind b (suc (suc (suc (suc (suc (suc (suc (suc (suc k))))))))) p = absurd (omega arith)

pub shown-named : (b : List ℕ) → well_laid b ≡ true → name_shown b ≡ (well_named (record_at b).body (record_at b).bytes && zero_between (record_at b).bytes (used (record_at b).body) 504)
unfolding well_laid name_shown record_at
shown-named b k = by_kind b (kind_at b) (leb-true _ 8 (and_left _ _ k))

-- formed, with an own number that a page can have, is known and shaped: what is tested on a page is what is tested on a block alone
pub formed-shaped : (b : List ℕ) → (well_formed b && ltb (own_at b) blocks) ≡ (well_laid b && well_shaped (record_at b))
unfolding well_formed well_shaped record_at
formed-shaped b =
    moved (well_laid b) (name_shown b) (ltb (own_at b) blocks)
    ∙ and_same (well_laid b) (λ k. ap (λ (t : Bool). ltb (own_at b) blocks && t) (shown-named b k))
  where
    moved : (a n o : Bool) → ((a && n) && o) ≡ (a && (o && n))
    moved true true true = refl
    moved true true false = refl
    moved true false true = refl
    moved true false false = refl
    moved false n o = refl
