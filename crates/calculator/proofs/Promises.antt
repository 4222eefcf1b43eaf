-- The promises hold.
use mathlib.Core.Path.{◌≡◌, refl, sym, ap, ◌∙◌}
use mathlib.Core.Bool.{Bool, true, false, ◌&&◌, cond}
use mathlib.Core.List.{List}
use Prim.Native.Nat.{ℕ, ◌≤◌}
use native.Mathlib.Omega.{arith}
use lib.IntN.{ℤ, pos}
use lib.Dec.{leb}
use lib.ListN.{length, replicate, length-replicate}
use borrow.Author.Tests.{leb-true}
use Rattle.fixed.specs.Values.{places, fills, makes}
use Rattle.fixed.proofs.Decide.{and_left, and_right}
use Rattle.stack.specs.Programs.{Code}
use Rattle.stack.specs.Judging.{Judged, fits, wrong, judged}
use Rattle.stack.proofs.Same.{same-eq}
use Rattle.stack.proofs.Strict.{nothing-sticks}
use Rattle.stack.proofs.Runs.{flat-is-nested}
use Rattle.form.specs.Paths.{leaves_numbers}
use Rattle.form.specs.Steps.{fitting}
use Rattle.form.proofs.Filled.{flat-fitting, form-is-program}
use Rattle.calculator.specs.Calculator.{refusal_by, refusal_of}
use Rattle.calculator.specs.Promises.{Goes, Promises}
use Rattle.calculator.proofs.Readback.{text-read}
use Rattle.calculator.proofs.Lengths.{words-few}

-- what is not refused fits
accepted : (b : Bool) → ◌≡◌ {A = ℕ} (cond b 0 17) 0 → b ≡ true
accepted true e = refl
accepted false e = absurd (omega arith)

-- the kinds that are left are those of m numbers
numbers : (m : ℕ) (j : Judged) → leaves_numbers m j ≡ true → j ≡ fits (replicate m (pos 0))
unfolding leaves_numbers
numbers m (fits ks) e = ap fits (sym (same-eq (replicate m (pos 0)) ks e))
numbers m wrong e = absurd (false-true e)
  where
    false-true : false ≡ true → ⊥
    false-true q = let z : ◌≡◌ {A = ℕ} 0 1 = ap (λ (b : Bool). cond b 1 0) q in omega arith

fitting-goes : (m : ℕ) (c : Code) (tints : List ℤ) → fitting (length tints) m c ≡ true → Goes m c tints
unfolding fitting
fitting-goes m c tints e =
    let t = length tints in
    let ks = replicate t (pos 0) in
    let j : judged c ks ≡ fits (replicate m (pos 0)) = numbers m (judged c ks) (and_right (fills t && makes m) (leaves_numbers m (judged c ks)) e) in
    let few : t ≤ places = leb-true t places (and_right (leb 1 t) (leb t places) (and_left (fills t) (makes m) (and_left (fills t && makes m) (leaves_numbers m (judged c ks)) e))) in
    let l : length ks ≡ t = length-replicate t (pos 0) in
    let g = nothing-sticks c tints ks (replicate m (pos 0)) (sym l, omega (arith, l, few)) j in
    record { through! = g.0; leaves = g.1.0 ∙ length-replicate m (pos 0) }

pub promises : Promises
unfolding refusal_of
promises =
    record {
      reads = text-read;
      goes = λ m l c tints r e. fitting-goes m c tints (accepted (fitting (length tints) m c) (ap (refusal_by (length tints) m) (sym r) ∙ e));
      nested = flat-is-nested;
      steps = form-is-program;
      alike = λ t m c. flat-fitting c t m;
      short = words-few;
    }
