-- What compiling left of a text, and the program that it has: what it is refused with, and its words.
use mathlib.Core.Path.{◌≡◌, ap, ◌∙◌}
use mathlib.Core.Bool.{Bool, cond}
use mathlib.Core.List.{List}
use Rattle.std.specs.Prelude.{Option, None, Some, Err}
use Rattle.std.specs.Option.{ok_or}
use Rattle.fixed.specs.declared.refusals.Refusal.{Refusal}
use Rattle.fixed.specs.declared.refusals.Refusal.TheVariants.{ProgramText}
use Rattle.fixed.specs.Refusals.{number_of}
use Prim.Native.Nat.{ℕ, ◌≤◌}
use native.Mathlib.Omega.{arith}
use lib.IntN.{ℤ}
use lib.ListN.{length}
use Rattle.stack.specs.Flat.{flat}
use Rattle.program.specs.Texts.{Read, program, unread}
use Rattle.fixed.specs.declared.refusals.Refusal.{Refusal}
use Rattle.fixed.specs.Refusals.{number_of}
use Rattle.program.specs.Kept.{words, wanted, built_by}
use Rattle.form.specs.Steps.{well_formed}
use Rattle.form.proofs.Filled.{flat-fitting}
use Rattle.calculator.specs.Calculator.{refusal_by}

-- ---- what is left of a text

-- no words, no program
pub judged-none : (t m : ℕ) (b : Option (Unit {0})) (out : List ℤ) (x : Read) → built_by b out ≡ wanted x → (r : Refusal) → Err r ≡ ok_or b ProgramText → number_of r ≡ refusal_by t m x
judged-none t m (Some u) out x z r e = absurd (let o : ◌≡◌ {A = ℕ} 0 1 = cc in omega arith)
judged-none t m None out (program c) z r e = absurd (let o : ◌≡◌ {A = ℕ} 0 1 = cc in omega arith)
judged-none t m None out unread z r e = let f : r ≡ ProgramText = cc in ap number_of f

pub judged-words : (t m r : ℕ) (out : List ℤ) (x : Read) → words out ≡ wanted x → length out ≤ 800 → r ≡ cond (well_formed out t m) 0 17 → r ≡ refusal_by t m x
judged-words t m r out (program c) z h er =
    let w : out ≡ flat c = cc in
    let l : length (flat c) ≤ 800 = rw w at h in
    er ∙ ap (λ (b : Bool). cond b 0 17) (ap (λ (y : List ℤ). well_formed y t m) w ∙ flat-fitting c t m (omega arith))
judged-words t m r out unread z h er = absurd (let o : ◌≡◌ {A = ℕ} 0 1 = cc in omega arith)
