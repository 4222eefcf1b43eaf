-- What the program after a block is refused with, in the code's own terms: run is the length of its run, t whether that is filled as it must be.
use mathlib.Core.Path.{◌≡◌, refl, ap, ◌∙◌}
use mathlib.Core.Bool.{Bool, true, false}
use mathlib.Core.List.{List}
use Prim.Native.Nat.{ℕ}
use Rattle.fixed.proofs.Decide.{is-yes, is-no}
use Rattle.calculator.specs.Calculator.{refusal_of, program_run, run_text, filled_run}
use Rattle.runs.specs.Runs.{run_fault}

module _ (page : List ℕ) (i n m : ℕ) {run : ℕ} {t : Bool} (e : run ≡ program_run page i) (f : t ≡ filled_run run (run_text page i run)) where
  filled : t ≡ filled_run (program_run page i) (run_text page i (program_run page i))
  filled = f ∙ (λ j. filled_run (e j) (run_text page i (e j)))

  pub run-judged : {r : ℕ} → t ≡ true → r ≡ refusal_of n m (run_text page i run) → r ≡ run_fault page i n m
  unfolding run_fault
  run-judged y g = is-yes _ _ _ _ filled y (g ∙ ap (λ (b : ℕ). refusal_of n m (run_text page i b)) e)

  pub run-refused : t ≡ false → 7 ≡ run_fault page i n m
  unfolding run_fault
  run-refused x = is-no _ _ _ _ filled x refl
