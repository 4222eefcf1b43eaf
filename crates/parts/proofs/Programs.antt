-- The words of a program's step: stored behind its head first, and then the head.
use mathlib.Core.Path.{◌≡◌, refl, sym, ap, ◌∙◌}
use mathlib.Core.List.{List, [], ◌∷◌, ◌++◌, append_assoc}
use Prim.Native.Nat.{ℕ, suc, ◌+◌, ◌≤◌, ◌<◌}
use native.Mathlib.Nat.{add-zero}
use native.Mathlib.Omega.{arith}
use borrow.Author.Tests.{le-leb}
use lib.IntN.{ℤ, pos}
use lib.ListN.{length, set, length-append}
use lib.Seq.{sets, set_comm}
use Rattle.stack.specs.Flat.{flat}
use Rattle.program.specs.Texts.{read_of}
use Rattle.form.specs.Steps.{head_words}
use Rattle.form.specs.declared.Tints.{Tints}
use Rattle.fixed.specs.Sizes.{most_flat}
use Rattle.calculator.specs.Calculator.{words_by, put_at, program_run, run_text, code_after}
use Rattle.calculator.proofs.Runs.{words-code, code-few}
use Rattle.parts.specs.Parts.{program_words}

-- ---- A run of stores before one that stands already

module _ {A : Type 0} where
  set_past : (ws d : List A) (i k : ℕ) (x : A) → i < k → set (sets d k ws) i x ≡ sets (set d i x) k ws
  set_past [] d i k x h = refl
  set_past (w ∷ ws) d i k x h =
      set_past ws (set d k w) i (suc k) x (omega arith) ∙ ap (λ (l : List A). sets l (suc k) ws) (set_comm d k i w x (λ e. absurd (omega arith)))

  sets-before : (hd ws d : List A) (at : ℕ) → sets (sets d (at + length hd) ws) at hd ≡ sets d at (hd ++ ws)
  sets-before [] ws d at = ap (λ (i : ℕ). sets d i ws) (add-zero at)
  sets-before (x ∷ hd) ws d at =
      let e : at + suc (length hd) ≡ suc at + length hd = omega arith in
      ap (λ (l : List A). sets l (suc at) hd) (set_past ws d at (at + suc (length hd)) x (omega arith))
      ∙ (ap (λ (i : ℕ). sets (sets (set d at x) i ws) (suc at) hd) e ∙ sets-before hd ws (set d at x) (suc at))

-- ---- In the code's own terms: run is the length of the run after block n, size the words of its program

module _ (page : List ℕ) (n : ℕ) {run size : ℕ} (er : run ≡ program_run page n) (es : size ≡ length (words_by (read_of (run_text page n run)))) where
  words_are : words_by (read_of (run_text page n run)) ≡ flat (code_after page n)
  unfolding code_after
  words_are = ap (λ (b : ℕ). words_by (read_of (run_text page n b))) er ∙ words-code (read_of (run_text page n (program_run page n)))

  size_is : size ≡ length (flat (code_after page n))
  size_is = es ∙ ap length words_are

  pub size_few : size ≤ most_flat
  unfolding code_after
  size_few = omega (arith, size_is, code-few (run_text page n (program_run page n)))

  pub program-length : (i : Tints) (m : ℕ) → length (program_words i (code_after page n) m) ≡ length (head_words i) + 2 + size
  unfolding program_words
  program-length i m = length-append (head_words i) (pos m ∷ pos (length (flat (code_after page n))) ∷ flat (code_after page n)) ∙ omega (arith, size_is)

  pub program-set : (i : Tints) (m at h : ℕ) (d : List ℤ) {y z : List ℤ} {w₁ w₂ : ℤ} → h ≡ length (head_words i) + 2 → at + length (program_words i (code_after page n) m) ≤ length d
      → y ≡ put_at d (at + h) (words_by (read_of (run_text page n run))) → w₁ ≡ pos m → w₂ ≡ pos size → z ≡ sets y at (head_words i ++ (w₁ ∷ w₂ ∷ []))
      → (z ≡ sets d at (program_words i (code_after page n) m)) × (at + h + size ≡ at + length (program_words i (code_after page n) m))
  unfolding put_at program_words
  program-set i m at h d eh room ey e₁ e₂ ez =
      let ws = flat (code_after page n) in
      let hd = head_words i ++ (pos m ∷ pos (length ws) ∷ []) in
      let lh : length hd ≡ h = length-append (head_words i) (pos m ∷ pos (length ws) ∷ []) ∙ omega (arith, eh) in
      let whole = program-length i m in
      let fits = le-leb (at + h + length ws) (length d) (omega (arith, whole, size_is, eh)) in
      let fitting : put_at d (at + h) ws ≡ sets d (at + h) ws = rw fits in
      let stood = ey ∙ (ap (λ (l : List ℤ). put_at d (at + h) l) words_are ∙ (fitting ∙ ap (λ (k : ℕ). sets d (at + k) ws) (sym lh))) in
      let head = ez ∙ (λ j. sets (stood j) at (head_words i ++ (e₁ j ∷ (e₂ ∙ ap pos size_is) j ∷ []))) in
      (head ∙ (sets-before hd ws d at ∙ ap (λ (l : List ℤ). sets d at l) (append_assoc (head_words i) (pos m ∷ pos (length ws) ∷ []) ws)), omega (arith, whole, eh))
