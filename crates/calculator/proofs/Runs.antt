-- The run of a program is counted block by block; and its words are those of its program.
use mathlib.Core.Path.{◌≡◌, refl, ap, sym, ◌∙◌}
use mathlib.Core.Bool.{Bool, true, false, cond}
use mathlib.Core.List.{List}
use Prim.Native.Nat.{ℕ, suc, ◌+◌, ◌-◌, ◌*◌, ◌≤◌, ◌<◌}
use native.Mathlib.Omega.{arith}
use borrow.Author.Tests.{lt-leb}
use lib.ListN.{length}
use Rattle.record.specs.Layout.{room}
use Rattle.fixed.specs.Bytes.{block_at}
use Rattle.record.specs.Reading.{body_at}
use Rattle.record.specs.Rules.{is_program}
use Rattle.stack.specs.Flat.{flat}
use Rattle.program.specs.Texts.{Read, program, unread, read_of}
use Rattle.fixed.proofs.Decide.{cond_ind}
use Rattle.form.specs.Steps.{fitting}
use Rattle.calculator.proofs.Lengths.{words-few}
use Rattle.fixed.specs.Sizes.{most_flat}
use Rattle.calculator.specs.Calculator.{refusal_by, refusal_of, code_in, words_by, most_blocks, programs_from, program_run, text_of, run_size, run_text}

pub words-code : (r : Read) → words_by r ≡ flat (code_in r)
unfolding flat
words-code (program c) = refl
words-code unread = refl

-- a text that is not refused for t values and m numbers has a program that takes and leaves them
pub code_fits : (t m : ℕ) (l : List ℕ) → refusal_of t m l ≡ 0 → fitting t m (code_in (read_of l)) ≡ true
unfolding refusal_of
code_fits t m l e = by (read_of l) e
  where
    by : (r : Read) → refusal_by t m r ≡ 0 → fitting t m (code_in r) ≡ true
    by (program c) h = cond_ind (λ (k : ℕ). k ≡ 0 → fitting t m c ≡ true) (fitting t m c) (λ b _. b) (λ _ z. absurd (omega arith)) h
    by unread h = absurd (omega arith)

-- and few words
pub code-few : (l : List ℕ) → length (flat (code_in (read_of l))) ≤ most_flat
code-few l = rw (words-code (read_of l)) at (words-few l)

-- k blocks after block n are of its text, and those from there on are still to be counted
pub record Counted (page : List ℕ) (n k : ℕ) : Type 0 where
  pub few : k ≤ most_blocks
  pub left : program_run page n ≡ k + programs_from page (n + 1 + k) (most_blocks - k)

module _ (page : List ℕ) (n : ℕ) where
  pub counted_start : Counted page n 0
  counted_start =
      let e : n + 1 + 0 ≡ n + 1 = omega arith in
      record { few = omega arith; left = sym (ap (λ (i : ℕ). programs_from page i most_blocks) e ∙ refl) ∙ zero-before _ }
    where
      zero-before : (k : ℕ) → k ≡ 0 + k
      zero-before k = omega arith

  -- one block of those that are left
  turned : (k : ℕ) → k < most_blocks → programs_from page (n + 1 + k) (most_blocks - k) ≡ cond (is_program (body_at (block_at page (n + 1 + k)))) (1 + programs_from page (n + 1 + k + 1) (most_blocks - (k + 1))) 0
  unfolding programs_from
  turned k l = let e : most_blocks - k ≡ suc (most_blocks - (k + 1)) = omega arith in ap (programs_from page (n + 1 + k)) e

  pub counted_stop : (k : ℕ) → k < most_blocks → Counted page n k → is_program (body_at (block_at page (n + 1 + k))) ≡ false → k ≡ program_run page n
  counted_stop k l c e =
      let f : programs_from page (n + 1 + k) (most_blocks - k) ≡ 0 = turned k l ∙ rw e in
      omega (arith, f, c.left)

  pub counted-turn : (k : ℕ) → k < most_blocks → Counted page n k → is_program (body_at (block_at page (n + 1 + k))) ≡ true → Counted page n (k + 1)
  counted-turn k l c e =
      let f : programs_from page (n + 1 + k) (most_blocks - k) ≡ 1 + programs_from page (n + 1 + k + 1) (most_blocks - (k + 1)) = turned k l ∙ rw e in
      let g : n + 1 + k + 1 ≡ n + 1 + (k + 1) = omega arith in
      record { few = omega arith; left = c.left ∙ (omega (arith, f) ∙ ap (λ (i : ℕ). k + 1 + programs_from page i (most_blocks - (k + 1))) g) }

  pub counted-end : (k : ℕ) → most_blocks ≤ k → Counted page n k → most_blocks ≡ program_run page n
  unfolding programs_from
  counted-end k l c =
      let e : k ≡ most_blocks = omega (arith, c.few) in
      let f : most_blocks - k ≡ 0 = omega arith in
      sym (c.left ∙ (ap (λ (j : ℕ). k + programs_from page (n + 1 + k) j) f ∙ omega (arith, e)))

-- a run of more blocks than a text lies in is that of the first four
pub run-first : (page : List ℕ) (n b : ℕ) → most_blocks < b → run_text page n b ≡ run_text page n most_blocks
unfolding run_text run_size
run-first page n b l = ap (λ (t : Bool). text_of page n (room * cond t b most_blocks)) (lt-leb b most_blocks l)
