-- How many components a space has, how many entries its lists, and how many words its recipe.
use mathlib.Core.Path.{◌≡◌, sym, ap, ◌∙◌}
use mathlib.Core.List.{List}
use Prim.Native.Nat.{ℕ, ◌+◌, ◌*◌, ◌≤◌, ◌<◌}
use native.Mathlib.Nat.{mul-le-mul}
use native.Mathlib.Omega.{arith}
use lib.Dec.{leb}
use borrow.Author.Tests.{leb-true, leb-false}
use lib.ListN.{length}
use lib.Seq.{length-take-le}
use Rattle.fixed.specs.Values.{places, widest}
use Rattle.fixed.proofs.Listed.{listed-length}
use Rattle.record.specs.Layout.{entries_of}
use Rattle.record.specs.declared.types.Separation.{Separation as Ink}
use Rattle.fixed.proofs.Decide.{cond_ind}
use Rattle.program.specs.Texts.{read_of}
use Rattle.form.specs.Steps.{nearest_count, taken_by, head_words}
use Rattle.form.specs.declared.Tints.{Tints}
use Rattle.form.specs.declared.Tints.TheVariants.{One, Inks}
use Rattle.calculator.specs.Calculator.{words_by, program_run, run_text, code_after}
use Rattle.calculator.proofs.Runs.{words-code}
use Rattle.space.specs.Spaces.{Space, none, gray, rgb, cmyk, cal_gray, cal_rgb, lab, no_mark, every_ink, separation, calculated, indexed, count_of, limit_count, words_of}
use Rattle.space.specs.Pages.{entries, table_of, c0_of, c1_of, plain_at, tinted_at}
use Rattle.space.specs.Levels.{space_in}
use Rattle.space.specs.declared.nesting.Level.{Level}
use Rattle.space.specs.declared.nesting.Level.TheVariants.{Separation, Program, Indexed}

-- a program takes 1 to 8 values
pub taken-high : (i : Tints) → (1 ≤ taken_by i) × (taken_by i ≤ places)
unfolding nearest_count
taken-high One = (omega arith, omega arith)
taken-high (Inks n) =
    cond_ind (λ (k : ℕ). (1 ≤ k) × (k ≤ places)) (leb n 1) (λ _. (omega arith, omega arith)) (λ a.
    cond_ind (λ (k : ℕ). (1 ≤ k) × (k ≤ places)) (leb n places) (λ b. (let h : 1 < n = leb-false n 1 a in omega arith, leb-true n places b)) (λ _. (omega arith, omega arith)))

pub count-high : (s : Space) → count_of s ≤ places
count-high none = omega arith
count-high gray = omega arith
count-high rgb = omega arith
count-high cmyk = omega arith
count-high (cal_gray k) = omega arith
count-high (cal_rgb k) = omega arith
count-high (lab k al ah bl bh) = omega arith
count-high (no_mark i) = (taken-high i).1
count-high every_ink = omega arith
count-high (separation e c0 c1 s) = omega arith
count-high (calculated i c s) = (taken-high i).1
count-high (indexed h t s) = omega arith

pub limits-high : (s : Space) → limit_count s ≤ places
limits-high none = omega arith
limits-high gray = omega arith
limits-high rgb = omega arith
limits-high cmyk = omega arith
limits-high (cal_gray k) = omega arith
limits-high (cal_rgb k) = omega arith
limits-high (lab k al ah bl bh) = omega arith
limits-high (no_mark i) = omega arith
limits-high every_ink = omega arith
limits-high (separation e c0 c1 s) = omega arith
limits-high (calculated i c s) = (taken-high i).1
limits-high (indexed h t s) = omega arith

pub table-length : (page : List ℕ) (n hival : ℕ) (s : Space) → length (table_of page n hival s) ≡ count_of s * (hival + 1)
unfolding table_of
table-length page n hival s = listed-length _ (count_of s * (hival + 1))

pub c0-length : (p : Ink) (s : Space) → count_of s ≤ widest → length (c0_of p s) ≡ count_of s
c0-length p s h = length-take-le (count_of s) (entries_of p.c0) h

pub c1-length : (p : Ink) (s : Space) → count_of s ≤ widest → length (c1_of p s) ≡ count_of s
c1-length p s h = length-take-le (count_of s) (entries_of p.c1) h

-- no table has more entries
pub few-entries : (m h : ℕ) → m ≤ places → h ≤ 65535 → m * (h + 1) ≤ entries
few-entries m h lm lh =
    let k : h + 1 ≤ 65536 = omega arith in
    mul-le-mul lm k

-- the words of a recipe in the code's own terms: l a level, s the space within, of m components and r words
module _ (page : List ℕ) {l : Level} {s : Space} {m r : ℕ} (em : m ≡ count_of s) (er : r ≡ words_of s) where
  pub words-separation : (p : Ink) → l ≡ Separation p → s ≡ plain_at page p.alternate → 3 + 2 * m + r ≡ words_of (space_in page l)
  unfolding space_in
  words-separation p el es = (λ i. 3 + 2 * (em ∙ ap count_of es) i + (er ∙ ap words_of es) i) ∙ sym (ap (λ (k : Level). words_of (space_in page k)) el)

  pub words-indexed : (n base hival : ℕ) → l ≡ Indexed n base hival → s ≡ tinted_at page base → 3 + m * (hival + 1) + r ≡ words_of (space_in page l)
  unfolding space_in
  words-indexed n base hival el es = (λ i. 3 + (em ∙ ap count_of es) i * (hival + 1) + (er ∙ ap words_of es) i) ∙ sym (ap (λ (k : Level). words_of (space_in page k)) el)

-- with the k words of a program, in the b blocks after block n
pub words-calculated : (page : List ℕ) {l : Level} {s : Space} {r : ℕ} → r ≡ words_of s → (n alternate b k : ℕ) (i : Tints) → l ≡ Program n alternate i → s ≡ plain_at page alternate → b ≡ program_run page n → k ≡ length (words_by (read_of (run_text page n b))) → length (head_words i) + 2 + k + r ≡ words_of (space_in page l)
unfolding space_in code_after
words-calculated page er n alternate b k tints el es eb ek =
    let run = ap (λ (b : ℕ). length (words_by (read_of (run_text page n b)))) eb in
    (λ i. length (head_words tints) + 2 + (ek ∙ run ∙ ap length (words-code (read_of (run_text page n (program_run page n))))) i + (er ∙ ap words_of es) i) ∙ sym (ap (λ (k : Level). words_of (space_in page k)) el)
