-- What a step that is read is like: it takes a word at least and no more than there are, its small numbers are in range, and a closing step's numbers are words of the list.
use mathlib.Core.Path.{refl}
use mathlib.Core.Bool.{cond, ◌&&◌}
use mathlib.Core.List.{List}
use Prim.Native.Nat.{ℕ, ◌+◌, ◌*◌, ◌≤◌}
use native.Mathlib.Omega.{arith}
use lib.IntN.{ℤ}
use lib.Signed.{lt_z}
use lib.Dec.{ltb, leb, eqb}
use lib.ListN.{length}
use borrow.Author.Tests.{ltb-true, ltb-false}
use Rattle.fixed.specs.Numbers.{exponent_supported, gamma_supported}
use Rattle.fixed.specs.Values.{value, small_of, places, fills, makes}
use Rattle.fixed.proofs.Decide.{cond_ind}
use Rattle.form.specs.Steps.{form_at}
use Rattle.form.proofs.Parts.{form-placed}
use Rattle.cie.specs.declared.Closing.{Closing}
use Rattle.cie.specs.declared.Closing.TheVariants.{Gray, Rgb, Cmyk, CalGray, CalRgb, Lab, NoMark, EveryInk}
use Rattle.steps.specs.Steps.{limit_read, row_read, tint_read, program_read, close_read, gray_words, gray_read, rgb_words, rgb_read, lab_words, step_by, step_of}
use Rattle.steps.specs.Ranges.{Bounded, Carried}
use Rattle.steps.specs.declared.Step.{Step}
use Rattle.steps.specs.declared.Step.TheVariants.{Limit, Row, Tint, Program, Close}
use Rattle.steps.specs.Steps.{Read}
use Rattle.std.specs.Prelude.{Some, None}
use Rattle.steps.proofs.Ranges.{row-range, tint-range}

-- what a step carries stands in l
abbrev pub Standing : List ℤ → Step → Type 0
Standing l (Limit k lo hi) = Unit {0}
Standing l (Row m h) = Unit {0}
Standing l (Tint e m) = Unit {0}
Standing l (Program t m at n) = Unit {0}
Standing l (Close k) = Carried l k

abbrev pub Sound : List ℤ → Read → Type 0
Sound l None = Unit {0}
Sound l (Some (s, n)) = (1 ≤ n) × (n ≤ length l) × Bounded s × Standing l s

-- the same as a record, so that what was read is found
record Fine (l : List ℤ) (r : Read) : Type 0 where
  sound : Sound l r

nothing : (l : List ℤ) → Fine l None
nothing l = record { sound = tt }

at : (l : List ℤ) (s : Step) (n : ℕ) → 1 ≤ n → n ≤ length l → Bounded s → Standing l s → Fine l (Some (s, n))
at l s n h k i j = record { sound = (h, k, i, j) }

unless : (l : List ℤ) (s : Step) (n : ℕ) → 1 ≤ n → Bounded s → Standing l s → Fine l (cond (ltb (length l) n) None (Some (s, n)))
unless l s n h i j = cond_ind (Fine l) (ltb (length l) n) (λ _. nothing l) (λ e. at l s n h (ltb-false _ _ e) i j)

limit-sound : (l : List ℤ) → Fine l (limit_read l)
unfolding limit_read
limit-sound l =
    cond_ind (Fine l) (ltb (length l) 4) (λ _. nothing l) (λ e.
    cond_ind (Fine l) (ltb (small_of (value l 1)) places) (λ k.
    cond_ind (Fine l) (lt_z (value l 3) (value l 2)) (λ _. nothing l) (λ _.
    at l (Limit (small_of (value l 1)) (value l 2) (value l 3)) 4 (omega arith) (ltb-false _ _ e) (ltb-true _ _ k) tt)) (λ _. nothing l))

row-sound : (l : List ℤ) → Fine l (row_read l)
unfolding row_read
row-sound l =
    let m = small_of (value l 1) in
    let h = small_of (value l 2) in
    cond_ind (Fine l) (fills m && leb h 255) (λ e. unless l (Row m h) (3 + m * (h + 1)) (omega arith) (row-range m h e) tt) (λ _. nothing l)

tint-sound : (l : List ℤ) → Fine l (tint_read l)
unfolding tint_read
tint-sound l =
    let x = small_of (value l 1) in
    let m = small_of (value l 2) in
    cond_ind (Fine l) (exponent_supported x && makes m) (λ e. unless l (Tint x m) (3 + 2 * m) (omega arith) (tint-range x m e) tt) (λ _. nothing l)

program-sound : (t from : ℕ) (l : List ℤ) → Fine l (program_read t from l)
unfolding program_read
program-sound t from l =
    let m = small_of (value l from) in
    let n = small_of (value l (from + 1)) in
    cond_ind (Fine l) (form_at l (from + 2) n t m) (λ e.
    let p = form-placed l (from + 2) n t m e in
    at l (Program t m (from + 2) n) (from + 2 + n) (omega arith) p.there (p.takes, p.low, p.high, p.few) tt) (λ _. nothing l)

close-sound : (l : List ℤ) (n : ℕ) (k : Closing) → 1 ≤ n → Carried l k → Fine l (close_read l n k)
unfolding close_read
close-sound l n k h j = unless l (Close k) n h tt j

gray-sound : (l : List ℤ) → Fine l (gray_read l)
unfolding gray_read
gray-sound l = cond_ind (Fine l) (gamma_supported (value l 3)) (λ _. close-sound l 4 (CalGray (gray_words l)) (omega arith) refl) (λ _. nothing l)

rgb-sound : (l : List ℤ) → Fine l (rgb_read l)
unfolding rgb_read
rgb-sound l =
    cond_ind (Fine l) (gamma_supported (value l 1) && (gamma_supported (value l 2) && gamma_supported (value l 3)))
    (λ _. close-sound l 13 (CalRgb (rgb_words l)) (omega arith) refl)
    (λ _. nothing l)

by-sound : (op : ℕ) (l : List ℤ) → Fine l (step_by op l)
unfolding step_by
by-sound op l =
    cond_ind (Fine l) (eqb op 1) (λ _. limit-sound l) (λ _.
    cond_ind (Fine l) (eqb op 2) (λ _. row-sound l) (λ _.
    cond_ind (Fine l) (eqb op 3) (λ _. tint-sound l) (λ _.
    cond_ind (Fine l) (eqb op 4) (λ _. close-sound l 1 Gray (omega arith) tt) (λ _.
    cond_ind (Fine l) (eqb op 5) (λ _. close-sound l 1 Rgb (omega arith) tt) (λ _.
    cond_ind (Fine l) (eqb op 6) (λ _. close-sound l 1 Cmyk (omega arith) tt) (λ _.
    cond_ind (Fine l) (eqb op 7) (λ _. gray-sound l) (λ _.
    cond_ind (Fine l) (eqb op 8) (λ _. rgb-sound l) (λ _.
    cond_ind (Fine l) (eqb op 9) (λ _. close-sound l 3 (Lab (lab_words l)) (omega arith) refl) (λ _.
    cond_ind (Fine l) (eqb op 10) (λ _. close-sound l 1 NoMark (omega arith) tt) (λ _.
    cond_ind (Fine l) (eqb op 11) (λ _. close-sound l 1 EveryInk (omega arith) tt) (λ _.
    cond_ind (Fine l) (eqb op 12) (λ _. program-sound 1 1 l) (λ _.
    cond_ind (Fine l) (eqb op 13) (λ _. program-sound (small_of (value l 1)) 2 l) (λ _. nothing l)))))))))))))

-- every step that is read takes 1 to `length l` words, its small numbers are in range, and a closing step's numbers are words of l
pub step-sound : (l : List ℤ) → Sound l (step_of l)
step-sound l = (by-sound (small_of (value l 0)) l).sound
