-- What each step of a recipe does, over plain lists: a run that begins with the step's words is the run of the words after them, or the answer.
use mathlib.Core.Path.{◌≡◌, refl, sym, ap, ap₂, ◌∙◌}
use mathlib.Core.Bool.{true, false, cond, ◌||◌}
use mathlib.Core.List.{List, [], ◌∷◌, ◌++◌, append_assoc}
use Prim.Native.Nat.{ℕ, suc, ◌+◌, ◌*◌, ◌≤◌, ◌<◌}
use native.Mathlib.Omega.{arith}
use lib.IntN.{ℤ, pos}
use lib.Signed.{lt_z}
use lib.Dec.{eqb}
use lib.ListN.{length, drop, length-append, get_or-append}
use lib.Seq.{drop-append_seam, drop_at}
use borrow.Author.Tests.{le-ltb, eq-eqb}
use Rattle.fixed.specs.Numbers.{exponent_supported, gamma_supported, tint_value, outside, index_outside}
use Rattle.fixed.specs.Values.{value, places, widest, started, limit_step, index_of, row_from, row_step, tint_of, tinted_by, tint_step}
use Rattle.fixed.proofs.Listed.{filled-same, index-within, row_room}
use Rattle.fixed.specs.declared.values.Colour.{Colour}
use Rattle.form.specs.Steps.{taken_by, head_words, well_formed, part_of, form_step}
use Rattle.form.specs.declared.Tints.{Tints}
use Rattle.form.proofs.Parts.{part-there}
use Rattle.cie.specs.Answers.{refusal}
use Rattle.cie.specs.Closings.{closed}
use Rattle.cie.specs.declared.GrayClosing.{GrayClosing}
use Rattle.cie.specs.declared.RgbClosing.{RgbClosing}
use Rattle.cie.specs.declared.LabClosing.{LabClosing}
use Rattle.cie.specs.declared.Closing.{Closing}
use Rattle.cie.specs.declared.Closing.TheVariants.{Gray, Rgb, Cmyk, CalGray, CalRgb, Lab, NoMark, EveryInk}
use Rattle.steps.specs.Steps.{step_of}
use Rattle.steps.specs.declared.Step.TheVariants.{Close}
use Rattle.std.specs.Prelude.{Some}
use Rattle.steps.proofs.Parsed.{one-to, head_size, limit-read, tint-read, program-read, row-read, device-gray-read, device-rgb-read, device-cmyk-read, gray-read, rgb-read, lab-read, no-mark-read, every-ink-read}
use Rattle.fixed.specs.Sizes.{longest}
use Rattle.runner.specs.Runs.{ended, runs, ran}
use Rattle.runner.proofs.Stepped.{begun}

-- ---- the input count

pub count-run : (m : ℕ) (l cs : List ℤ) → 1 ≤ m → m ≤ places → suc (length l) ≤ longest → ran (pos m ∷ l) cs ≡ runs m (length cs) l (started places cs)
unfolding ran
count-run m l cs low high short = simp (le-ltb longest (suc (length l)) short, one-to m places low high)

-- ---- a limit

pub limit-run : (n c k : ℕ) (lo hi : ℤ) (l : List ℤ) (v : Colour) → k < places → lt_z hi lo ≡ false
    → runs n c (pos 1 ∷ pos k ∷ lo ∷ hi ∷ l) v ≡ runs n c l (limit_step k lo hi v)
limit-run n c k lo hi l v h o = begun n c (pos 1 ∷ pos k ∷ lo ∷ hi ∷ l) v (limit-read k lo hi l h o)

-- ---- a tint: m C0s, then m C1s

module _ (e m : ℕ) (c0 c1 l : List ℤ) (supported : exponent_supported e ≡ true) (low : 1 ≤ m) (high : m ≤ widest) (h0 : length c0 ≡ m) (h1 : length c1 ≡ m) where
  abbrev tinted : List ℤ
  tinted = (pos 3 ∷ pos e ∷ pos m ∷ (c0 ++ c1)) ++ l

  tint-drop : drop (3 + 2 * m) tinted ≡ l
  tint-drop =
      let k : 3 + 2 * m ≡ suc (suc (suc (length (c0 ++ c1)))) = simp length-append (omega arith) in
      ap (λ (j : ℕ). drop j tinted) k ∙ drop-append_seam (c0 ++ c1) l

  -- the C0s stand after three words, and the C1s after m more
  tint-values : (v : List ℤ) → tinted_by e m (drop 3 tinted) (drop (3 + m) tinted) v ≡ tinted_by e m c0 c1 v
  unfolding tinted_by
  tint-values v =
      filled-same _ _ m v (λ k lt.
      let a : value ((c0 ++ c1) ++ l) k ≡ value c0 k =
      ap (λ (x : List ℤ). value x k) (append_assoc c0 c1 l) ∙ get_or-append c0 (c1 ++ l) (pos 0) k (omega arith) in
      let j : 3 + m ≡ suc (suc (suc (length c0))) = omega arith in
      let d : drop (3 + m) tinted ≡ c1 ++ l =
      ap (λ (i : ℕ). drop i tinted) j ∙ (ap (λ (x : List ℤ). drop (length c0) x) (append_assoc c0 c1 l) ∙ drop-append_seam c0 (c1 ++ l)) in
      let b : value (drop (3 + m) tinted) k ≡ value c1 k = ap (λ (x : List ℤ). value x k) d ∙ get_or-append c1 l (pos 0) k (omega arith) in
      ap₂ (λ (x y : ℤ). tint_value x y (tint_of (value v 0) e)) a b)

  tint-same : (v : Colour) → tint_step e m (drop 3 tinted) (drop (3 + m) tinted) v ≡ tint_step e m c0 c1 v
  unfolding tint_step
  tint-same v = λ i. record { values = tint-values v.values i; moved = v.moved || outside (pos 0) (pos 1000000) (value v.values 0) }

  pub tint-run : (n c : ℕ) (v : Colour) → runs n c ((pos 3 ∷ pos e ∷ pos m ∷ (c0 ++ c1)) ++ l) v ≡ runs n c l (tint_step e m c0 c1 v)
  tint-run n c v = begun n c tinted v (tint-read e m c0 c1 l supported low high h0 h1) ∙ ap₂ (λ (x : List ℤ) (y : Colour). runs n c x y) tint-drop (tint-same v)

-- ---- a program: a flat form of k words that takes the tints i and leaves m numbers

module _ (i : Tints) (m k : ℕ) (ws l : List ℤ) (size : length ws ≡ k) (formed : well_formed ws (taken_by i) m ≡ true) where
  abbrev programmed : List ℤ
  programmed = (head_words i ++ (pos m ∷ pos k ∷ ws)) ++ l

  program-drop : drop (head_size i + k) programmed ≡ l
  program-drop = drop_at (head_words i ++ (pos m ∷ pos k ∷ ws)) l (head_size i + k) (simp length-append (omega arith))

  program-part : part_of programmed (head_size i) k ≡ ws
  program-part =
      ap (λ (x : List ℤ). part_of x (head_size i) k) (ap (λ (x : List ℤ). x ++ l) (sym (append_assoc (head_words i) (pos m ∷ pos k ∷ []) ws)) ∙ append_assoc (head_words i ++ (pos m ∷ pos k ∷ [])) ws l)
      ∙ part-there (head_words i ++ (pos m ∷ pos k ∷ [])) ws l (head_size i) k (length-append (head_words i) (pos m ∷ pos k ∷ [])) size

  pub program-run : (n c : ℕ) (v : Colour) → runs n c ((head_words i ++ (pos m ∷ pos k ∷ ws)) ++ l) v ≡ runs n c l (form_step (taken_by i) m ws v)
  program-run n c v =
      begun n c programmed v (program-read i m k ws l size formed)
      ∙ ap₂ (λ (x y : List ℤ). runs n c x (form_step (taken_by i) m y v)) program-drop program-part

-- ---- a row of a table of h + 1 rows, m entries each

module _ (m h : ℕ) (t l : List ℤ) (low : 1 ≤ m) (high : m ≤ places) (last : h ≤ 255) (size : length t ≡ m * (h + 1)) where
  abbrev rowed : List ℤ
  rowed = (pos 2 ∷ pos m ∷ pos h ∷ t) ++ l

  row_drop : drop (3 + m * (h + 1)) rowed ≡ l
  row_drop =
      let k : 3 + m * (h + 1) ≡ suc (suc (suc (length t))) = omega arith in
      ap (λ (j : ℕ). drop j rowed) k ∙ drop-append_seam t l

  -- the row that is picked lies in the table
  row-values : (v : List ℤ) → row_from m h (t ++ l) v ≡ row_from m h t v
  unfolding row_from
  row-values v =
      filled-same _ _ m v (λ k lt.
      let b : index_of (value v 0) h * m + k < m * (h + 1) = row_room m h (index_of (value v 0) h) k (index-within (value v 0) h) lt in
      get_or-append t l (pos 0) (index_of (value v 0) h * m + k) (omega arith))

  row_same : (v : Colour) → row_step m h (t ++ l) v ≡ row_step m h t v
  unfolding row_step
  row_same v = λ i. record { values = row-values v.values i; moved = v.moved || index_outside (value v.values 0) h }

  pub row-run : (n c : ℕ) (v : Colour) → runs n c ((pos 2 ∷ pos m ∷ pos h ∷ t) ++ l) v ≡ runs n c l (row_step m h t v)
  row-run n c v = begun n c rowed v (row-read m h t l low high last size) ∙ ap₂ (λ (x : List ℤ) (y : Colour). runs n c x y) row_drop (row_same v)

-- ---- a closing step, after which nothing stands

pub close-run : (n c : ℕ) (l : List ℤ) (v : Colour) (k : Closing) → step_of l ≡ Some (Close k, length l)
    → runs n c l v ≡ cond (eqb c n) (closed k v) (refusal 9 0)
unfolding ended
close-run n c l v k e = begun n c l v e ∙ simp (eq-eqb (length l) (length l) refl)

module _ (n c : ℕ) (v : Colour) where
  pub no-mark-run : runs n c (pos 10 ∷ []) v ≡ cond (eqb c n) (closed NoMark v) (refusal 9 0)
  no-mark-run = close-run n c (pos 10 ∷ []) v NoMark no-mark-read

  pub every-ink-run : runs n c (pos 11 ∷ []) v ≡ cond (eqb c n) (closed EveryInk v) (refusal 9 0)
  every-ink-run = close-run n c (pos 11 ∷ []) v EveryInk every-ink-read

  pub device-gray-run : runs n c (pos 4 ∷ []) v ≡ cond (eqb c n) (closed Gray v) (refusal 9 0)
  device-gray-run = close-run n c (pos 4 ∷ []) v Gray device-gray-read

  pub device-rgb-run : runs n c (pos 5 ∷ []) v ≡ cond (eqb c n) (closed Rgb v) (refusal 9 0)
  device-rgb-run = close-run n c (pos 5 ∷ []) v Rgb device-rgb-read

  pub device-cmyk-run : runs n c (pos 6 ∷ []) v ≡ cond (eqb c n) (closed Cmyk v) (refusal 9 0)
  device-cmyk-run = close-run n c (pos 6 ∷ []) v Cmyk device-cmyk-read

  pub gray-run : (k : GrayClosing) → gamma_supported k.gamma ≡ true
      → runs n c (pos 7 ∷ k.xw ∷ k.zw ∷ k.gamma ∷ []) v ≡ cond (eqb c n) (closed (CalGray k) v) (refusal 9 0)
  gray-run k e = close-run n c (pos 7 ∷ k.xw ∷ k.zw ∷ k.gamma ∷ []) v (CalGray k) (gray-read k e)

  pub rgb-run : (k : RgbClosing) → gamma_supported k.ga ≡ true → gamma_supported k.gb ≡ true → gamma_supported k.gc ≡ true
      → runs n c
      (pos 8 ∷ k.ga ∷ k.gb ∷ k.gc ∷ k.xa ∷ k.ya ∷ k.za ∷ k.xb ∷ k.yb ∷ k.zb ∷ k.xc ∷ k.yc ∷ k.zc ∷ [])
      v
      ≡ cond (eqb c n) (closed (CalRgb k) v) (refusal 9 0)
  rgb-run k ea eb ec =
      close-run n c
      (pos 8 ∷ k.ga ∷ k.gb ∷ k.gc ∷ k.xa ∷ k.ya ∷ k.za ∷ k.xb ∷ k.yb ∷ k.zb ∷ k.xc ∷ k.yc ∷ k.zc ∷ [])
      v (CalRgb k) (rgb-read k ea eb ec)

  pub lab-run : (k : LabClosing) → runs n c (pos 9 ∷ k.xw ∷ k.zw ∷ []) v ≡ cond (eqb c n) (closed (Lab k) v) (refusal 9 0)
  lab-run k = close-run n c (pos 9 ∷ k.xw ∷ k.zw ∷ []) v (Lab k) (lab-read k)
