-- Each step of a recipe, read off a list that begins with its words.
use mathlib.Core.Path.{◌≡◌, refl}
use mathlib.Core.Bool.{true, false, ◌&&◌}
use mathlib.Core.List.{List, [], ◌∷◌, ◌++◌}
use Prim.Native.Nat.{ℕ, suc, ◌+◌, ◌*◌, ◌≤◌, ◌<◌}
use native.Mathlib.Omega.{arith}
use lib.IntN.{ℤ, pos}
use lib.Signed.{lt_z}
use lib.Dec.{leb}
use lib.ListN.{length, length-append}
use borrow.Author.Tests.{lt-ltb, le-ltb, le-leb}
use Rattle.fixed.specs.Numbers.{exponent_supported, gamma_supported}
use Rattle.fixed.specs.Values.{places, widest}
use Rattle.fixed.proofs.Decide.{both}
use Rattle.form.specs.Steps.{well_formed, nearest_count, taken_by, head_words}
use Rattle.form.specs.declared.Tints.{Tints}
use Rattle.form.specs.declared.Tints.TheVariants.{One, Inks}
use Rattle.form.proofs.Parts.{form-there}
use Rattle.cie.specs.declared.GrayClosing.{GrayClosing}
use Rattle.cie.specs.declared.RgbClosing.{RgbClosing}
use Rattle.cie.specs.declared.LabClosing.{LabClosing}
use Rattle.cie.specs.declared.Closing.TheVariants.{Gray, Rgb, Cmyk, CalGray, CalRgb, Lab, NoMark, EveryInk}
use Rattle.steps.specs.Steps.{limit_read, row_read, tint_read, program_read, close_read, gray_read, rgb_read, step_by, step_of}
use Rattle.steps.specs.declared.Step.TheVariants.{Limit, Row, Tint, Program, Close}
use Rattle.std.specs.Prelude.{Some}

-- a number of 1 to top passes its test
pub one-to : (m top : ℕ) → 1 ≤ m → m ≤ top → (leb 1 m && leb m top) ≡ true
one-to m top low high = both (le-leb 1 m low) (le-leb m top high)

-- ---- a limit

pub limit-read : (k : ℕ) (lo hi : ℤ) (l : List ℤ) → k < places → lt_z hi lo ≡ false → step_of (pos 1 ∷ pos k ∷ lo ∷ hi ∷ l) ≡ Some (Limit k lo hi, 4)
unfolding step_by limit_read
limit-read k lo hi l h o =
    let e : 4 ≤ suc (suc (suc (suc (length l)))) = omega arith in
    simp (le-ltb _ 4 e, lt-ltb k places h, o)

-- ---- a tint: m C0s, then m C1s

pub tint-read : (e m : ℕ) (c0 c1 l : List ℤ) → exponent_supported e ≡ true → 1 ≤ m → m ≤ widest → length c0 ≡ m → length c1 ≡ m
    → step_of ((pos 3 ∷ pos e ∷ pos m ∷ (c0 ++ c1)) ++ l) ≡ Some (Tint e m, 3 + 2 * m)
unfolding step_by tint_read
tint-read e m c0 c1 l supported low high h0 h1 =
    let o : 3 + 2 * m ≤ suc (suc (suc (length ((c0 ++ c1) ++ l)))) = simp length-append (omega arith) in
    simp (supported, one-to m widest low high, le-ltb _ _ o)

-- ---- a program: a flat form of k words that takes the tints i and leaves m numbers

-- how many words stand before the flat form
abbrev pub head_size : Tints → ℕ
head_size i = length (head_words i) + 2

pub program-read : (i : Tints) (m k : ℕ) (ws l : List ℤ) → length ws ≡ k → well_formed ws (taken_by i) m ≡ true
    → step_of ((head_words i ++ (pos m ∷ pos k ∷ ws)) ++ l) ≡ Some (Program (taken_by i) m (head_size i) k, head_size i + k)
unfolding step_by program_read
program-read One m k ws l size formed = simp (form-there (pos 12 ∷ pos m ∷ pos k ∷ []) ws l 3 k refl size 1 m formed)
program-read (Inks t) m k ws l size formed = simp (form-there (pos 13 ∷ pos (nearest_count t) ∷ pos m ∷ pos k ∷ []) ws l 4 k refl size (nearest_count t) m formed)

-- ---- a row of a table of h + 1 rows, m entries each

pub row-read : (m h : ℕ) (t l : List ℤ) → 1 ≤ m → m ≤ places → h ≤ 255 → length t ≡ m * (h + 1)
    → step_of ((pos 2 ∷ pos m ∷ pos h ∷ t) ++ l) ≡ Some (Row m h, 3 + m * (h + 1))
unfolding step_by row_read
row-read m h t l low high last size =
    let o : 3 + m * (h + 1) ≤ suc (suc (suc (length (t ++ l)))) = simp length-append (omega arith) in
    simp (one-to m places low high, le-leb h 255 last, le-ltb _ _ o)

-- ---- a closing step, after which nothing stands

pub device-gray-read : step_of (pos 4 ∷ []) ≡ Some (Close Gray, 1)
unfolding step_by close_read
device-gray-read = refl

pub device-rgb-read : step_of (pos 5 ∷ []) ≡ Some (Close Rgb, 1)
unfolding step_by close_read
device-rgb-read = refl

pub device-cmyk-read : step_of (pos 6 ∷ []) ≡ Some (Close Cmyk, 1)
unfolding step_by close_read
device-cmyk-read = refl

pub gray-read : (k : GrayClosing) → gamma_supported k.gamma ≡ true → step_of (pos 7 ∷ k.xw ∷ k.zw ∷ k.gamma ∷ []) ≡ Some (Close (CalGray k), 4)
unfolding step_by gray_read close_read
gray-read k e = simp e

pub rgb-read : (k : RgbClosing) → gamma_supported k.ga ≡ true → gamma_supported k.gb ≡ true → gamma_supported k.gc ≡ true
    → step_of
    (pos 8 ∷ k.ga ∷ k.gb ∷ k.gc ∷ k.xa ∷ k.ya ∷ k.za ∷ k.xb ∷ k.yb ∷ k.zb ∷ k.xc ∷ k.yc ∷ k.zc ∷ [])
    ≡ Some (Close (CalRgb k), 13)
unfolding step_by rgb_read close_read
rgb-read k a b c = simp (a, b, c)

pub lab-read : (k : LabClosing) → step_of (pos 9 ∷ k.xw ∷ k.zw ∷ []) ≡ Some (Close (Lab k), 3)
unfolding step_by close_read
lab-read k = refl

pub no-mark-read : step_of (pos 10 ∷ []) ≡ Some (Close NoMark, 1)
unfolding step_by close_read
no-mark-read = refl

pub every-ink-read : step_of (pos 11 ∷ []) ≡ Some (Close EveryInk, 1)
unfolding step_by close_read
every-ink-read = refl
