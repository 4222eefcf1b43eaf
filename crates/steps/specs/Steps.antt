-- FORMAT.md, Recipes: the steps, each read off the front of a list of words.
use Rattle.std.specs.Prelude.{ℕ, ◌+◌, ◌*◌, cond, ◌&&◌, Option, Some, None, List, ℤ, ltb, leb, eqb, length}
use Rattle.std.specs.Int.Signed.{lt_z}
use Rattle.fixed.specs.Numbers.{exponent_supported, gamma_supported}
use Rattle.fixed.specs.Values.{value, small_of, places, fills, makes}
use Rattle.form.specs.Steps.{form_at}
use Rattle.cie.specs.declared.GrayClosing.{GrayClosing}
use Rattle.cie.specs.declared.RgbClosing.{RgbClosing}
use Rattle.cie.specs.declared.LabClosing.{LabClosing}
use Rattle.cie.specs.declared.Closing.{Closing}
use Rattle.cie.specs.declared.Closing.TheVariants.{Gray, Rgb, Cmyk, CalGray, CalRgb, Lab, NoMark, EveryInk}
use Rattle.steps.specs.declared.Step.{Step}
use Rattle.steps.specs.declared.Step.TheVariants.{Limit, Row, Tint, Program, Close}

-- what is read off the front of a list of words: a step and how many words it takes, or none
abbrev pub Read : Type 0
Read = Option (Step × ℕ)

-- 1 k lo hi: value k (0..7) limited; lo <= hi
unfoldable pub limit_read : List ℤ → Read
limit_read l =
    cond (ltb (length l) 4) None
    (cond (ltb (small_of (value l 1)) places)
    (cond (lt_z (value l 3) (value l 2)) None (Some (Limit (small_of (value l 1)) (value l 2) (value l 3), 4)))
    None)

-- 2 m h and m (h + 1) entries; m 1..8, h 0..255
unfoldable pub row_read : List ℤ → Read
row_read l =
    cond (fills (small_of (value l 1)) && leb (small_of (value l 2)) 255)
    (cond (ltb (length l) (3 + small_of (value l 1) * (small_of (value l 2) + 1))) None
    (Some (Row (small_of (value l 1)) (small_of (value l 2)), 3 + small_of (value l 1) * (small_of (value l 2) + 1))))
    None

-- 3 e m, m C0s, m C1s; e and m 1..4
unfoldable pub tint_read : List ℤ → Read
tint_read l =
    cond (exponent_supported (small_of (value l 1)) && makes (small_of (value l 2)))
    (cond (ltb (length l) (3 + 2 * small_of (value l 2))) None
    (Some (Tint (small_of (value l 1)) (small_of (value l 2)), 3 + 2 * small_of (value l 2))))
    None

-- m n and n words, with m at the place `at`: the flat form of a program that takes t values and leaves m numbers. 12 m n: it takes 1; 13 t m n
unfoldable pub program_read : ℕ → ℕ → List ℤ → Read
program_read t at l =
    cond (form_at l (at + 2) (small_of (value l (at + 1))) t (small_of (value l at)))
    (Some (Program t (small_of (value l at)) (at + 2) (small_of (value l (at + 1))), at + 2 + small_of (value l (at + 1))))
    None

-- a closing step of n words
unfoldable pub close_read : List ℤ → ℕ → Closing → Read
close_read l n k = cond (ltb (length l) n) None (Some (Close k, n))

-- 7 XW ZW gamma
abbrev pub gray_words : List ℤ → GrayClosing
gray_words l = record { xw = value l 1; zw = value l 2; gamma = value l 3 }

unfoldable pub gray_read : List ℤ → Read
gray_read l = cond (gamma_supported (value l 3)) (close_read l 4 (CalGray (gray_words l))) None

-- 8, three gammas, nine matrix numbers
abbrev pub rgb_words : List ℤ → RgbClosing
rgb_words l =
    record {
      ga = value l 1;
      gb = value l 2;
      gc = value l 3;
      xa = value l 4;
      ya = value l 5;
      za = value l 6;
      xb = value l 7;
      yb = value l 8;
      zb = value l 9;
      xc = value l 10;
      yc = value l 11;
      zc = value l 12;
    }

unfoldable pub rgb_read : List ℤ → Read
rgb_read l =
    cond (gamma_supported (value l 1) && (gamma_supported (value l 2) && gamma_supported (value l 3)))
    (close_read l 13 (CalRgb (rgb_words l)))
    None

-- 9 XW ZW
abbrev pub lab_words : List ℤ → LabClosing
lab_words l = record { xw = value l 1; zw = value l 2 }

-- the step that begins with the word op; closing: 4 Gray, 5 RGB, 6 CMYK, 10 no mark, 11 every ink
unfoldable pub step_by : ℕ → List ℤ → Read
step_by op l =
    cond (eqb op 1) (limit_read l)
    (cond (eqb op 2) (row_read l)
    (cond (eqb op 3) (tint_read l)
    (cond (eqb op 4) (close_read l 1 Gray)
    (cond (eqb op 5) (close_read l 1 Rgb)
    (cond (eqb op 6) (close_read l 1 Cmyk)
    (cond (eqb op 7) (gray_read l)
    (cond (eqb op 8) (rgb_read l)
    (cond (eqb op 9) (close_read l 3 (Lab (lab_words l)))
    (cond (eqb op 10) (close_read l 1 NoMark)
    (cond (eqb op 11) (close_read l 1 EveryInk)
    (cond (eqb op 12) (program_read 1 1 l)
    (cond (eqb op 13) (program_read (small_of (value l 1)) 2 l)
    None))))))))))))

-- no step begins with a word 0, so none is read off an empty list
abbrev pub step_of : List ℤ → Read
step_of l = step_by (small_of (value l 0)) l
