-- FORMAT.md, Programs: what is promised of calculator programs (ISO 32000-1, 7.10.5), as one statement over all texts, programs and tints. What the words mean stands
-- in stack/specs: a program is a tree (Programs), `ran` is what it leaves of a stack (Meaning, Operators), `judged` is what judging says of it and `strictly` runs it
-- with the kind of each value beside it, and sticks where an operator meets a stack too low, too high or of a wrong kind (Judging), `flat` is its flat form and
-- `runs` runs words (Flat). `read_of` is the program of a text (program/specs), and `formed` is when words are a flat form (form/specs/Paths).
use Rattle.std.specs.Prelude.{◌≡◌, List, ℕ, ◌≤◌, ℤ, pos, length, replicate}
use Rattle.fixed.specs.declared.values.Colour.{Colour}
use Rattle.stack.specs.Programs.{Code}
use Rattle.stack.specs.Meaning.{ran}
use Rattle.stack.specs.Judging.{through, strictly}
use Rattle.stack.specs.Flat.{flat, runs}
use Rattle.program.specs.Parse.{millions}
use Rattle.program.specs.Spelling.{written, Within}
use Rattle.fixed.specs.Sizes.{most_tokens, most_flat}
use Rattle.program.specs.Texts.{program, read_of}
use Rattle.form.specs.Steps.{most_words, well_formed, fitting, form_step, program_step}
use Rattle.calculator.specs.Calculator.{refusal_of, words_by}
use Rattle.calculator.specs.Written.{program_text, Carried}

-- on tints, which are numbers, the program goes through and leaves m numbers: those that it means
pub record Goes (m : ℕ) (c : Code) (tints : List ℤ) : Type 0 where
  pub through! : strictly c tints (replicate (length tints) (pos 0)) ≡ through (ran c tints) (replicate m (pos 0))
  pub leaves : length (ran c tints) ≡ m

pub record Promises : Type 0 where
  -- the reader is right: a program of at most 400 tokens and 8 pairs of braces, one in the other, whose numbers have 32 bits, is read back from its text
  pub reads : (c : Code) → Within 7 c → Carried c → length (written millions c) ≤ most_tokens → read_of (program_text c) ≡ program c
  -- nothing accepted sticks: a text that is refused neither with 16 nor with 17, for so many tints and m numbers
  pub goes : (m : ℕ) (l : List ℕ) (c : Code) (tints : List ℤ) → read_of l ≡ program c → refusal_of (length tints) m l ≡ 0 → Goes m c tints
  -- the nested form is the meaning: the flat form leaves the same of every stack, and steps 12 and 13 the same of every colour
  pub nested : (c : Code) (s : List ℤ) → runs (flat c) s ≡ ran c s
  pub steps : (t m : ℕ) (c : Code) (v : Colour) → form_step t m (flat c) v ≡ program_step t m c v
  -- both are judged alike: the words of a program are refused with 11 just where it is refused with 17
  pub alike : (t m : ℕ) (c : Code) → length (flat c) ≤ most_words → well_formed (flat c) t m ≡ fitting t m c
  -- a token gives at most two words, and the outer pair none
  pub short : (l : List ℕ) → length (words_by (read_of l)) ≤ most_flat
