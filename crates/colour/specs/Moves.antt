-- FORMAT.md, Answers: what the flag of an answer says, without the steps. In a plain space it is no exactly where every component lies within its range; in a space over
-- another it is yes where its own limit moves something, or where the flag of what is within is yes.
use Rattle.std.specs.Prelude.{◌≡◌, Bool, false, ◌||◌, List, ℕ, zero, suc, ◌<◌, ◌≤◌, ℤ, pos, length}
use Rattle.fixed.specs.Numbers.{limited, outside, index_outside}
use Rattle.fixed.specs.Values.{value, places, started, row_step, tint_step}
use Rattle.fixed.specs.declared.values.Colour.{Colour}
use Rattle.stack.specs.Programs.{Code}
use Rattle.form.specs.Steps.{taken_by, tints_outside, program_step}
use Rattle.form.specs.declared.Tints.{Tints}
use Rattle.cie.specs.Answers.{Reply, answer, refusal}
use Rattle.space.specs.Spaces.{Space, separation, calculated, indexed, count_of, limit_count, low_of, high_of}
use Rattle.space.specs.WellMade.{rank_of, WellMade}
use Rattle.colour.specs.Colours.{valued, answered}

-- the flag of a reply; a refusal carries none
abbrev pub flag_of : Reply → Bool
flag_of (answer kind floats moved) = moved
flag_of (refusal number block) = false

-- whether one of the first m components lies outside its range
unfoldable pub some_outside : Space → List ℤ → ℕ → Bool
some_outside s cs zero = false
some_outside s cs (suc m) = some_outside s cs m || outside (low_of s m) (high_of s m) (value cs m)

-- what a colour on its way answers from here on, had nothing moved before
abbrev pub onward : Space → Colour → Reply
onward s c = valued s (record { values = c.values; moved = false })

pub record FlagMeans : Type 0 where
  -- a device space, CalGray, CalRGB, Lab, and a Separation named None, which limits nothing, or All
  pub plain : (s : Space) (cs : List ℤ) → rank_of s < 1 → 1 ≤ count_of s → length cs ≡ count_of s → flag_of (answered s cs) ≡ some_outside s cs (limit_count s)
  -- an Indexed: its rounded index is no row, or the flag of its base's colour
  pub row : (h : ℕ) (t : List ℤ) (s : Space) (cs : List ℤ) → WellMade s → length cs ≡ 1
      → flag_of (answered (indexed h t s) cs) ≡ (index_outside (value cs 0) h || flag_of (onward s (row_step (count_of s) h t (started places cs))))
  -- a Separation: its tint lies outside 0..1, or the flag of its alternate's colour
  pub tint : (e : ℕ) (c₀ c₁ : List ℤ) (s : Space) (cs : List ℤ) → WellMade s → length cs ≡ 1
      → flag_of (answered (separation e c₀ c₁ s) cs) ≡ (outside (pos 0) (pos 1000000) (value cs 0) || flag_of (onward s (tint_step e (count_of s) c₀ c₁ (started places cs))))
  -- a Separation with a program, or a DeviceN: one of its tints lies outside 0..1, or the flag of its alternate's colour
  pub program : (i : Tints) (code : Code) (s : Space) (cs : List ℤ) → WellMade s → length cs ≡ taken_by i
      → flag_of (answered (calculated i code s) cs) ≡ (tints_outside (taken_by i) cs || flag_of (onward s (program_step (taken_by i) (count_of s) code (started places cs))))
  -- what lies within a range is what its limit leaves, and what a limit leaves lies within
  pub leaves : (lo hi v : ℤ) → outside lo hi v ≡ false → limited lo hi v ≡ v
  pub within : (lo hi v : ℤ) → limited lo hi v ≡ v → outside lo hi v ≡ false
