-- RECIPES.md, Programs: steps 12 and 13 of a recipe: when their words are well-formed, and what they do to a colour. Step 12 takes one value, step 13 says how many.
use Rattle.std.specs.Prelude.{ℕ, zero, suc, ◌+◌, ◌-◌, Bool, false, ◌&&◌, ◌||◌, cond, List, [], ◌∷◌, ℤ, pos, leb, length, replicate, take, drop}
use Rattle.fixed.specs.Numbers.{limited, outside}
use Rattle.fixed.specs.Values.{value, places, fills, makes, filled}
use Rattle.fixed.specs.Sizes.{longest}
use Rattle.fixed.specs.declared.values.Colour.{Colour}
use Rattle.stack.specs.Programs.{Code}
use Rattle.stack.specs.Meaning.{ran}
use Rattle.stack.specs.Judging.{judged}
use Rattle.stack.specs.Flat.{runs}
use Rattle.form.specs.Paths.{leaves_numbers, formed}
use Rattle.form.specs.declared.Tints.{Tints}
use Rattle.form.specs.declared.Tints.TheVariants.{One, Inks}

-- a count of names, which is 1 to 8: any other, which validation refuses, is taken to the nearest of these
unfoldable pub nearest_count : ℕ → ℕ
nearest_count n = cond (leb n 1) 1 (cond (leb n places) n places)

-- how many values a program takes
abbrev pub taken_by : Tints → ℕ
taken_by One = 1
taken_by (Inks n) = nearest_count n

-- the words that begin its step: 12, or 13 and next to it how many values it takes
abbrev pub head_words : Tints → List ℤ
head_words One = pos 12 ∷ []
head_words (Inks n) = pos 13 ∷ pos (nearest_count n) ∷ []

-- the most words that a recipe has room for after its input count and the three words that begin step 12
abbrev pub most_words : ℕ
most_words = longest - 4

-- 11 unless: the words are a flat form that takes t values and leaves m numbers
unfoldable pub well_formed : List ℤ → ℕ → ℕ → Bool
well_formed ws t m = (fills t && makes m) && (leb (length ws) most_words && formed ws t m)

-- n words from a place on
abbrev pub part_of : List ℤ → ℕ → ℕ → List ℤ
part_of ws at n = take n (drop at ws)

-- n words from a place on are there, and are a flat form that takes t values and leaves m numbers
unfoldable pub form_at : List ℤ → ℕ → ℕ → ℕ → ℕ → Bool
form_at ws at n t m = leb (at + n) (length ws) && well_formed (part_of ws at n) t m

-- the tints that a program takes: the first t values, each limited to 0..1, the first deepest
unfoldable pub tints_in : ℕ → List ℤ → List ℤ
tints_in zero v = []
tints_in (suc t) v = limited (pos 0) (pos 1000000) (value v t) ∷ tints_in t v

-- whether limiting them moves one of them
unfoldable pub tints_outside : ℕ → List ℤ → Bool
tints_outside zero v = false
tints_outside (suc t) v = tints_outside t v || outside (pos 0) (pos 1000000) (value v t)

-- m results replace the values from 0, the first the deepest of the stack
unfoldable pub results : ℕ → List ℤ → List ℤ → List ℤ
results m s v = filled (λ k. value s (m - 1 - k)) m v

-- the colour after a program that takes t values and leaves the stack s: m results, and it moves the colour where one of the tints lies outside 0..1. A value that is
-- taken and not replaced stays as it was
abbrev pub resulting : ℕ → ℕ → List ℤ → Colour → Colour
resulting t m s c = record { values = results m s c.values; moved = c.moved || tints_outside t c.values }

-- the colour after a flat form that takes t values and leaves m numbers: step 12 with t = 1, and step 13
unfoldable pub form_step : ℕ → ℕ → List ℤ → Colour → Colour
form_step t m ws c = resulting t m (runs ws (tints_in t c.values)) c

-- the values after it, which do not depend on what moved before
abbrev pub form_values : ℕ → ℕ → List ℤ → List ℤ → List ℤ
form_values t m ws v = results m (runs ws (tints_in t v)) v

-- the colour after a program: its meaning
unfoldable pub program_step : ℕ → ℕ → Code → Colour → Colour
program_step t m code c = resulting t m (ran code (tints_in t c.values)) c

-- a program takes t values and leaves m numbers
unfoldable pub fitting : ℕ → ℕ → Code → Bool
fitting t m c = (fills t && makes m) && leaves_numbers m (judged c (replicate t (pos 0)))
