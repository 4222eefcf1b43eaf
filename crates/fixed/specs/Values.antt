-- FORMAT.md, Colour steps and Recipes: the steps of a colour. A colour on its way is its values, a list of numbers in millionths of any length, and whether a
-- limit has moved anything so far.
use Rattle.std.specs.Prelude.{ℕ, zero, suc, ◌+◌, ◌*◌, Bool, false, ◌&&◌, ◌||◌, List, [], ◌∷◌, ◌++◌, ℤ, pos, negsuc, nat_abs, leb, get_or, set}
use Rattle.fixed.specs.Numbers.{limited, outside, round_index, index_outside, tint_power, tint_value}
use Rattle.fixed.specs.declared.values.Colour.{Colour}

-- how many values there are
abbrev pub places : ℕ
places = 8

-- the most components of a plain space, which are CMYK's: a tint and a program make no more
abbrev pub widest : ℕ
widest = 4

-- a count of 1 to `top`
abbrev pub up_to : ℕ → ℕ → Bool
up_to top m = leb 1 m && leb m top

-- a count of values: what a recipe begins from, the entries of a row, what a program takes
abbrev pub fills : ℕ → Bool
fills m = up_to places m

-- a count of components that a tint or a program makes
abbrev pub makes : ℕ → Bool
makes m = up_to widest m

-- value k, 0 where there is none
abbrev pub value : List ℤ → ℕ → ℤ
value v k = get_or v k (pos 0)

-- a number that is not negative, as it is; a negative one is 4294967295, which is beyond every bound
abbrev pub small_of : ℤ → ℕ
small_of (pos n) = n
small_of (negsuc n) = 4294967295

-- f 0, f 1, .., f (n - 1)
unfoldable pub listed : (ℕ → ℤ) → ℕ → List ℤ
listed f zero = []
listed f (suc n) = listed f n ++ (f n ∷ [])

-- the first m values are f 0, .., f (m - 1), and the others stay
unfoldable pub filled : (ℕ → ℤ) → ℕ → List ℤ → List ℤ
filled f zero v = v
filled f (suc m) v = set (filled f m v) m (f m)

-- n values: those given, and 0
abbrev pub given : ℕ → List ℤ → List ℤ
given n cs = listed (value cs) n

-- what a colour starts with: n values, and nothing has moved
abbrev pub started : ℕ → List ℤ → Colour
started n cs = record { values = given n cs; moved = false }

-- ---- a limit

-- the values, value k limited to lo..hi
unfoldable pub limited_at : ℕ → ℤ → ℤ → List ℤ → List ℤ
limited_at k lo hi v = set v k (limited lo hi (value v k))

-- the step: it moves the colour where value k lies outside
unfoldable pub limit_step : ℕ → ℤ → ℤ → Colour → Colour
limit_step k lo hi c = record { values = limited_at k lo hi c.values; moved = c.moved || outside lo hi (value c.values k) }

-- ---- a row of a table

-- the row that x picks of rows 0..h: x rounded half up, then taken to the nearest of them
unfoldable pub index_of : ℤ → ℕ → ℕ
index_of x h = nat_abs (round_index x h)

-- value 0 picks a row of the table t, whose m entries replace the first m values
unfoldable pub row_from : ℕ → ℕ → List ℤ → List ℤ → List ℤ
row_from m h t v = filled (λ k. value t (index_of (value v 0) h * m + k)) m v

-- the step: it moves the colour where value 0, rounded, is no row
unfoldable pub row_step : ℕ → ℕ → List ℤ → Colour → Colour
row_step m h t c = record { values = row_from m h t c.values; moved = c.moved || index_outside (value c.values 0) h }

-- ---- a tint

-- the tint x, limited to 0..1, to the exponent e
unfoldable pub tint_of : ℤ → ℕ → ℕ
tint_of x e = tint_power (nat_abs (limited (pos 0) (pos 1000000) x)) e

-- value 0 is the tint, and m components of the alternate space replace the first m values
unfoldable pub tinted_by : ℕ → ℕ → List ℤ → List ℤ → List ℤ → List ℤ
tinted_by e m c₀ c₁ v = filled (λ k. tint_value (value c₀ k) (value c₁ k) (tint_of (value v 0) e)) m v

-- the step: it moves the colour where value 0 lies outside 0..1
unfoldable pub tint_step : ℕ → ℕ → List ℤ → List ℤ → Colour → Colour
tint_step e m c₀ c₁ c = record { values = tinted_by e m c₀ c₁ c.values; moved = c.moved || outside (pos 0) (pos 1000000) (value c.values 0) }
