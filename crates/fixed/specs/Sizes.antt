-- FORMAT.md, Sizes and house limits: how large a program and a recipe may be. Each follows from the numbers above it.
use Rattle.std.specs.Prelude.{ℕ, ◌+◌, ◌-◌, ◌*◌}
use Rattle.fixed.specs.Values.{places}

-- the most tokens of a program, braces counted
abbrev pub most_tokens : ℕ
most_tokens = 400

-- the most words of its flat form: two for each token, and none for the outer pair
abbrev pub most_flat : ℕ
most_flat = 2 * (most_tokens - 2)

-- the longest recipe: the count; step 2, with 256 rows of as many entries as there are values; step 13, with the most words of a program; CalRGB's three limits
-- and its closing step
abbrev pub longest : ℕ
longest = 1 + (3 + places * 256) + (4 + most_flat) + (3 * 4 + 13)
