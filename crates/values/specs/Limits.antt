-- FORMAT.md, Colour steps: each component of a colour is limited to its range first.
use Rattle.std.specs.Prelude.{ℕ, zero, suc}
use Rattle.fixed.specs.Values.{limit_step}
use Rattle.fixed.specs.declared.values.Colour.{Colour}
use Rattle.space.specs.Spaces.{Space, low_of, high_of}

-- the first m values, each limited to its range
unfoldable pub limited_to : Space → ℕ → Colour → Colour
limited_to s zero v = v
limited_to s (suc m) v = limit_step m (low_of s m) (high_of s m) (limited_to s m v)
