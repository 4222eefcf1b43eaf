-- The open pairs, as they stand in an array.
use Rattle.std.specs.Prelude.{ℕ, zero, suc, List, [], ◌∷◌, get_or}
use Rattle.program.specs.Words as W
use Rattle.program.specs.declared.state.Outer.{Outer}
use Rattle.program.specs.declared.state.Outer.TheVariants.{First, Second}

abbrev pub outer_by : Outer → W.Outer
outer_by (First f) = W.first f
outer_by (Second f g) = W.second f g

-- the first d of them, the last one first
unfoldable pub outers_by : List Outer → ℕ → List W.Outer
outers_by os zero = []
outers_by os (suc d) = outer_by (get_or os d (First 0)) ∷ outers_by os d
