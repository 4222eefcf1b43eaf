-- A table in memory: the rows that its names and numbers are.
use Rattle.std.specs.Prelude.{List, [], ◌∷◌}
use Rattle.keys.specs.declared.rows.Row.{Row}
use Rattle.keys.specs.Names.{Known, known}

abbrev pub rows_of : List Row → List Known
rows_of [] = []
rows_of (r ∷ rs) = known r.name.now r.number ∷ rows_of rs
