-- FORMAT.md, Kinds: what every value of the type Record has, whatever program made it: its room, and each number in the
-- range of its type.
use Rattle.std.specs.Prelude.{◌≡◌, length}
use Rattle.layout.specs.Field.{FieldsFit}
use Rattle.record.specs.Layout.{room, fields}
use Rattle.record.specs.declared.types.Record.{Record}

pub record Fits (r : Record) : Type 0 where
  pub room : length r.bytes ≡ room
  pub numbers : FieldsFit (fields r)
