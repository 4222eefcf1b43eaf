-- `put_line`: the columns of the line, one after the other.
use Rattle.lines.proofs.Lines.{columns}
use Rattle.lines.proofs.listing.put_line.Goals as goal

pub returns : goal.returns
returns c =
    columns _ _ _ _ _ _ c.kind.ensures c.components.ensures.is c.words.ensures.is
    c.put_column-a.ensures c.put_family-b.ensures c.put_column-c.ensures c.put_column.ensures
