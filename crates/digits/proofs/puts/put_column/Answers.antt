-- `put_column`: the number, and then the byte.
use Rattle.digits.proofs.Putting.{then}
use Rattle.digits.proofs.puts.put_column.Goals as goal

pub returns : goal.returns
returns c = then c.put_number-next.ensures c.put_byte.ensures
