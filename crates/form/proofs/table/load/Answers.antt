use mathlib.Core.Path.{ap}
use native.Mathlib.Omega.{arith}
use Prim.Native.Nat.{◌*◌, ◌/◌}
use lib.ListN.{length, get_or}
use Rattle.form.proofs.Tables.{up-length, part-le}
use Rattle.form.proofs.table.load.Goals as goal

pub unpack-requires-2 : goal.unpack-requires-2
unpack-requires-2 c =
    omega (arith, c.low_part-m.ensures, part-le c.args.h, ap length c.unpack.ensures, up-length (get_or c.args.t.now (2 * c.args.p) 0 / 128) c.low_part-m.result c.clear.new.self, ap length c.clear.ensures)
