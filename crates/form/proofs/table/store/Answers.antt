-- Row q has the two words packed, and no other row is touched.
use mathlib.Core.Path.{subst}
use mathlib.Core.List.{List}
use lib.IntN.{ℤ}
use Prim.Native.Nat.{◌*◌, ◌+◌}
use lib.ListN.{length, set}
use Rattle.form.specs.Table.{Stored, bits_of}
use Rattle.form.proofs.Tables.{stored_is}
use Rattle.form.proofs.table.store.Goals as goal

pub returns : goal.returns
returns c =
    let kinds = c.values-kinds.result.now in
    subst (λ (s : List ℤ). Stored c.args.t.now (set (set c.args.t.now (2 * c.args.q) (c.packed-x.result * 128 + (length kinds + 1))) (2 * c.args.q + 1) c.packed-y.result) c.args.q (bits_of s)) c.values-kinds.ensures.is
    (stored_is c.args.t.now c.args.q (length kinds) c.packed-x.result c.packed-y.result kinds c.requires c.values-kinds.ensures.most c.low_part-m.result c.low_part-m.ensures c.packed-x.ensures.is c.packed-y.ensures.is)
