-- `bytes_from`: what the page has is copied, and what it has not is zero already.
use mathlib.Core.Path.{refl, ap, ◌∙◌}
use mathlib.Core.List.{List, ◌++◌}
use Prim.Native.Nat.{ℕ}
use lib.ListN.{drop, replicate}
use Rattle.record.proofs.Runs.{room-cut}
use Rattle.record.proofs.read.bytes_from.Goals as goal

pub returns : goal.returns
returns g c =
    ap (λ (l : List ℕ). l ++ drop c.min-size.result (replicate g.row.N 0)) c.copy_from_slice.ensures.after
    ∙ room-cut c.args.page.now c.args.from c.min.result c.args.count c.min-size.result g.row.N _ refl c.min.ensures c.min-size.ensures c.requires
