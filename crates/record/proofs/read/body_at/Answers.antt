-- A block that the page has is read there; of any other the copy says the same (`body_same`).
use mathlib.Core.Path.{ap, ◌∙◌}
use Prim.Native.Nat.{◌*◌}
use lib.ListN.{drop}
use Rattle.record.specs.Reading.{body_at}
use Rattle.record.proofs.Runs.{block-same}
use Rattle.record.proofs.Same.{body_same}
use Rattle.record.proofs.read.body_at.Goals as goal

pub returns : goal.returns
returns c =
    let b = drop (512 * c.args.n) c.args.page.now in
    c.body_in-2.ensures ∙ ap body_at c.bytes_from.ensures ∙ body_same _ b (block-same b)
