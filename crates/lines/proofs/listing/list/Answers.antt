-- `list`: what validation finds decides which text is put.
use mathlib.Core.Path.{sym}
use Rattle.page.proofs.Sizes.{sized-most}
use Rattle.page.proofs.Accepted.{well-sized}
use Rattle.lines.proofs.Lines.{listed}
use Rattle.lines.proofs.listing.list.Goals as goal

pub put_accepted-requires : goal.put_accepted-requires
put_accepted-requires c = sized-most _ (well-sized _ (sym c.in-Ok.ensures))

pub returns-in-Ok : goal.returns-in-Ok
returns-in-Ok c =
    let both = listed _ _ c.in-Ok.ensures c.put_accepted.ensures in
    record { size = both.0; put = both.1.0; short = both.1.1 }

pub returns-in-Err : goal.returns-in-Err
returns-in-Err c =
    let both = listed _ _ c.in-Err.ensures c.put_refused.ensures in
    record { size = both.0; put = both.1.0; short = both.1.1 }
