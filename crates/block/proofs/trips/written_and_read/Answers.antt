-- `written_and_read`: what `write` and `read` promise, and that the record fits.
use mathlib.Core.Path.{refl}
use Prim.Native.Nat.{ℕ}
use lib.ListN.{replicate, length-replicate}
use Rattle.std.proofs.lemmas.Result.{err_from_is_err_and}
use Rattle.block.proofs.Carried.{trip-done, trip-refused}
use Rattle.block.proofs.trips.written_and_read.Goals as goal

pub returns-in_err-write : goal.returns-in_err-write
returns-in_err-write c =
    let both = trip-refused c.args.r (replicate 512 0) (length-replicate {A = ℕ} 512 0) _ c.in_err-write.ensures.replies refl refl in
    let p = err_from_is_err_and c.from_residual.result c.from_residual.ensures.1 in
    rw (p.1, p.2) (record { replies = both.0; finds = both.1 })

pub returns : goal.returns
returns c =
    let both = trip-done c.args.r (replicate 512 0) (length-replicate {A = ℕ} 512 0) c.record_fits.ensures _ c.in_ok-write.ensures.replies c.in_ok-write.ensures.leaves c.read.ensures.replies c.read.ensures.finds in
    record { replies = both.0; finds = both.1 }
