-- `read_and_written`: what `read` and `write` promise, and that bytes are below 256.
use mathlib.Core.Path.{refl}
use native.Mathlib.Omega.{arith}
use Rattle.std.proofs.lemmas.Result.{err_from_is_err_and}
use Rattle.layout.specs.Field.{Bytes}
use Rattle.block.proofs.Carried.{copy_done, copy-refused}
use Rattle.block.proofs.trips.read_and_written.Goals as goal

pub returns-in_err-r : goal.returns-in_err-r
returns-in_err-r c =
    let both = copy-refused c.args.b.now c.args.out.now c.in_err-r.ensures.replies c.in_err-r.ensures.finds _ refl in
    let p = err_from_is_err_and c.from_residual.result c.from_residual.ensures.1 in
    rw (p.1, p.2) (record { replies = both.0; leaves = both.1 })

pub returns : goal.returns
returns c =
    let bytes : Bytes c.args.b.now = λ i. omega (arith, c.shared_slice_known-1.given i) in
    let both = copy_done c.args.b.now c.args.out.now c.in_ok-r.ensures.replies c.in_ok-r.ensures.finds bytes refl c.write.ensures.replies c.write.ensures.leaves in
    record { replies = both.0; leaves = both.1 }
