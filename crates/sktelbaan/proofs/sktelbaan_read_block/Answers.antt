-- Each case of what `read` replies is a law.
use Rattle.std.proofs.Common.{ℕ, refl, ap, ◌∙◌}
use Rattle.sktelbaan_runner.specs.Replies.{in_halves}
use Rattle.sktelbaan.proofs.Blocks.{got-done, got-refused}
use Rattle.sktelbaan.proofs.sktelbaan_read_block.Goals as goal

pub returns-in-Ok : goal.returns-in-Ok
returns-in-Ok c =
    let all = got-done c.args.block.now c.args.numbers.now c.args.bytes.now c.in-Ok.ensures.replies c.in-Ok.ensures.finds refl c.halves.ensures c.numbers_of-v.ensures in
    record { value = all.0; numbers_after = all.1.0; bytes_after = all.1.1 }

pub returns-in-Err : goal.returns-in-Err
returns-in-Err c =
    let all = got-refused c.args.block.now c.args.numbers.now c.args.bytes.now c.in-Err.ensures.replies c.in-Err.ensures.finds _ refl
    (c.halves-in-Err.ensures ∙ ap (λ (n : ℕ). in_halves n 0) c.number.ensures) in
    record { value = all.0; numbers_after = all.1.0; bytes_after = all.1.1 }
