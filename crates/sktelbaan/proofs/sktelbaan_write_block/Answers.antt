-- Each exit is a law: too few or too many bytes, numbers that make no record, and what `write` says.
use Rattle.std.proofs.Common.{sym, ◌∙◌}
use Rattle.sktelbaan.proofs.Blocks.{put-short, put-unfit, put-kept, put-done}
use Rattle.sktelbaan.proofs.sktelbaan_write_block.Goals as goal

pub returns-then-block-ne512 : goal.returns-then-block-ne512
returns-then-block-ne512 c =
    let a = c.args in
    let both = put-kept a.numbers.now a.bytes.now a.block.now 9 (put-short a.numbers.now a.bytes.now a.block.now c.if-block-ne512.true) c.done.ensures.plain in
    record { value = both.0; block_after = both.1 }

pub returns-then-not-is_record_like : goal.returns-then-not-is_record_like
returns-then-not-is_record_like c =
    let a = c.args in
    let not-like = sym c.is_record_like.ensures ∙ c.if-not-is_record_like.true in
    let both = put-kept a.numbers.now a.bytes.now a.block.now 2 (put-unfit a.numbers.now a.bytes.now a.block.now c.if-block-ne512.false not-like) c.done-then-not-is_record_like.ensures.plain in
    record { value = both.0; block_after = both.1 }

pub returns : goal.returns
returns c =
    let a = c.args in
    let like = sym c.is_record_like.ensures ∙ c.if-not-is_record_like.false in
    let both = put-done a.numbers.now a.bytes.now a.block.now c.if-block-ne512.false like _ c.record_of.ensures _ c.write.ensures.replies c.done-2.ensures.of_block c.write.ensures.leaves in
    record { value = both.0; block_after = both.1 }
