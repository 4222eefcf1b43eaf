-- A bit that is off has room in the mask.
use Rattle.std.proofs.Common.{arith}
use Rattle.keys.proofs.Masks.{bit-whole, mask-room}
use Rattle.keys.proofs.entries.with_key.Goals as goal

pub overflow_add-result : goal.overflow_add-result
overflow_add-result c =
    let room = mask-room c.args.mask c.args.key (omega arith) c.requires.0 c.requires.1 in rw (bit-whole c.args.key c.requires.0) (record { fits = room })

pub returns : goal.returns
returns c = rw (bit-whole c.args.key c.requires.0)
