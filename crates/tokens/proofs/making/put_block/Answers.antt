-- `put_block`: a part of the bytes becomes the block of the record.
use Prim.Native.Nat.{◌*◌}
use Rattle.tokens.proofs.Runs.{part-put}
use Rattle.tokens.proofs.making.put_block.Goals as goal

pub returns : goal.returns
returns c = part-put (512 * c.args.n) c.args.blocks.now c.put_record.ensures
