-- `put_record`: what head, body and check leave is the block of the record.
use Rattle.block.proofs.Blocks.{laid}
use Rattle.block.proofs.writing.put_record.Goals as goal

pub returns : goal.returns
returns c =
    laid c.args.r c.args.out.now c.kind-kind.result c.requires c.kind-kind.ensures.is c.put_head.ensures
    c.put_body.ensures c.put_check.ensures
