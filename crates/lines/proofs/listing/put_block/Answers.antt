-- `put_block`: the block's line, or nothing, by its kind.
use native.Mathlib.Omega.{arith}
use Rattle.digits.proofs.Putting.{same, wider, nothing}
use Rattle.lines.proofs.Lines.{space-line, no_line}
use Rattle.lines.proofs.listing.put_block.Goals as goal

pub returns-then-is_space : goal.returns-then-is_space
returns-then-is_space c =
    same (space-line _ _ c.kind.ensures c.is_space.ensures c.if-is_space.true) c.put_line.ensures

pub returns : goal.returns
returns c =
    same (no_line _ _ c.kind.ensures c.is_space.ensures c.if-is_space.false) (wider 44 (omega arith) (nothing _ _))
