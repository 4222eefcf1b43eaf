-- `all_palettes` scans: the blocks below k pass.
use Rattle.fixed.proofs.Scans.{Passing}
use Rattle.fixed.specs.Bytes.{block_at}
use Rattle.record.specs.Reading.{body_at}
use Rattle.record.specs.Rules.{is_palette}
use Rattle.runs.proofs.runs.all_palettes.Given as goal

abbrev pub invariant-loop-k : goal.invariant-loop-k
invariant-loop-k l = Passing (λ j. is_palette (body_at (block_at l.page j))) l.from l.to l.k
