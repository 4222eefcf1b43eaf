-- A turn stores the block of the next part: `run-turn` of Runs.
use mathlib.Core.Path.{ap, ◌∙◌}
use native.Mathlib.Omega.{arith}
use Prim.Native.Nat.{◌*◌, ◌+◌}
use Rattle.reader.specs.Spaces.{palette_of}
use Rattle.tokens.proofs.Runs.{run-turn, run-start, drop_least}
use Rattle.tokens.proofs.making.put_run.Goals as goal

pub loop-j-init : goal.loop-j-init
loop-j-init c = run-start c.args.blocks.now c.args.palette.now c.args.own

pub loop-j-preserved : goal.loop-j-preserved
loop-j-preserved c =
    let p = c.args.palette.now in
    let j = c.loop-j.j in
    run-turn c.args.blocks.now p c.args.own j (omega arith) c.loop-j.invariant
    (c.palette_of.ensures ∙ ap (palette_of (c.args.own + j)) (drop_least p (504 * j) c.min.result c.min.ensures)) c.put_block.ensures
