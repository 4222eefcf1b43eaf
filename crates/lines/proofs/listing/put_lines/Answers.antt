use mathlib.Core.Path.{◌≡◌, ap, ◌∙◌}
use native.Mathlib.Omega.{arith}
use lib.ListN.{length}
use lib.Seq.{length-sets}
use Rattle.lines.specs.Listing.{lines_of}
use Rattle.digits.proofs.Putting.{nothing}
use Rattle.lines.proofs.Lines.{next-line}
use Rattle.lines.proofs.listing.put_lines.Goals as goal

pub loop-i-init : goal.loop-i-init
unfolding lines_of
loop-i-init c = nothing _ _

pub loop-i-preserved : goal.loop-i-preserved
loop-i-preserved c = next-line _ _ c.loop-i.invariant c.put_block-next.ensures

pub shape_of-out : goal.shape_of-out
shape_of-out c = ap length c.loop-i.invariant.stored ∙ simp length-sets

pub returns : goal.returns
returns c = let e : c.loop-i.i ≡ c.args.n = omega arith in rw (← e) c.loop-i.invariant
