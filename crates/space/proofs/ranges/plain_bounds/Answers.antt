-- A Lab's by its record, and 0 to 1 for all others.
use mathlib.Core.Path.{◌≡◌, sym, ◌∙◌}
use mir.Syntax.{w32}
use mir.Val.{to_z, of_z}
use lib.IntN.{pos}
use lib.ListN.{set, replicate}
use borrow.Author.Rules.{rules}
use Rattle.fixed.specs.Values.{places}
use Rattle.space.proofs.Ends.{lab-ends, unit_ends}
use Rattle.space.proofs.ranges.plain_bounds.Goals as goal

pub returns-then-is_lab : goal.returns-then-is_lab
returns-then-is_lab c =
    let q = c.args.q in
    let amin : to_z w32 (of_z w32 q.amin) ≡ q.amin = search rules in
    let amax : to_z w32 (of_z w32 q.amax) ≡ q.amax = search rules in
    let bmin : to_z w32 (of_z w32 q.bmin) ≡ q.bmin = search rules in
    let bmax : to_z w32 (of_z w32 q.bmax) ≡ q.bmax = search rules in
    let e = lab-ends q c.args.c (sym c.is_lab.ensures ∙ c.if-is_lab.true) in
    record {
      low = c.ends_of.ensures ∙ ((λ i. set (set (replicate places (bmin i)) 0 (pos 0)) 1 (amin i)) ∙ e.0);
      high = c.ends_of-then-is_lab.ensures ∙ ((λ i. set (set (replicate places (bmax i)) 0 (pos 100000000)) 1 (amax i)) ∙ e.1);
    }

pub returns : goal.returns
returns c =
    let e = unit_ends c.args.q c.args.c (sym c.is_lab.ensures ∙ c.if-is_lab.false) in
    record { low = c.unit_bounds.ensures.lows ∙ e.0; high = c.unit_bounds.ensures.highs ∙ e.1 }
