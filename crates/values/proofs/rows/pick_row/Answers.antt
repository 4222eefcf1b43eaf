-- The row that value 0 picks, as a row of the table; the flag by the rounded index.
use mathlib.Core.Path.{◌≡◌, ◌∙◌}
use mir.Syntax.{w32}
use mir.Val.{to_z, of_z}
use Rattle.fixed.specs.Values.{value}
use Rattle.fixed.proofs.Listed.{index-le}
use Rattle.fixed.proofs.Steps.{row_made}
use Rattle.space.specs.Levels.{space_in}
use Rattle.values.proofs.Steps.{few-rows, row-picked}
use borrow.Author.Rules.{rules}
use Rattle.values.proofs.rows.pick_row.Goals as goal

-- the picked row lies in the table
pub row_of-requires : goal.row_of-requires
row_of-requires c = (few-rows c.index_of-index.result.row c.count.result c.args.hival (index-le _ _ (to_z w32 (of_z w32 (value c.args.c.values 0))) c.index_of-index.ensures.0) c.count.ensures.small (search rules), c.count.ensures.small)

pub returns : goal.returns
returns c =
    let s = space_in c.args.page.now c.args.s in
    let x : to_z w32 (of_z w32 (value c.args.c.values 0)) ≡ value c.args.c.values 0 = search rules in
    row_made c.args.c _ _ _ _
    (c.row_of.ensures s (record { count = c.count.ensures.is _; ends = c.bounds_of.ensures _ }) ∙
    row-picked _ _ _ s c.args.c.values c.count.result _ (to_z w32 (of_z w32 (value c.args.c.values 0))) (c.count.ensures.is _) x c.index_of-index.ensures.0)
    c.index_of-index.ensures.1 x
