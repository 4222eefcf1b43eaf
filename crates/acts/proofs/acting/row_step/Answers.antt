-- The row is looked up: value 0 picks it, and its first entry stands after three words and the rows before it.
use mathlib.Core.Path.{◌≡◌, ◌∙◌}
use Prim.Native.Nat.{◌*◌, ◌≤◌}
use native.Mathlib.Omega.{arith}
use mir.Syntax.{w32}
use mir.Val.{to_z, of_z}
use Rattle.fixed.specs.Values.{places, value}
use borrow.Author.Rules.{rules}
use Rattle.fixed.proofs.Listed.{index-le}
use Rattle.fixed.proofs.Steps.{row_made}
use Rattle.acts.proofs.Acts.{row-start, row-picked}
use Rattle.acts.proofs.acting.row_step.Goals as goal
use Rattle.acts.proofs.acting.row_step.Goals.{After-index_of-index}

-- the entries of the rows before the one that is picked
before-row : (c : After-index_of-index) → c.index_of-index.result.row * c.args.m ≤ 255 * places
before-row c =
    let a = c.args in
    let i = c.index_of-index in
    row-start i.result.row a.m a.h (index-le i.result.row a.h (to_z w32 (of_z w32 (value a.c.values 0))) i.ensures.0) c.requires.0 c.requires.1

pub overflow_mul-at : goal.overflow_mul-at
overflow_mul-at c = omega (arith, before-row c.before)

pub overflow_add-at : goal.overflow_add-at
overflow_add-at c = omega (arith, before-row c.before)

pub fill_row-requires : goal.fill_row-requires
fill_row-requires c = (omega (arith, before-row c.before.before), c.requires.0)

pub returns : goal.returns
returns c =
    let a = c.args in
    let i = c.index_of-index in
    let x : to_z w32 (of_z w32 (value a.c.values 0)) ≡ value a.c.values 0 = search rules in
    row_made a.c a.m a.h _ _ (c.fill_row.ensures ∙ row-picked a.l.now a.c.values a.m a.h i.result.row _ i.ensures.0 x) i.ensures.1 x
