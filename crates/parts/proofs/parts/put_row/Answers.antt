-- 2 m h, and the entries of the table; the place after them.
use mathlib.Core.Path.{◌≡◌}
use native.Mathlib.Omega.{arith}
use Prim.Native.Nat.{◌≤◌}
use lib.ListN.{length}
use Rattle.fixed.proofs.Signs.{signed_is}
use Rattle.space.specs.Levels.{space_in}
use Rattle.space.proofs.Counts.{few-entries}
use Rattle.parts.proofs.Words.{row_fits, row-set, row-none}
use borrow.Author.Rules.{rules}
use Rattle.parts.proofs.parts.put_row.Goals as goal

pub put-requires : goal.put-requires
put-requires c =
    let r = row_fits _ _ c.args.hival c.count-m.result (space_in c.args.page.now c.args.s) (c.count-m.ensures.is _) _ c.args.words.now c.requires in omega arith

pub returns-then-m-eq0 : goal.returns-then-m-eq0
returns-then-m-eq0 c =
    record { stores = (row-none c.args.page.now c.args.n c.args.hival c.count-m.result (space_in c.args.page.now c.args.s) (c.count-m.ensures.is _) _ _ _ _ _ (signed_is _ c.word_of.type_inv c.word_of.ensures) (signed_is _ c.word_of-2.type_inv c.word_of-2.ensures) c.put.ensures c.if-m-eq0.true).0; next = (row-none c.args.page.now c.args.n c.args.hival c.count-m.result (space_in c.args.page.now c.args.s) (c.count-m.ensures.is _) _ _ _ _ _ (signed_is _ c.word_of.type_inv c.word_of.ensures) (signed_is _ c.word_of-2.type_inv c.word_of-2.ensures) c.put.ensures c.if-m-eq0.true).1 }

pub overflow_mul-size : goal.overflow_mul-size
overflow_mul-size c =
    omega (arith, few-entries c.count-m.result c.args.hival c.count-m.ensures.small (search rules))

pub put_rows-requires : goal.put_rows-requires
put_rows-requires c =
    let r = row_fits _ _ c.args.hival c.count-m.result (space_in c.args.page.now c.args.s) (c.count-m.ensures.is _) _ c.args.words.now c.requires in
    let e : length c.put.new.words ≡ length c.args.words.now = c.put.auto.words in
    let some : 1 ≤ c.count-m.result = omega (arith, c.if-m-eq0.false) in
    (omega (arith, few-entries c.count-m.result c.args.hival c.count-m.ensures.small (search rules)), omega arith, some, c.count-m.ensures.small)

pub overflow_cast-result : goal.overflow_cast-result
overflow_cast-result c =
    omega (arith, few-entries c.count-m.result c.args.hival c.count-m.ensures.small (search rules))

pub overflow_add-result-3 : goal.overflow_add-result-3
overflow_add-result-3 c =
    omega (arith, few-entries c.count-m.result c.args.hival c.count-m.ensures.small (search rules))

pub returns : goal.returns
returns c =
    let a = c.args in
    let s = space_in a.page.now a.s in
    let count = c.count-m.ensures.is a.page.now in
    let e = row-set a.page.now a.n a.hival c.count-m.result s count _ _ _ _ _ (signed_is _ c.word_of.type_inv c.word_of.ensures) (signed_is _ c.word_of-2.type_inv c.word_of-2.ensures) c.put.ensures _
    (c.put_rows.ensures s (record { count = count; ends = c.bounds_of.ensures _ })) in
    record { stores = e.0; next = e.1 }
