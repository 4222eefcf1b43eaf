-- The operators and items of the code, as those of the definitions.
use Rattle.std.specs.Prelude.{length}
use Rattle.fixed.specs.Values.{small_of}
use Rattle.stack.specs.Programs.{Sum, add, sub, mul, Test, equal, unequal, above, at_least, below, at_most, Join, both, any, Two, sum, test, join, One, neg, abs, nay, Op, number, copy, index, roll, two, one, constant, pop, exch, dup}
use Rattle.stack.specs.Flat.{counts_of, Item, op, unless, jump}
use Rattle.stack.specs.declared.operators.Sum as S
use Rattle.stack.specs.declared.operators.Sum.TheVariants as SV
use Rattle.stack.specs.declared.operators.Test as T
use Rattle.stack.specs.declared.operators.Test.TheVariants as TV
use Rattle.stack.specs.declared.operators.Join as J
use Rattle.stack.specs.declared.operators.Join.TheVariants as JV
use Rattle.stack.specs.declared.operators.Two as W
use Rattle.stack.specs.declared.operators.Two.TheVariants as WV
use Rattle.stack.specs.declared.operators.One as N
use Rattle.stack.specs.declared.operators.One.TheVariants as NV
use Rattle.stack.specs.declared.operators.Op as O
use Rattle.stack.specs.declared.operators.Op.TheVariants as OV
use Rattle.stack.specs.declared.items.Item as I
use Rattle.stack.specs.declared.items.Item.TheVariants as IV

abbrev pub sum_meant : S.Sum → Sum
sum_meant SV.Add = add
sum_meant SV.Sub = sub
sum_meant SV.Mul = mul

abbrev pub test_meant : T.Test → Test
test_meant TV.Eq = equal
test_meant TV.Ne = unequal
test_meant TV.Gt = above
test_meant TV.Ge = at_least
test_meant TV.Lt = below
test_meant TV.Le = at_most

abbrev pub join_meant : J.Join → Join
join_meant JV.And = both
join_meant JV.Or = any

abbrev pub two_meant : W.Two → Two
two_meant (WV.Sum o) = sum (sum_meant o)
two_meant (WV.Test o) = test (test_meant o)
two_meant (WV.Join o) = join (join_meant o)

abbrev pub one_meant : N.One → One
one_meant NV.Neg = neg
one_meant NV.Abs = abs
one_meant NV.Not = nay

abbrev pub op_meant : O.Op → Op
op_meant (OV.Number x) = number x
op_meant (OV.Copy n) = copy n
op_meant (OV.Index n) = index n
op_meant (OV.Roll n j) = roll n j
op_meant (OV.Two t) = two (two_meant t)
op_meant (OV.One o) = one (one_meant o)
op_meant (OV.Constant b) = constant b
op_meant OV.Pop = pop
op_meant OV.Exch = exch
op_meant OV.Dup = dup

abbrev pub item_meant : I.Item → Item
item_meant (IV.Op o) = op (op_meant o) (length (counts_of (op_meant o)))
item_meant (IV.Unless n) = unless (small_of n)
item_meant (IV.Jump n) = jump (small_of n)
