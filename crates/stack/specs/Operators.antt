-- FORMAT.md, Programs, Meaning; clause 7.10.5.2, with numbers in millionths: what each operator does on a stack of
-- values, and on the stack of their kinds.
use Rattle.std.specs.Prelude.{ℕ, Bool, false, cond, not, ◌&&◌, ◌||◌, List, ℤ, pos, negsuc, neg_ℤ, ◌+ℤ◌, ◌-ℤ◌, ◌*ℤ◌, drop}
use Rattle.std.specs.Int.Signed.{lt_z, le_z}
use Rattle.fixed.specs.Numbers.{limited, half_up}
use Rattle.fixed.specs.Values.{value, small_of}
use Rattle.stack.specs.Stack.{pushed, unary, binary, copied, rolled, turns, truth, same_z}
use Rattle.stack.specs.Programs.{Sum, add, sub, mul, Test, equal, unequal, above, at_least, below, at_most, Join, both, any, Two, sum, test, join, One, neg, abs, nay, Op, number, copy, index, roll, two, one, constant, pop, exch, dup}

-- the nearest that fits 32 bits
unfoldable pub fitted : ℤ → ℤ
fitted z = limited (negsuc 2147483647) (pos 2147483647) z

-- p or -p
abbrev pub signed_by : Bool → ℕ → ℤ
signed_by minus p = cond minus (neg_ℤ (pos p)) (pos p)

-- add, sub, mul: a product is rounded half up once
unfoldable pub sum_of : Sum → ℤ → ℤ → ℤ
sum_of add x y = fitted (x +ℤ y)
sum_of sub x y = fitted (x -ℤ y)
sum_of mul x y = fitted (half_up (x *ℤ y) 1000000)

-- a truth value is true where it is above 0
abbrev pub is_true : ℤ → Bool
is_true x = lt_z (pos 0) x

-- eq ne gt ge lt le
abbrev pub test_of : Test → ℤ → ℤ → Bool
test_of equal x y = same_z x y
test_of unequal x y = not (same_z x y)
test_of above x y = lt_z y x
test_of at_least x y = le_z y x
test_of below x y = lt_z x y
test_of at_most x y = le_z x y

-- and, or
abbrev pub join_of : Join → ℤ → ℤ → Bool
join_of both x y = is_true x && is_true y
join_of any x y = is_true x || is_true y

-- an operator of two operands
unfoldable pub two_of : Two → ℤ → ℤ → ℤ
two_of (sum o) x y = sum_of o x y
two_of (test o) x y = truth (test_of o x y)
two_of (join o) x y = truth (join_of o x y)

-- neg, abs, not
unfoldable pub one_of : One → ℤ → ℤ
one_of neg x = fitted (neg_ℤ x)
one_of abs x = cond (lt_z x (pos 0)) (fitted (neg_ℤ x)) x
one_of nay x = truth (not (is_true x))

-- ---- kinds: 0 a number's, 1 a truth value's

-- what both operands must be
abbrev pub takes : Two → ℤ
takes (sum o) = pos 0
takes (test o) = pos 0
takes (join o) = pos 1

-- what the result is
abbrev pub gives : Two → ℤ
gives (sum o) = pos 0
gives (test o) = pos 1
gives (join o) = pos 1

-- what the one operand must be, and what the result is
abbrev pub one_kind : One → ℤ
one_kind neg = pos 0
one_kind abs = pos 0
one_kind nay = pos 1

-- ---- one operator on a stack of values (k false) or of their kinds (k true): what moves values moves their kinds alike

-- a number, or its kind
abbrev pub number_in : Bool → ℤ → ℤ
number_in k z = cond k (pos 0) z

-- a truth value, or its kind
abbrev pub truth_in : Bool → Bool → ℤ
truth_in k b = cond k (pos 1) (truth b)

-- a result of two operands, or its kind
abbrev pub two_in : Bool → Two → ℤ → ℤ → ℤ
two_in k t x y = cond k (gives t) (two_of t x y)

-- a result of one operand, or its kind
abbrev pub one_in : Bool → One → ℤ → ℤ
one_in k o x = cond k (one_kind o) (one_of o x)

-- the stack after the operator: exch is 2 1 roll, and dup is 0 index
unfoldable pub acted : Bool → Op → List ℤ → List ℤ
acted k (number z) s = pushed (number_in k z) s
acted k (copy n) s = copied (small_of n) s
acted k (index n) s = pushed (value s (small_of n)) s
acted k (roll n j) s = rolled (small_of n) (turns j (small_of n)) s
acted k (two t) s = binary (two_in k t) s
acted k (one o) s = unary (one_in k o) s
acted k (constant b) s = pushed (truth_in k b) s
acted k pop s = drop 1 s
acted k exch s = rolled 2 1 s
acted k dup s = pushed (value s 0) s

-- the values after it
abbrev pub applied : Op → List ℤ → List ℤ
applied o s = acted false o s
