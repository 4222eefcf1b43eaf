-- Worked by computation: { dup 0.5 lt { pop 0 } { dup pop } ifelse } as a tree, as words, run and judged; rolls, roundings and counts.
use mathlib.Core.Path.{◌≡◌, refl}
use mathlib.Core.List.{List, [], ◌∷◌}
use lib.IntN.{ℤ, pos, negsuc}
use lib.ListN.{length}
use Rattle.stack.specs.Stack.{pushed, binary, rolled, same_kinds}
use Rattle.stack.specs.Programs.{number, two, test, below, mul, sub, abs, pop, dup, roll, Code, done, act, either}
use Rattle.stack.specs.Operators.{acted, applied, two_of, sum_of, one_of, fitted}
use Rattle.stack.specs.Meaning.{ran}
use Rattle.stack.specs.Judging.{typed, tested, fine, Judged, fits, wrong}
use Rattle.stack.specs.Flat.{flat, item_by, code_of, op_by, plain_by, two_by, goes, runs}
use Rattle.form.specs.Paths.{met, at, comes, checks}
use Rattle.form.proofs.Places.{unmets}
use Rattle.fixed.specs.Numbers.{limited}

abbrev half : Code
half = act dup (act (number (pos 500000)) (act (two (test below)) (either (act pop (act (number (pos 0)) done)) (act dup (act pop done)) done)))

abbrev words : List ℤ
words = pos 25 ∷ pos 1 ∷ pos 500000 ∷ pos 14 ∷ pos 5 ∷ pos 5 ∷ pos 23 ∷ pos 1 ∷ pos 0 ∷ pos 6 ∷ pos 2 ∷ pos 25 ∷ pos 23 ∷ []

is-flat : flat half ≡ words
unfolding flat
is-flat = refl

low : runs words (pos 300000 ∷ []) ≡ pos 0 ∷ []
unfolding goes item_by code_of op_by plain_by two_by acted two_of pushed binary
low = refl

high : ran half (pos 700000 ∷ []) ≡ pos 700000 ∷ []
unfolding ran acted two_of pushed binary
high = refl

abbrev judges : List ℤ → Judged
judges ws = checks ws 0 (at (met (pos 0 ∷ []) ∷ unmets (length ws) []))

right : judges words ≡ fits (pos 0 ∷ [])
unfolding checks comes item_by code_of op_by plain_by two_by typed fine tested acted pushed binary same_kinds unmets
right = refl

-- one word further the jump goes into the middle of nothing: the kinds still agree; into `1 0` it does not
middle : judges (pos 25 ∷ pos 1 ∷ pos 500000 ∷ pos 14 ∷ pos 5 ∷ pos 2 ∷ pos 23 ∷ pos 1 ∷ pos 0 ∷ []) ≡ wrong
unfolding checks comes item_by code_of op_by plain_by two_by typed fine tested acted pushed binary same_kinds unmets
middle = refl

-- words that no path comes to
dead : judges (pos 6 ∷ pos 1 ∷ pos 25 ∷ []) ≡ wrong
unfolding checks comes item_by code_of op_by plain_by two_by typed fine tested acted pushed binary same_kinds unmets
dead = refl

-- 3 1 roll of a b c (c on top) is c a b; 3 -1 roll is b c a; 0 5 roll nothing
rolls : applied (roll (pos 3) (pos 1)) (pos 3 ∷ pos 2 ∷ pos 1 ∷ []) ≡ pos 2 ∷ pos 1 ∷ pos 3 ∷ []
unfolding acted rolled
rolls = refl

rolls-back : applied (roll (pos 3) (negsuc 0)) (pos 3 ∷ pos 2 ∷ pos 1 ∷ []) ≡ pos 1 ∷ pos 3 ∷ pos 2 ∷ []
unfolding acted rolled
rolls-back = refl

rolls-none : applied (roll (pos 0) (pos 5)) (pos 3 ∷ pos 2 ∷ []) ≡ pos 3 ∷ pos 2 ∷ []
unfolding acted rolled
rolls-none = refl

-- -0.000001 x 0.5 is -0.0000005, which rounds half up to 0; 2147 x 2 goes to the nearest that fits
halves : sum_of mul (negsuc 0) (pos 500000) ≡ pos 0
unfolding sum_of fitted limited
halves = refl

most : sum_of mul (pos 2147000000) (pos 2000000) ≡ pos 2147483647
unfolding sum_of fitted limited
most = refl

least : sum_of sub (negsuc 2147483647) (pos 1) ≡ negsuc 2147483647
unfolding sum_of fitted limited
least = refl

abs-least : one_of abs (negsuc 2147483647) ≡ pos 2147483647
unfolding one_of fitted limited
abs-least = refl
