-- The recipe's flat form of a program: words with forward jumps. A word for an operator, true or false; two for a number, copy, index or a jump; three for
-- roll. docs/RECIPES.md lists the codes.
use Rattle.std.specs.Prelude.{ℕ, zero, suc, ◌+◌, ◌-◌, Bool, true, false, cond, List, [], ◌∷◌, ◌++◌, ℤ, pos, ltb, eqb, length, drop}
use Rattle.fixed.specs.Values.{value, small_of}
use Rattle.stack.specs.Programs.{Sum, add, sub, mul, Test, equal, unequal, above, at_least, below, at_most, Join, both, any, Two, sum, test, join, One, neg, abs, nay, Op, number, copy, index, roll, two, one, constant, pop, exch, dup, Code, done, act, when, either}
use Rattle.stack.specs.Operators.{applied}
use Rattle.stack.specs.Meaning.{holds}

-- add 7, sub 8, mul 9, eq 10, ne 11, gt 12, ge 13, lt 14, le 15, and 16, or 17
abbrev pub two_word : Two → ℕ
two_word (sum add) = 7
two_word (sum sub) = 8
two_word (sum mul) = 9
two_word (test equal) = 10
two_word (test unequal) = 11
two_word (test above) = 12
two_word (test at_least) = 13
two_word (test below) = 14
two_word (test at_most) = 15
two_word (join both) = 16
two_word (join any) = 17

-- neg 18, abs 19, not 20
abbrev pub one_word : One → ℕ
one_word neg = 18
one_word abs = 19
one_word nay = 20

-- number 1, copy 2, index 3, roll 4, true 21, false 22, pop 23, exch 24, dup 25
abbrev pub word_of : Op → ℕ
word_of (number z) = 1
word_of (copy n) = 2
word_of (index n) = 3
word_of (roll n j) = 4
word_of (two t) = two_word t
word_of (one o) = one_word o
word_of (constant true) = 21
word_of (constant false) = 22
word_of pop = 23
word_of exch = 24
word_of dup = 25

-- the words after it: a number, or the counts
abbrev pub counts_of : Op → List ℤ
counts_of (number z) = z ∷ []
counts_of (copy n) = n ∷ []
counts_of (index n) = n ∷ []
counts_of (roll n j) = n ∷ j ∷ []
counts_of (two t) = []
counts_of (one o) = []
counts_of (constant b) = []
counts_of pop = []
counts_of exch = []
counts_of dup = []

-- the words of an operator
abbrev pub words_of : Op → List ℤ
words_of o = pos (word_of o) ∷ counts_of o

-- { x } if: 5 k passes k words over where the top, which it takes off, is false; k is counted past its own two words
abbrev pub when_words : List ℤ → List ℤ
when_words x = pos 5 ∷ pos (length x) ∷ x

-- { x } { y } ifelse: 6 k passes k words over
abbrev pub either_words : List ℤ → List ℤ → List ℤ
either_words x y = pos 5 ∷ pos (length x + 2) ∷ (x ++ (pos 6 ∷ pos (length y) ∷ y))

-- the flat form of a program
unfoldable pub flat : Code → List ℤ
flat done = []
flat (act o c) = words_of o ++ flat c
flat (when b c) = when_words (flat b) ++ flat c
flat (either a b c) = either_words (flat a) (flat b) ++ flat c

-- an item of the flat form: an operator and how many words follow its own; a jump of so many words past its own two, unless the top is true or always;
-- or none
pub data Item : Type 0 where
  op : Op → ℕ → Item
  unless : ℕ → Item
  jump : ℕ → Item
  none : Item

-- ---- reading: the operator of a word w and the two words after it

-- 7 to 9
abbrev pub sum_by : ℕ → Sum
sum_by w = cond (eqb w 7) add (cond (eqb w 8) sub mul)

-- 10 to 15
abbrev pub test_by : ℕ → Test
test_by w = cond (eqb w 10) equal (cond (eqb w 11) unequal (cond (eqb w 12) above (cond (eqb w 13) at_least (cond (eqb w 14) below at_most))))

-- 16 and 17
abbrev pub join_by : ℕ → Join
join_by w = cond (eqb w 16) both any

-- 7 to 17
unfoldable pub two_by : ℕ → Two
two_by w = cond (ltb w 10) (sum (sum_by w)) (cond (ltb w 16) (test (test_by w)) (join (join_by w)))

-- 18 to 20
unfoldable pub one_by : ℕ → One
one_by w = cond (eqb w 18) neg (cond (eqb w 19) abs nay)

-- 7 to 25, the operators of one word
unfoldable pub plain_by : ℕ → Op
plain_by w =
    cond (ltb w 18) (two (two_by w))
    (cond (ltb w 21) (one (one_by w)) (cond (ltb w 23) (constant (eqb w 21)) (cond (eqb w 23) pop (cond (eqb w 24) exch dup))))

-- any operator
unfoldable pub op_by : ℕ → ℤ → ℤ → Op
op_by w x y = cond (eqb w 1) (number x) (cond (eqb w 2) (copy x) (cond (eqb w 3) (index x) (cond (eqb w 4) (roll x y) (plain_by w))))

-- how many words an item has
abbrev pub size_of : ℕ → ℕ
size_of w = cond (eqb w 4) 3 (cond (ltb w 7) 2 1)

-- the first word, 0 where it begins no item
unfoldable pub code_of : List ℤ → ℕ
code_of l = cond (ltb 25 (small_of (value l 0))) 0 (cond (ltb (length l) (size_of (small_of (value l 0)))) 0 (small_of (value l 0)))

-- the item of a word and the two words after it
unfoldable pub item_by : ℕ → ℤ → ℤ → Item
item_by w x y =
    cond (eqb w 0) none (cond (eqb w 5) (unless (small_of x)) (cond (eqb w 6) (jump (small_of x)) (op (op_by w x y) (size_of w - 1))))

-- the item at the front of a list of words
abbrev pub item_of : List ℤ → Item
item_of l = item_by (code_of l) (value l 1) (value l 2)

-- the stack after the words, of which k are passed over first
unfoldable pub goes : List ℤ → ℕ → List ℤ → List ℤ
goes [] k s = s
goes (w ∷ ws) (suc k) s = goes ws k s
goes (w ∷ ws) zero s =
    elim (item_of (w ∷ ws)) [
      | op o n ↦ goes ws n (applied o s)
      | unless k ↦ goes ws (cond (holds s) 1 (1 + k)) (drop 1 s)
      | jump k ↦ goes ws (1 + k) s
      | none ↦ s
    ]

-- the stack after the words
abbrev pub runs : List ℤ → List ℤ → List ℤ
runs l s = goes l 0 s

-- how many words on the next item stands, where the top is true or not: 0 where there is no item
abbrev pub move_of : Item → Bool → ℕ
move_of (op o n) t = suc n
move_of (unless k) t = suc (cond t 1 (1 + k))
move_of (jump k) t = suc (1 + k)
move_of none t = 0

-- the stack after an item
abbrev pub after_item : Item → List ℤ → List ℤ
after_item (op o n) s = applied o s
after_item (unless k) s = drop 1 s
after_item (jump k) s = s
after_item none s = s
