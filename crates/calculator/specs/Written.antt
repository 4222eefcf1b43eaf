-- How a program is written as a text, one way of the many that a reader takes: a space after each token, four digits before a number's point and six after it.
use Rattle.std.specs.Prelude.{ℕ, zero, suc, ◌+◌, ◌/◌, ◌%◌, ◌≤◌, true, false, List, [], ◌∷◌, ◌++◌, ℤ, pos, negsuc}
use Rattle.stack.specs.Programs.{add, sub, mul, equal, unequal, above, at_least, below, at_most, both, any, Two, sum, test, join, One, neg, abs, nay, Op, number, copy, index, roll, two, one, constant, pop, exch, dup, Code, done, act, when, either}
use Rattle.symbols.specs.Tokens.{Token, opens, closes, if_t, ifelse_t, copy_t, index_t, roll_t, num_t, op_t, other, bytes}
use Rattle.program.specs.Parse.{millions}
use Rattle.program.specs.Spelling.{written}

-- the last k decimal digits of n
unfoldable pub digits : ℕ → ℕ → List ℕ
digits zero n = []
digits (suc k) n = digits k (n / 10) ++ ((48 + n % 10) ∷ [])

-- n millionths: digits, a point, digits
abbrev pub figures : ℕ → List ℕ
figures n = digits 4 (n / 1000000) ++ (46 ∷ digits 6 n)

-- a number in millionths, with - where it is below 0
abbrev pub number_text : ℤ → List ℕ
number_text (pos n) = figures n
number_text (negsuc n) = 45 ∷ figures (suc n)

-- the names of the operators
abbrev pub two_name : Two → List ℕ
two_name (sum add) = bytes "add"
two_name (sum sub) = bytes "sub"
two_name (sum mul) = bytes "mul"
two_name (test equal) = bytes "eq"
two_name (test unequal) = bytes "ne"
two_name (test above) = bytes "gt"
two_name (test at_least) = bytes "ge"
two_name (test below) = bytes "lt"
two_name (test at_most) = bytes "le"
two_name (join both) = bytes "and"
two_name (join any) = bytes "or"

abbrev pub one_name : One → List ℕ
one_name neg = bytes "neg"
one_name abs = bytes "abs"
one_name nay = bytes "not"

-- numbers, copy, index and roll are tokens of their own
abbrev pub op_name : Op → List ℕ
op_name (number z) = []
op_name (copy n) = []
op_name (index n) = []
op_name (roll n j) = []
op_name (two t) = two_name t
op_name (one o) = one_name o
op_name (constant true) = bytes "true"
op_name (constant false) = bytes "false"
op_name pop = bytes "pop"
op_name exch = bytes "exch"
op_name dup = bytes "dup"

-- the bytes of a token
abbrev pub token_text : Token → List ℕ
token_text opens = bytes "{"
token_text closes = bytes "}"
token_text if_t = bytes "if"
token_text ifelse_t = bytes "ifelse"
token_text copy_t = bytes "copy"
token_text index_t = bytes "index"
token_text roll_t = bytes "roll"
token_text (num_t z) = number_text z
token_text (op_t o) = op_name o
token_text other = []

-- each token and a space
unfoldable pub spaced : List Token → List ℕ
spaced [] = []
spaced (t ∷ ts) = token_text t ++ (32 ∷ spaced ts)

-- the text of a program
abbrev pub program_text : Code → List ℕ
program_text c = spaced (written millions c)

-- a number of 32 bits
abbrev pub Narrow : ℤ → Type 0
Narrow (pos n) = n ≤ 2147483647
Narrow (negsuc n) = n ≤ 2147483647

-- the numbers of an operator can be written: they, and counts in millionths, have 32 bits
abbrev pub Writable : Op → Type 0
Writable (number z) = Narrow z
Writable (copy n) = Narrow (millions n)
Writable (index n) = Narrow (millions n)
Writable (roll n j) = Narrow (millions n) × Narrow (millions j)
Writable (two t) = Unit {0}
Writable (one o) = Unit {0}
Writable (constant b) = Unit {0}
Writable pop = Unit {0}
Writable exch = Unit {0}
Writable dup = Unit {0}

-- and those of all its operators
unfoldable pub Carried : Code → Type 0
Carried done = Unit {0}
Carried (act o c) = Writable o × Carried c
Carried (when b c) = Carried b × Carried c
Carried (either a b c) = Carried a × (Carried b × Carried c)
