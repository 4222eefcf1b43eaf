-- FORMAT.md, Programs, Meaning; clause 7.10.5.2: the operand stack of a calculator program, as a list with the top
-- first. A number is its count of millionths, a truth value is 1 or 0. Beside the stack of values judging has the stack
-- of their kinds: that of a number is 0, that of a truth value 1.
use Rattle.std.specs.Prelude.{ℕ, ◌+◌, ◌-◌, ◌%◌, Bool, true, false, cond, ◌&&◌, List, [], ◌∷◌, ◌++◌, ℤ, pos, negsuc, ltb, leb, length, take, drop}
use Rattle.std.specs.Int.Signed.{le_z}
use Rattle.fixed.specs.Values.{value}

-- the most that a stack holds
abbrev pub most : ℕ
most = 100

-- x on top; past the most nothing is pushed, which no accepted program tries
unfoldable pub pushed : ℤ → List ℤ → List ℤ
pushed x s = cond (ltb (length s) most) (x ∷ s) s

-- f of the top, in its place
unfoldable pub unary : (ℤ → ℤ) → List ℤ → List ℤ
unary f s = pushed (f (value s 0)) (drop 1 s)

-- f of two operands, the second on top, in their place
unfoldable pub binary : (ℤ → ℤ → ℤ) → List ℤ → List ℤ
binary f s = pushed (f (value s 1) (value s 0)) (drop 2 s)

-- the top n, once more
unfoldable pub copied : ℕ → List ℤ → List ℤ
copied n s = cond (leb n (length s)) (cond (leb (length s + n) most) (take n s ++ s) s) s

-- of the top n, the top k go below the n - k under them
unfoldable pub rolled : ℕ → ℕ → List ℤ → List ℤ
rolled n k s = cond (leb n (length s)) (drop k (take n s) ++ (take k (take n s) ++ drop n s)) s

-- how many of n go below the others in a roll by j: j modulo n, 0..n-1, for a negative j too
abbrev pub turns : ℤ → ℕ → ℕ
turns (pos j) n = j % n
turns (negsuc j) n = (n - 1) - j % n

-- a truth value as it stands on the stack
abbrev pub truth : Bool → ℤ
truth true = pos 1
truth false = pos 0

-- two numbers are equal
abbrev pub same_z : ℤ → ℤ → Bool
same_z x y = le_z x y && le_z y x

-- two stacks have the same height, and the same on each place
unfoldable pub same_kinds : List ℤ → List ℤ → Bool
same_kinds [] [] = true
same_kinds [] (y ∷ ys) = false
same_kinds (x ∷ xs) [] = false
same_kinds (x ∷ xs) (y ∷ ys) = same_z x y && same_kinds xs ys
