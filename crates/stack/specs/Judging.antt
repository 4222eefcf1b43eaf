-- FORMAT.md, Programs, What is refused: judging fixes the height and the kinds of the stack at every point of a
-- program, taken or not, and both branches end alike.
use Rattle.std.specs.Prelude.{ℕ, ◌+◌, Bool, true, false, cond, ◌&&◌, List, ℤ, pos, leb, length, drop}
use Rattle.fixed.specs.Values.{value, small_of}
use Rattle.stack.specs.Stack.{most, same_z, same_kinds}
use Rattle.stack.specs.Programs.{Op, number, copy, index, roll, two, one, constant, pop, exch, dup, Code, done, act, when, either}
use Rattle.stack.specs.Operators.{takes, one_kind, acted}
use Rattle.stack.specs.Meaning.{holds}

-- the kinds that are left, the top first; or that something is wrong
pub data Judged : Type 0 where
  fits : List ℤ → Judged
  wrong : Judged

-- how high the stack must be; a count below 0 is past every stack
abbrev pub wants : Op → ℕ
wants (number z) = 0
wants (copy n) = small_of n
wants (index n) = small_of n + 1
wants (roll n j) = small_of n
wants (two t) = 2
wants (one o) = 1
wants (constant b) = 0
wants pop = 1
wants exch = 2
wants dup = 1

-- how much higher it gets at most
abbrev pub grows : Op → ℕ
grows (number z) = 1
grows (copy n) = small_of n
grows (index n) = 1
grows (roll n j) = 0
grows (two t) = 0
grows (one o) = 0
grows (constant b) = 1
grows pop = 0
grows exch = 0
grows dup = 1

-- the operands are of the kinds that the operator takes
abbrev pub kindly : Op → List ℤ → Bool
kindly (number z) ks = true
kindly (copy n) ks = true
kindly (index n) ks = true
kindly (roll n j) ks = true
kindly (two t) ks = same_z (value ks 0) (takes t) && same_z (value ks 1) (takes t)
kindly (one o) ks = same_z (value ks 0) (one_kind o)
kindly (constant b) ks = true
kindly pop ks = true
kindly exch ks = true
kindly dup ks = true

-- the operator can act: the stack is neither too low nor too high for it, and the kinds are right
unfoldable pub fine : Op → List ℤ → Bool
fine o ks = leb (wants o) (length ks) && (leb (length ks + grows o) most && kindly o ks)

-- the kinds after an operator
unfoldable pub typed : Op → List ℤ → Judged
typed o ks = cond (fine o ks) (fits (acted true o ks)) wrong

-- then, where the first fits
abbrev pub then_j : Judged → (List ℤ → Judged) → Judged
then_j (fits ks) f = f ks
then_j wrong f = wrong

-- both end alike
abbrev pub alike : List ℤ → List ℤ → Judged
alike xs ys = cond (same_kinds xs ys) (fits xs) wrong

-- a truth value is on top
abbrev pub tests : List ℤ → Bool
tests ks = leb 1 (length ks) && same_z (value ks 0) (pos 1)

-- and is taken off
unfoldable pub tested : List ℤ → Judged
tested ks = cond (tests ks) (fits (drop 1 ks)) wrong

-- if: what is in its braces leaves the kinds that it found
abbrev pub when_kinds : (List ℤ → Judged) → List ℤ → Judged
when_kinds f ks = then_j (tested ks) (λ k₀. then_j (f k₀) (λ k₁. alike k₁ k₀))

-- ifelse: both leave the same
abbrev pub either_kinds : (List ℤ → Judged) → (List ℤ → Judged) → List ℤ → Judged
either_kinds f g ks = then_j (tested ks) (λ k₀. then_j (f k₀) (λ k₁. then_j (g k₀) (λ k₂. alike k₂ k₁)))

-- the kinds that a program leaves of these kinds, or that it is wrong somewhere
unfoldable pub judged : Code → List ℤ → Judged
judged done ks = fits ks
judged (act o c) ks = then_j (typed o ks) (judged c)
judged (when b c) ks = then_j (when_kinds (judged b) ks) (judged c)
judged (either a b c) ks = then_j (either_kinds (judged a) (judged b) ks) (judged c)

-- ---- what judging is for: a run whose values carry their kinds, and which sticks where an operator meets a stack too low, too high or of a wrong kind

-- the values and their kinds, or that the run stuck
pub data Strict : Type 0 where
  through : List ℤ → List ℤ → Strict
  stuck : Strict

-- then, where the first did not stick
abbrev pub then_s : Strict → (List ℤ → List ℤ → Strict) → Strict
then_s (through s ks) f = f s ks
then_s stuck f = stuck

-- if and ifelse stick where no truth value is on top
abbrev pub branches : (List ℤ → List ℤ → Strict) → (List ℤ → List ℤ → Strict) → List ℤ → List ℤ → Strict
branches f g s ks = cond (tests ks) (cond (holds s) (f (drop 1 s) (drop 1 ks)) (g (drop 1 s) (drop 1 ks))) stuck

-- a program on values and their kinds
unfoldable pub strictly : Code → List ℤ → List ℤ → Strict
strictly done s ks = through s ks
strictly (act o c) s ks = cond (fine o ks) (strictly c (acted false o s) (acted true o ks)) stuck
strictly (when b c) s ks = then_s (branches (strictly b) through s ks) (strictly c)
strictly (either a b c) s ks = then_s (branches (strictly a) (strictly b) s ks) (strictly c)
