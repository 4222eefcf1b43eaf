-- FORMAT.md, Programs, Meaning; clause 7.10.5: what a program leaves of a stack. This nested form is the meaning of a
-- program.
use Rattle.std.specs.Prelude.{Bool, cond, List, ℤ, drop}
use Rattle.fixed.specs.Values.{value}
use Rattle.stack.specs.Programs.{Code, done, act, when, either}
use Rattle.stack.specs.Operators.{is_true, applied}

-- the top is true
abbrev pub holds : List ℤ → Bool
holds s = is_true (value s 0)

-- { f } if: the truth value is taken off, and f follows where it is true
abbrev pub when_done : (List ℤ → List ℤ) → List ℤ → List ℤ
when_done f s = cond (holds s) (f (drop 1 s)) (drop 1 s)

-- { f } { g } ifelse: f where it is true, else g
abbrev pub either_done : (List ℤ → List ℤ) → (List ℤ → List ℤ) → List ℤ → List ℤ
either_done f g s = cond (holds s) (f (drop 1 s)) (g (drop 1 s))

-- the stack after a program
unfoldable pub ran : Code → List ℤ → List ℤ
ran done s = s
ran (act o c) s = ran c (applied o s)
ran (when b c) s = ran c (when_done (ran b) s)
ran (either a b c) s = ran c (either_done (ran a) (ran b) s)
