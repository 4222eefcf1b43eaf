-- Worked by computation: counts that are missing or not whole.
use mathlib.Core.Path.{◌≡◌, refl}
use mathlib.Core.List.{[], ◌∷◌}
use lib.IntN.{ℤ, pos, negsuc}
use Rattle.stack.specs.Stack.{rolled}
use Rattle.stack.specs.Programs.{roll, done, act}
use Rattle.stack.specs.Operators.{acted}
use Rattle.stack.specs.Judging.{judged, typed, fine, fits, wrong}
use Rattle.program.specs.Parse.{State, whole, parsed, tokens, token, token_at, joined, count_z, spoiled}
use Rattle.symbols.specs.Tokens.{opens, closes, num_t, roll_t}

-- { 1 0.5 roll }: the second count is not whole, and judging refuses it (17); { 1 -1 roll } is fine; { 0.5 1 roll }, { 1 roll } and { roll } are 17
abbrev rolled-by : ℤ → ℤ → State
rolled-by x y = parsed count_z (opens ∷ num_t x ∷ num_t y ∷ roll_t ∷ closes ∷ [])

second-unwhole : rolled-by (pos 1000000) (pos 500000) ≡ whole (act spoiled done)
unfolding tokens token token_at joined count_z
second-unwhole = refl

unwhole-wrong : judged (act spoiled done) (pos 0 ∷ []) ≡ wrong
unfolding judged typed fine
unwhole-wrong = refl

second_back : rolled-by (pos 1000000) (negsuc 999999) ≡ whole (act (roll (pos 1) (negsuc 0)) done)
unfolding tokens token token_at joined count_z
second_back = refl

back-right : judged (act (roll (pos 1) (negsuc 0)) done) (pos 0 ∷ []) ≡ fits (pos 0 ∷ [])
unfolding judged typed fine acted rolled
back-right = refl

first-unwhole : rolled-by (pos 500000) (pos 1000000) ≡ whole (act spoiled done)
unfolding tokens token token_at joined count_z
first-unwhole = refl

one-missing : parsed count_z (opens ∷ num_t (pos 1000000) ∷ roll_t ∷ closes ∷ []) ≡ whole (act spoiled done)
unfolding tokens token token_at joined
one-missing = refl
