-- A text goes to its first zero byte.
use mathlib.Core.Path.{◌≡◌, refl, ap}
use mathlib.Core.Bool.{Bool, true, false, cond, not}
use mathlib.Core.List.{List, [], ◌∷◌}
use Prim.Native.Nat.{ℕ, suc, ◌+◌}
use native.Mathlib.Omega.{arith}
use lib.Dec.{eqb}
use lib.ListN.{take}
use Rattle.std.specs.List.{position_or_len}
use Rattle.symbols.specs.Tokens.{before_zero}

abbrev pub zero_at : List ℕ → ℕ
zero_at l = position_or_len (λ b. eqb b 0) l

one-more : (n : ℕ) → 1 + n ≡ suc n
one-more n = omega arith

pub take-zero : (l : List ℕ) → take (zero_at l) l ≡ before_zero l
unfolding before_zero
take-zero [] = refl
take-zero (x ∷ l) = by (take-zero l) (eqb x 0)
  where
    by : take (zero_at l) l ≡ before_zero l → (t : Bool) → take (cond (not t) (1 + zero_at l) 0) (x ∷ l) ≡ cond t [] (x ∷ before_zero l)
    by on true = refl
    by on false = rw (one-more (zero_at l)) (ap (λ (y : List ℕ). x ∷ y) on)
