-- The names below k fit.
use mathlib.Core.Path.{◌≡◌, ap, ◌∙◌}
use mathlib.Core.Bool.{Bool}
use mathlib.Core.List.{List}
use Prim.Native.Nat.{ℕ}
use Rattle.fixed.proofs.Scans.{Passing}
use Rattle.record.specs.Reading.{name_place}
use Rattle.record.specs.Rules.{name_fits_at}
use Rattle.rules.proofs.shape.all_fit.Given as goal

-- name k fits
abbrev pub Fits : List ℕ → ℕ → Bool
Fits s k = name_fits_at s (name_place s k)

pub fits : (s : List ℕ) (k : ℕ) {at : ℕ} {t : Bool} → at ≡ name_place s k → t ≡ name_fits_at s at → t ≡ Fits s k
fits s k e f = f ∙ ap (name_fits_at s) e

abbrev pub invariant-loop-k : goal.invariant-loop-k
invariant-loop-k l = Passing (Fits l.s) 0 l.n l.k
