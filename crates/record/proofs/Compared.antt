-- Names that are compared: the lengths first, and then byte by byte.
use mathlib.Core.Path.{◌≡◌, sym, ◌∙◌}
use mathlib.Core.Bool.{Bool, ◌&&◌}
use Prim.Native.Nat.{ℕ}
use lib.Dec.{eqb}
use borrow.Author.Tests.{eq-eqb}

module _ (x y size : ℕ) (e : size ≡ x) where
  -- of the same length the bytes decide
  pub as_long : (t u : Bool) → size ≡ y → t ≡ u → t ≡ (eqb x y && u)
  as_long t u h q = q ∙ rw (eq-eqb x y (sym e ∙ h))
