-- What a test of a range shows.
use mathlib.Core.Path.{◌≡◌}
use mathlib.Core.Bool.{true, ◌&&◌}
use Prim.Native.Nat.{ℕ, ◌≤◌}
use borrow.Author.Tests.{leb-true}
use lib.Dec.{leb}
use Rattle.fixed.proofs.Decide.{and_left, and_right}

pub range-low : (a b x : ℕ) → (leb a x && leb x b) ≡ true → a ≤ x
range-low a b x e = leb-true a x (and_left (leb a x) (leb x b) e)

pub range-high : (a b x : ℕ) → (leb a x && leb x b) ≡ true → x ≤ b
range-high a b x e = leb-true x b (and_right (leb a x) (leb x b) e)
