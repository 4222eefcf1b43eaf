-- What stands in a block stands in its page, further on.
use mathlib.Core.Path.{◌≡◌}
use mathlib.Core.List.{List}
use Prim.Native.Nat.{ℕ, ◌+◌}
use native.Mathlib.Nat.{add_assoc}
use lib.ListN.{drop}
use lib.Seq.{get_or-drop}
use Rattle.fixed.specs.Bytes.{two_at, four_at}

module _ (l : List ℕ) (m at : ℕ) where
  pub two-place : two_at (drop m l) at ≡ two_at l (m + at)
  two-place = simp (get_or-drop, add_assoc)

  pub four-place : four_at (drop m l) at ≡ four_at l (m + at)
  four-place = simp (get_or-drop, add_assoc)
