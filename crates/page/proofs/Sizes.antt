-- What the length of a page is once it is not refused with 1.
use mathlib.Core.Path.{◌≡◌}
use mathlib.Core.Bool.{true}
use Prim.Native.Nat.{ℕ, ◌*◌, ◌/◌, ◌%◌, ◌≤◌}
use native.Mathlib.Omega.{arith}
use borrow.Author.Tests.{eqb-true, leb-true}
use lib.Dec.{eqb, leb}
use Rattle.fixed.specs.Bytes.{blocks}
use Rattle.fixed.proofs.Decide.{and_left, and_right}
use Rattle.page.specs.Validation.{well_sized}

module _ (n : ℕ) (h : well_sized n ≡ true) where
  -- no byte is left past the last block
  pub sized-whole : 512 * (n / 512) ≡ n
  unfolding well_sized
  sized-whole = let e : n % 512 ≡ 0 = eqb-true (n % 512) 0 (and_left _ _ h) in omega arith

  -- there are 1 to `blocks` blocks
  pub sized-some : 1 ≤ n / 512
  unfolding well_sized
  sized-some = leb-true 1 (n / 512) (and_left _ _ (and_right (eqb (n % 512) 0) _ h))

  pub sized-most : n / 512 ≤ blocks
  unfolding well_sized
  sized-most = leb-true (n / 512) blocks (and_right (leb 1 (n / 512)) _ (and_right (eqb (n % 512) 0) _ h))
