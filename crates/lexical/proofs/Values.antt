-- Numbers that fit: how large they are.
use mathlib.Core.Path.{◌≡◌, refl}
use mathlib.Core.Bool.{Bool, true, false, ◌&&◌, cond}
use Prim.Native.Nat.{ℕ, ◌*◌, ◌≤◌, ◌<◌}
use native.Mathlib.Omega.{arith}
use native.Mathlib.Nat.{mul-le-mul}
use borrow.Author.Tests.{lt-leb}
use lib.Dec.{leb}

-- a product by 1 or more is no smaller
pub grows : (a b : ℕ) → 1 ≤ b → a ≤ a * b
grows a b h = let g : a * 1 ≤ a * b = mul-le-mul {n₁ = a} {n₂ = a} (omega arith) h in omega arith

-- what is past the larger end is past either
pub past : (t : Bool) (m : ℕ) → 2147483648 < m → leb m (cond t 2147483648 2147483647) ≡ false
past true m h = lt-leb m 2147483648 h
past false m h = lt-leb m 2147483647 (omega arith)

pub and_no : (a : Bool) → (a && false) ≡ false
and_no true = refl
and_no false = refl
