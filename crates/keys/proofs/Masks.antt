-- A mask with a bit that is off has room for it.
use mathlib.Core.Path.{◌≡◌, refl}
use mathlib.Core.Bool.{Bool, true, false}
use Prim.Native.Nat.{ℕ, zero, suc, ◌+◌, ◌-◌, ◌*◌, ◌/◌, ◌%◌, ◌^◌, ◌≤◌, ◌<◌}
use native.Mathlib.Omega.{arith}
use Rattle.std.proofs.Math.Nat.{pow-le-pow_right}
use mathlib.Core.Logic.{◌⊎◌, inl, inr, ⊎_elim}
use borrow.Author.Tests.{eqb-false, ltb-true, ltb-false}
use lib.Dec.{ltb}
use Rattle.keys.specs.Entries.{met_in}

-- one of two orders
pub split : (a b : ℕ) → (a < b) ⊎ (b ≤ a)
split a b = go (ltb a b) refl
  where
    go : (t : Bool) → ltb a b ≡ t → (a < b) ⊎ (b ≤ a)
    go true e = inl (ltb-true a b e)
    go false e = inr (ltb-false a b e)

-- a mask with a bit that is off has room for it
bit-room : (mask b : ℕ) → b ≤ 1024 → mask < 4294967296 → (4294967296 - b ≤ mask → ⊥) → mask + b < 4294967296
bit-room mask b k m h = ⊎_elim (λ (z : mask < 4294967296 - b). omega arith) (λ (z : 4294967296 - b ≤ mask). absurd (h z)) (split mask (4294967296 - b))

pub mask-room : (mask key : ℕ) → mask < 4294967296 → key ≤ 10 → met_in mask key ≡ false → mask + 2 ^ key < 4294967296
unfolding met_in
mask-room mask zero m k h = bit-room mask 1 (omega arith) m (λ z. eqb-false (mask / 1 % 2) 1 h (omega arith))
mask-room mask (suc zero) m k h = bit-room mask 2 (omega arith) m (λ z. eqb-false (mask / 2 % 2) 1 h (omega arith))
mask-room mask (suc (suc zero)) m k h = bit-room mask 4 (omega arith) m (λ z. eqb-false (mask / 4 % 2) 1 h (omega arith))
mask-room mask (suc (suc (suc zero))) m k h = bit-room mask 8 (omega arith) m (λ z. eqb-false (mask / 8 % 2) 1 h (omega arith))
mask-room mask (suc (suc (suc (suc zero)))) m k h = bit-room mask 16 (omega arith) m (λ z. eqb-false (mask / 16 % 2) 1 h (omega arith))
mask-room mask (suc (suc (suc (suc (suc zero))))) m k h = bit-room mask 32 (omega arith) m (λ z. eqb-false (mask / 32 % 2) 1 h (omega arith))
mask-room mask (suc (suc (suc (suc (suc (suc zero)))))) m k h = bit-room mask 64 (omega arith) m (λ z. eqb-false (mask / 64 % 2) 1 h (omega arith))
mask-room mask (suc (suc (suc (suc (suc (suc (suc zero))))))) m k h = bit-room mask 128 (omega arith) m (λ z. eqb-false (mask / 128 % 2) 1 h (omega arith))
mask-room mask (suc (suc (suc (suc (suc (suc (suc (suc zero)))))))) m k h = bit-room mask 256 (omega arith) m (λ z. eqb-false (mask / 256 % 2) 1 h (omega arith))
mask-room mask (suc (suc (suc (suc (suc (suc (suc (suc (suc zero))))))))) m k h = bit-room mask 512 (omega arith) m (λ z. eqb-false (mask / 512 % 2) 1 h (omega arith))
mask-room mask (suc (suc (suc (suc (suc (suc (suc (suc (suc (suc zero)))))))))) m k h = bit-room mask 1024 (omega arith) m (λ z. eqb-false (mask / 1024 % 2) 1 h (omega arith))
mask-room mask (suc (suc (suc (suc (suc (suc (suc (suc (suc (suc (suc key))))))))))) m k h = absurd (omega arith)

-- and is a bit of 32
pub bit-whole : (key : ℕ) → key ≤ 10 → 1 * 2 ^ key % 4294967296 ≡ 2 ^ key
bit-whole key h = let few : 2 ^ key ≤ 1024 = pow-le-pow_right (omega arith) h in omega arith
