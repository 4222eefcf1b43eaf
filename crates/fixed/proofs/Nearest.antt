-- No palette byte lands midway: twice a whole number is not 255, which is odd. Its value, a floor, is nearer than a half, and two that are nearer are one. And it is
-- what half_up rounding gives.
use mathlib.Core.Path.{◌≡◌}
use mathlib.Core.Bool.{Bool, true, false}
use Prim.Native.Nat.{ℕ, ◌+◌, ◌*◌, ◌/◌, ◌<◌}
use native.Mathlib.Omega.{arith}
use lib.Dec.{T}
use lib.IntN.{ℤ, pos, negsuc, ◌+ℤ◌, ◌-ℤ◌, ◌*ℤ◌}
use lib.Signed.{◌<ℤ◌, lt_z}
use mathlib.Core.Path.{refl}
use Rattle.fixed.specs.Numbers.{floor_div, half_up, part_way, palette_value}
use Rattle.fixed.specs.Nearest.{Nearest, NeverMidway}
use Rattle.fixed.proofs.Diff.{Diff, up, down, itself, of-pos, add, sub, scale, shift, same, lt-true, floor-at, half_at}
use Rattle.fixed.proofs.Floors.{less-yes}

-- twice a whole number is neither 255 nor -255
twice-up : (z : ℤ) → pos 2 *ℤ z ≡ pos 255 → ⊥
twice-up z e = let d : Diff (pos 255) (2 * up z) (2 * down z) = rw e at (scale 2 (itself z)) in omega arith

twice-down : (z : ℤ) → pos 2 *ℤ z ≡ negsuc 254 → ⊥
twice-down z e = let d : Diff (negsuc 254) (2 * up z) (2 * down z) = rw e at (scale 2 (itself z)) in omega arith

told : (t : Bool) → T t → t ≡ true
told true h = refl
told false h = absurd h

-- what an order of two numbers says of their parts
less-parts : {y z : ℤ} {a b c d : ℕ} → Diff y a b → Diff z c d → y <ℤ z → a + d < c + b
less-parts {y} {z} h g l = lt-true h g (told (lt_z y z) l.lt)

-- m = p - q is v (hi - lo)
module _ (lo m : ℤ) {p q : ℕ} (h : Diff m p q) where
  abbrev value : ℤ
  value = lo +ℤ floor_div (m +ℤ pos 127) 255

  abbrev off : ℤ → ℤ
  off r = pos 2 *ℤ (pos 255 *ℤ (r -ℤ lo) -ℤ m)

  -- the value as a difference
  value-at : Diff value (up lo + (p + 127 + 254 * q) / 255) (down lo + q)
  value-at = add (itself lo) (floor-at 255 q (omega arith) (shift (add h (of-pos 127)) (omega arith)))

  off_at : {r : ℤ} {a b : ℕ} → Diff r a b → Diff (off r) (2 * (255 * (a + down lo) + q)) (2 * (255 * (b + up lo) + p))
  off_at d = scale 2 (sub (scale 255 (sub d (itself lo))) h)

  above : negsuc 254 <ℤ off value
  above = less-yes (itself (negsuc 254)) (off_at value-at) (omega arith)

  below : off value <ℤ pos 255
  below = less-yes (off_at value-at) (of-pos 255) (omega arith)

  alone : (r : ℤ) → negsuc 254 <ℤ off r → off r <ℤ pos 255 → r ≡ value
  alone r a b =
      let x = less-parts (itself (negsuc 254)) (off_at (itself r)) a in
      let y = less-parts (off_at (itself r)) (of-pos 255) b in
      same (shift (itself r) (omega arith)) value-at

  -- the same number by half_up rounding
  half-up : value ≡ half_up (pos 255 *ℤ lo +ℤ m) 255
  half-up =
      let sum : Diff (pos 255 *ℤ lo +ℤ m) (255 * up lo + p + 254 * q) ((down lo + q) * 255) = shift (add (scale 255 (itself lo)) h) (omega arith) in
      same value-at (shift (half_at 255 (down lo + q) (omega arith) sum) (omega arith))

-- v (hi - lo) as a difference
product : (v : ℕ) (lo hi : ℤ) → Diff (pos v *ℤ (hi -ℤ lo)) (v * (up hi + down lo)) (v * (down hi + up lo))
product v lo hi = scale v (sub (itself hi) (itself lo))

-- a palette value is the half_up rounding of the same point: no answer is another
pub palette-half-up : (v : ℕ) (lo hi : ℤ) → palette_value v lo hi ≡ part_way 255 v lo hi
unfolding palette_value part_way
palette-half-up v lo hi = half-up lo (pos v *ℤ (hi -ℤ lo)) (product v lo hi)

nearest : (v : ℕ) (lo hi : ℤ) → Nearest v lo hi
unfolding palette_value
nearest v lo hi =
    let m = pos v *ℤ (hi -ℤ lo) in
    let d = product v lo hi in
    record {
      not-above = λ r. twice-up (pos 255 *ℤ (r -ℤ lo) -ℤ m);
      not-below = λ r. twice-down (pos 255 *ℤ (r -ℤ lo) -ℤ m);
      near = record { above = above lo m d; below = below lo m d };
      only = λ r n. alone lo m d r n.above n.below;
    }

-- for every byte and every range
pub never-midway : NeverMidway
never-midway = record { every = λ v lo hi _ _. nearest v lo hi }
