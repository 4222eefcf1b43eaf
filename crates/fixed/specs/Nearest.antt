-- FORMAT.md, Palettes: a palette byte never lands midway between two whole numbers, so its value is the nearest one and
-- nothing more need be said. Stated over whole numbers, without a division.
use Rattle.std.specs.Prelude.{◌≡◌, ℕ, ◌≤◌, ℤ, pos, negsuc, ◌-ℤ◌, ◌*ℤ◌, ◌≤ℤ◌, ◌<ℤ◌}
use Rattle.fixed.specs.Numbers.{palette_value}

-- how far a whole number r is from lo + v (hi - lo) / 255, times 510: a half is 255
abbrev pub twice_off : ℕ → ℤ → ℤ → ℤ → ℤ
twice_off v lo hi r = pos 2 *ℤ (pos 255 *ℤ (r -ℤ lo) -ℤ pos v *ℤ (hi -ℤ lo))

-- r is nearer than a half, on either side: -255 < .. < 255
pub record Nearer (v : ℕ) (lo hi r : ℤ) : Type 0 where
  pub above : negsuc 254 <ℤ twice_off v lo hi r
  pub below : twice_off v lo hi r <ℤ pos 255

-- of every byte and every range
pub record Nearest (v : ℕ) (lo hi : ℤ) : Type 0 where
  -- no whole number is off by just a half: none is midway, above or below
  pub not-above : (r : ℤ) → twice_off v lo hi r ≡ pos 255 → ⊥
  pub not-below : (r : ℤ) → twice_off v lo hi r ≡ negsuc 254 → ⊥
  -- the palette value is nearer than a half
  pub near : Nearer v lo hi (palette_value v lo hi)
  -- and it is the only one
  pub only : (r : ℤ) → Nearer v lo hi r → r ≡ palette_value v lo hi

pub record NeverMidway : Type 0 where
  pub every : (v : ℕ) (lo hi : ℤ) → v ≤ 255 → lo ≤ℤ hi → Nearest v lo hi
