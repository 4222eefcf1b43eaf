-- FORMAT.md, Decode: what holds of every gamma, as one statement, so that nobody has to follow how `settled` and `decoded` are made.
use Rattle.std.specs.Prelude.{◌≡◌, true, false, ℕ, ◌*◌, ◌%◌, ℤ, pos}
use Rattle.std.specs.Float.{fin, binary64}
use Rattle.std.specs.Float.Ieee.{div, of_int, of_bits}
use Rattle.fixed.specs.Numbers.{float, gamma_supported}
use Rattle.tenths.specs.Tenths.{Greatest, ten_thousandths, ten_thousand}
use Rattle.cie.specs.Steps.{tenths_of, decoded_whole, decoded}

pub record Decodes : Type 0 where
  -- a gamma that is carried is its count of tenths
  pub carried : (gamma : ℤ) → gamma_supported gamma ≡ true → gamma ≡ pos (100000 * tenths_of gamma)
  -- by a whole gamma, of n units: the product
  pub whole : (n : ℕ) (a : ℤ) → decoded (10 * n) a ≡ decoded_whole (float a) n
  -- by any other, of p tenths: v / 10000, v being the greatest number of 0..10000 with v^10 × 10000^p ≤ u^p × 10000^10
  pub tenths : (p : ℕ) (a : ℤ) (v : ℕ) → (p % 10 ≡ 0 → ⊥) → Greatest p (ten_thousandths a) v → decoded p a ≡ div binary64 (of_int binary64 (pos v)) ten_thousand
  -- there is such a v, and only one
  pub found : (p u : ℕ) → (v : ℕ) × Greatest p u v
  pub only : (p u v w : ℕ) → Greatest p u v → Greatest p u w → v ≡ w
  -- 1 is decoded to exactly 1.0, and 0 to 0.0, by every count of tenths
  pub white : (p : ℕ) → decoded p (pos 1000000) ≡ of_bits binary64 0x3ff0_0000_0000_0000
  pub black : (p : ℕ) → decoded p (pos 0) ≡ fin false 0 (pos 0)
