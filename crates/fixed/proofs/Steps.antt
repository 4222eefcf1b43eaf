-- The steps of a colour, from what a function computes: the values after the step, and whether it moved anything.
use mathlib.Core.Path.{◌≡◌}
use mathlib.Core.Bool.{Bool, ◌||◌}
use mathlib.Core.List.{List}
use Prim.Native.Nat.{ℕ}
use lib.IntN.{ℤ, pos}
use lib.ListN.{set}
use Rattle.fixed.specs.Numbers.{limited, outside, index_outside}
use Rattle.fixed.specs.Values.{value, limited_at, limit_step, row_from, row_step, tinted_by, tint_step}
use Rattle.fixed.specs.declared.values.Colour.{Colour}

module _ (c : Colour) where
  -- x is value k limited, and t whether that moved it
  pub limit-made : (k : ℕ) (lo hi : ℤ) {x : ℤ} {t : Bool} → x ≡ limited lo hi (value c.values k) → t ≡ outside lo hi (value c.values k)
      → ◌≡◌ {A = Colour} (record { values = set c.values k x; moved = c.moved || t }) (limit_step k lo hi c)
  unfolding limit_step limited_at
  limit-made k lo hi e f = λ i. record { values = set c.values k (e i); moved = c.moved || f i }

  -- u is the row, and t whether the index was moved; x is value 0
  pub row_made : (m h : ℕ) (table : List ℤ) {u : List ℤ} {t : Bool} (x : ℤ) → u ≡ row_from m h table c.values → t ≡ index_outside x h → x ≡ value c.values 0
      → ◌≡◌ {A = Colour} (record { values = u; moved = c.moved || t }) (row_step m h table c)
  unfolding row_step
  row_made m h table x e f g = rw (e, f, g)

  -- u is what the tint makes, and t whether it was moved; x is value 0
  pub tint-made : (e m : ℕ) (c₀ c₁ : List ℤ) {u : List ℤ} {t : Bool} (x : ℤ) → u ≡ tinted_by e m c₀ c₁ c.values → t ≡ outside (pos 0) (pos 1000000) x → x ≡ value c.values 0
      → ◌≡◌ {A = Colour} (record { values = u; moved = c.moved || t }) (tint_step e m c₀ c₁ c)
  unfolding tint_step
  tint-made e m c₀ c₁ x p f g = rw (p, f, g)
