-- Records one after the other, and the counts of components: what a space with another inside needs.
use mathlib.Core.Path.{◌≡◌, refl, sym, ap, ◌∙◌}
use mathlib.Core.List.{List, [], ◌∷◌, ◌++◌, append_assoc}
use Prim.Native.Nat.{ℕ, zero, suc, ◌+◌, ◌≤◌}
use native.Mathlib.Omega.{arith}
use Rattle.record.specs.Layout.{block_of}
use Rattle.record.specs.declared.types.Record.{Record}
use Rattle.objects.specs.Objects.{each}
use Rattle.reader.specs.Spaces.{palette_of, run_of}
use Rattle.spelling.specs.Spaces.{Space, device, device_gray, device_rgb, device_cmyk, cal_gray, cal_rgb, lab, indexed, separation, components_of, palettes}

pub each_append : (f : Record → List ℕ) (xs ys : List Record) → each f (xs ++ ys) ≡ each f xs ++ each f ys
each_append f [] ys = refl
each_append f (x ∷ xs) ys = ap (λ (l : List ℕ). f x ++ l) (each_append f xs ys) ∙ sym (append_assoc (f x) (each f xs) (each f ys))

-- records after those of a page
pub page-more : (page : List ℕ) (xs ys : List Record) {l : List ℕ} → l ≡ each block_of ys → (page ++ each block_of xs) ++ l ≡ page ++ each block_of (xs ++ ys)
page-more page xs ys {l} e =
    ap (λ (r : List ℕ). (page ++ each block_of xs) ++ r) e
    ∙ append_assoc page (each block_of xs) (each block_of ys)
    ∙ ap (λ (r : List ℕ). page ++ r) (sym (each_append block_of xs ys))

pub run_is : (k own : ℕ) (p : List ℕ) → run_of own k p ≡ each block_of (palettes own k p)
unfolding run_of palette_of
run_is zero own p = refl
run_is (suc k) own p = ap (λ (l : List ℕ). block_of (palette_of own p) ++ l) (run_is k (own + 1) _)

-- every space has a component
pub record Some (m : ℕ) : Type 0 where
  pub less : ℕ
  pub is : m ≡ suc less
  pub few : m ≤ 4

pub components : (t : Space) → Some (components_of t)
components (device device_gray) = record { less = 0; is = refl; few = omega arith }
components (device device_rgb) = record { less = 2; is = refl; few = omega arith }
components (device device_cmyk) = record { less = 3; is = refl; few = omega arith }
components (cal_gray g) = record { less = 0; is = refl; few = omega arith }
components (cal_rgb g) = record { less = 2; is = refl; few = omega arith }
components (lab g) = record { less = 2; is = refl; few = omega arith }
components (indexed base hival palette) = record { less = 0; is = refl; few = omega arith }
components (separation ink alternate n c₀ c₁) = record { less = 0; is = refl; few = omega arith }
