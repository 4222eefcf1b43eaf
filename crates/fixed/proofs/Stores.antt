-- Runs of stores. No bound is asked: a store past the end does nothing.
use mathlib.Core.Path.{◌≡◌, ap, sym, ◌∙◌}
use mathlib.Core.List.{List, [], ◌∷◌, ◌++◌, append_assoc}
use Prim.Native.Nat.{ℕ, suc, ◌+◌, ◌-◌, ◌/◌, ◌%◌, ◌≤◌}
use native.Mathlib.Nat.{add-zero}
use native.Mathlib.Numerals.{add-one, towards_suc}
use native.Mathlib.Omega.{arith}
use lib.ListN.{length, set, take, drop}
use lib.Seq.{sets, sets-eq, drop-drop}
use Rattle.fixed.specs.Bytes.{two_bytes, four_bytes}

-- the bytes of a number, stored one by one
pub two-stored : (d : List ℕ) (at n x y : ℕ) → x ≡ n / 256 % 256 → y ≡ n % 256 → set (set d at x) (at + 1) y ≡ sets d at (two_bytes n)
unfolding two_bytes
two-stored d at n x y e f = rw (e, f, add-one)

pub four-stored : (d : List ℕ) (at n x y z w : ℕ) → x ≡ n / 16777216 % 256 → y ≡ n / 65536 % 256 → z ≡ n / 256 % 256 → w ≡ n % 256
    → set (set (set (set d at x) (at + 1) y) (at + 2) z) (at + 3) w ≡ sets d at (four_bytes n)
unfolding four_bytes
four-stored d at n x y z w e f g h = rw (e, f, g, h) (simp towards_suc)

module _ {A : Type 0} where
  pub sets-append : (ws : List A) (d : List A) (at : ℕ) (vs : List A) → sets (sets d at ws) (at + length ws) vs ≡ sets d at (ws ++ vs)
  sets-append [] d at vs = ap (λ (i : ℕ). sets d i vs) (add-zero at)
  sets-append (w ∷ ws) d at vs =
      let e : at + suc (length ws) ≡ suc at + length ws = omega arith in
      ap (λ (i : ℕ). sets (sets (set d at w) (suc at) ws) i vs) e ∙ sets-append ws (set d at w) (suc at) vs

  -- a run from the front of a list that is long enough
  pub sets-front : (ws d : List A) → length ws ≤ length d → sets d 0 ws ≡ ws ++ drop (length ws) d
  sets-front ws d h =
      let k : 0 + length ws ≡ length ws = omega arith in
      let o : 0 + length ws ≤ length d = omega arith in
      sets-eq ws d 0 o ∙ ap (λ (j : ℕ). ws ++ drop j d) k

  -- a run copied over the elements from `at` to below e
  pub copied : (ws d : List A) (at e : ℕ) → at + length ws ≡ e → e ≤ length d → take at d ++ (ws ++ drop (e - at) (drop at d)) ≡ sets d at ws
  copied ws d at e p h =
      let q : at + (e - at) ≡ at + length ws = omega arith in
      ap (λ (l : List A). take at d ++ (ws ++ l)) (drop-drop (e - at) at d ∙ ap (λ (k : ℕ). drop k d) q) ∙ sym (sets-eq ws d at (omega arith) ∙ append_assoc (take at d) ws (drop (at + length ws) d))

  -- a run of stores that goes on where another ended
  pub then : (ws d : List A) {x y : List A} (at k : ℕ) (vs : List A) → k ≡ at + length ws → x ≡ sets d at ws → y ≡ sets x k vs → y ≡ sets d at (ws ++ vs)
  then ws d at k vs e f g = g ∙ (ap (λ (l : List A). sets l k vs) f ∙ (ap (λ (j : ℕ). sets (sets d at ws) j vs) e ∙ sets-append ws d at vs))
