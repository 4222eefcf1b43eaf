-- A room of 504 bytes, and a part of a list that is written.
use mathlib.Core.Path.{◌≡◌, refl, sym, ap, ◌∙◌}
use mathlib.Core.List.{List, [], ◌∷◌, ◌++◌}
use mathlib.Core.Logic.{◌⊎◌, inl, inr, ⊎_elim}
use Prim.Native.Nat.{ℕ, zero, suc, ◌+◌, ◌≤◌, ◌<◌}
use native.Mathlib.Omega.{arith}
use borrow.Rule.Slice.PartMut.{put_mid}
use lib.ListN.{length, take, drop, replicate}
use lib.Seq.{sets, sets-eq, take_all}
use Rattle.std.proofs.lemmas.Slice.{put_mid-paste}
use Rattle.layout.specs.Field.{padded}
use Rattle.keys.proofs.Masks.{split as keys_split}

padded_none : (m : ℕ) → replicate m 0 ≡ padded m []
unfolding padded
padded_none zero = refl
padded_none (suc m) = ap (λ (t : List ℕ). 0 ∷ t) (padded_none m)

-- as many bytes as there are, or as there is room for, and zeros
pub room_filled : (m n : ℕ) (s : List ℕ) → n ≤ length s → n ≤ m → (length s ≤ n) ⊎ (m ≤ n) → take n s ++ drop n (replicate m 0) ≡ padded m s
unfolding padded
room_filled zero zero s h k e = refl
room_filled zero (suc n) s h k e = absurd (omega arith)
room_filled (suc m) zero [] h k e = padded_none (suc m)
room_filled (suc m) zero (x ∷ s) h k e = absurd (⊎_elim (λ (z : length (x ∷ s) ≤ 0). omega arith) (λ (z : suc m ≤ 0). omega arith) e)
room_filled (suc m) (suc n) [] h k e = absurd (omega arith)
room_filled (suc m) (suc n) (x ∷ s) h k e =
    ap (λ (t : List ℕ). x ∷ t)
    (room_filled m n s (omega arith) (omega arith) (⊎_elim (λ (z : length (x ∷ s) ≤ suc n). inl (omega arith)) (λ (z : suc m ≤ suc n). inr (omega arith)) e))

-- one of two orders
pub split : (a b : ℕ) → (a < b) ⊎ (b ≤ a)
split = keys_split

-- a part that is written is so many elements stored
pub put-sets : (xs : List ℕ) (a k : ℕ) {ys zs : List ℕ} → ys ≡ zs → k ≡ length zs → a + k ≤ length xs → put_mid a k xs ys ≡ sets xs a zs
put-sets xs a k {ys} {zs} e l o =
    put_mid-paste a k xs ys zs k e refl l
    ∙ (λ i. take a xs ++ take_all k zs (omega arith) i ++ drop (a + l i) xs) ∙ sym (sets-eq zs xs a (omega arith))
