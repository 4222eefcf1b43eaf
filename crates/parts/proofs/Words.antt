-- The parts of a recipe: their lengths, and their words as runs of stores.
use mathlib.Core.Path.{◌≡◌, refl, sym, ap, ap₂, ◌∙◌}
use mathlib.Core.List.{List, [], ◌∷◌, ◌++◌}
use Prim.Native.Nat.{ℕ, zero, suc, ◌+◌, ◌*◌, ◌≤◌, ◌<◌}
use native.Mathlib.Numerals.{add-one}
use native.Mathlib.Omega.{arith}
use lib.IntN.{ℤ, pos}
use lib.ListN.{length, take, length-append}
use lib.Seq.{sets, ext_get_or, get_or-take, length-take-le}
use Rattle.fixed.specs.Values.{value, listed}
use Rattle.fixed.proofs.Listed.{listed-length, listed-value}
use Rattle.fixed.proofs.Stores.{then}
use Rattle.cie.specs.declared.Closing.{Closing}
use Rattle.record.specs.Layout.{entries_of}
use Rattle.record.specs.declared.types.Separation.{Separation as Ink}
use Rattle.space.specs.Spaces.{Space, count_of, limit_count, low_of, high_of, closing_of}
use Rattle.space.specs.Pages.{entry_of, table_of}
use Rattle.space.proofs.Counts.{table-length}
use Rattle.parts.specs.Recipes.{limit_words, limits_of, closing_words, ends_of}
use Rattle.parts.specs.Parts.{row_words, tint_words}

-- ---- The limits and the closing step

pub limits-length : (s : Space) (m : ℕ) → length (limits_of s m) ≡ 4 * m
unfolding limits_of
limits-length s zero = refl
limits-length s (suc m) =
    length-append (limits_of s m) (limit_words m (low_of s m) (high_of s m)) ∙ rw (limits-length s m) (omega arith)

-- one more limit
pub limits-turn : (s : Space) (d : List ℤ) (at k : ℕ) {u y : List ℤ} {w lo hi : ℤ} → u ≡ sets d at (limits_of s k) → w ≡ pos k → lo ≡ low_of s k → hi ≡ high_of s k
    → y ≡ sets u (at + 4 * k) (pos 1 ∷ w ∷ lo ∷ hi ∷ []) → y ≡ sets d at (limits_of s (k + 1))
unfolding limits_of
limits-turn s d at k {w = w} {lo} {hi} e hw hl hh g =
    let j : at + 4 * k ≡ at + length (limits_of s k) = rw (limits-length s k) in
    then (limits_of s k) d at (at + 4 * k) (pos 1 ∷ w ∷ lo ∷ hi ∷ []) j e g ∙ rw (add-one, hw, hl, hh)

module _ (s : Space) (c : Closing) (m : ℕ) (em : m ≡ limit_count s) (ec : c ≡ closing_of s) where
  ends-length : length (ends_of s) ≡ 4 * m + length (closing_words c)
  ends-length =
      length-append (limits_of s (limit_count s)) (closing_words (closing_of s)) ∙
      (ap (λ (j : ℕ). j + length (closing_words (closing_of s))) (limits-length s (limit_count s)) ∙ rw (em, ec))

  pub ends-room : (at : ℕ) (d u : List ℤ) → at + length (ends_of s) ≤ length d → length u ≡ length d → (at + 4 * m ≤ length d) × (at + 4 * m + length (closing_words c) ≤ length u)
  ends-room at d u room same = let e = ends-length in (omega arith, omega arith)

  pub ends_set : (at : ℕ) (d u y : List ℤ) → u ≡ sets d at (limits_of s m) → y ≡ sets u (at + 4 * m) (closing_words c) → y ≡ sets d at (ends_of s)
  ends_set at d u y eu ey =
      let k : at + 4 * m ≡ at + length (limits_of s m) = rw (limits-length s m) in
      then (limits_of s m) d at (at + 4 * m) (closing_words c) k eu ey ∙
      ap₂ (λ (j : ℕ) (e : Closing). sets d at (limits_of s j ++ closing_words e)) em ec

-- ---- Step 2, over a base s of m components

module _ (page : List ℕ) (n h m : ℕ) (s : Space) (em : m ≡ count_of s) where
  row-length : length (row_words page n h s) ≡ 3 + m * (h + 1)
  unfolding row_words
  row-length = let e = table-length page n h s in rw em (omega arith)

  module _ (at : ℕ) (d : List ℤ) where
    pub row_fits : at + length (row_words page n h s) ≤ length d → at + 3 + m * (h + 1) ≤ length d
    row_fits r = let e = row-length in omega arith

    module _ (u : List ℤ) (w₁ w₂ : ℤ) (e₁ : w₁ ≡ pos m) (e₂ : w₂ ≡ pos h) (eu : u ≡ sets d at (pos 2 ∷ w₁ ∷ w₂ ∷ [])) where
      row-stored : (y : List ℤ) → y ≡ sets u (at + 3) (listed (entry_of page n s) (m * (h + 1))) → y ≡ sets d at (row_words page n h s)
      unfolding row_words table_of
      row-stored y ey =
          then (pos 2 ∷ w₁ ∷ w₂ ∷ []) d at (at + 3) (listed (entry_of page n s) (m * (h + 1))) refl eu ey ∙
          rw (e₁, e₂) (ap (λ (j : ℕ). sets d at (pos 2 ∷ pos j ∷ pos h ∷ listed (entry_of page n s) (j * (h + 1)))) em)

      -- the words, and the place after them
      pub row-set : (y : List ℤ) → y ≡ sets u (at + 3) (listed (entry_of page n s) (m * (h + 1)))
          → (y ≡ sets d at (row_words page n h s)) × (at + 3 + m * (h + 1) ≡ at + length (row_words page n h s))
      row-set y ey = let e = row-length in (row-stored y ey, omega arith)

      -- over nothing there are no entries
      pub row-none : m ≡ 0 → (u ≡ sets d at (row_words page n h s)) × (at + 3 ≡ at + length (row_words page n h s))
      unfolding listed
      row-none z = let k : m * (h + 1) ≡ 0 = rw z (omega arith) in let r = row-set u (rw k) in (r.0, omega (arith, r.1))

-- ---- Step 3, over an alternate of m components

-- the first m of a list are those at the places below m
pub taken : (l : List ℤ) (m : ℕ) → m ≤ length l → listed (value l) m ≡ take m l
taken l m h =
    ext_get_or (pos 0) (listed (value l) m) (take m l) (listed-length (value l) m ∙ sym (length-take-le m l h))
    (λ k lt. let w : k < m = rw (listed-length (value l) m) at lt in listed-value (value l) m k w ∙ sym (get_or-take m l k (pos 0) w))

module _ (p : Ink) (m : ℕ) (few : m ≤ 4) where
  tint-length : length (tint_words p m) ≡ 3 + 2 * m
  unfolding tint_words
  tint-length =
      let e = length-append (take m (entries_of p.c0)) (take m (entries_of p.c1)) in
      omega (arith, length-take-le m (entries_of p.c0) few, length-take-le m (entries_of p.c1) few)

  module _ (at : ℕ) (d : List ℤ) where
    pub tint-fits : at + length (tint_words p m) ≤ length d → at + 3 + m + m ≤ length d
    tint-fits r = let e = tint-length in omega arith

    module _ (u y z a b : List ℤ) (w₁ w₂ : ℤ) (e₁ : w₁ ≡ pos p.exponent) (e₂ : w₂ ≡ pos m) (ea : a ≡ entries_of p.c0) (eb : b ≡ entries_of p.c1)
        (eu : u ≡ sets d at (pos 3 ∷ w₁ ∷ w₂ ∷ [])) (ey : y ≡ sets u (at + 3) (listed (value a) m)) (ez : z ≡ sets y (at + 3 + m) (listed (value b) m)) where
      tint-stored : z ≡ sets d at (tint_words p m)
      unfolding tint_words
      tint-stored =
          let hd : List ℤ = pos 3 ∷ w₁ ∷ w₂ ∷ [] in
          let f : List ℤ = listed (value a) m in
          let y' : y ≡ sets d at (hd ++ f) = then hd d at (at + 3) f refl eu ey in
          let l : at + 3 + m ≡ at + length (hd ++ f) = let q : length f ≡ m = listed-length _ m in omega arith in
          let z' : z ≡ sets d at ((hd ++ f) ++ listed (value b) m) = then (hd ++ f) d at (at + 3 + m) (listed (value b) m) l y' ez in
          z' ∙ rw (e₁, e₂, ea, eb, taken (entries_of p.c0) m few, taken (entries_of p.c1) m few)

      pub tint-set : (z ≡ sets d at (tint_words p m)) × (at + 3 + 2 * m ≡ at + length (tint_words p m))
      tint-set = let e = tint-length in (tint-stored, omega arith)
