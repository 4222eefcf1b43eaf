-- The space around the one that closes, as what is kept has it.
use mathlib.Core.Path.{◌≡◌, refl, sym, ap, ◌∙◌}
use mathlib.Core.Bool.{Bool, cond}
use mathlib.Core.List.{List}
use Prim.Native.Nat.{ℕ, zero, suc, ◌-◌, ◌%◌, ◌≤◌, ◌<◌}
use native.Mathlib.Omega.{arith}
use borrow.Author.Tests.{le-leb}
use lib.Dec.{leb}
use lib.ListN.{length}
use Rattle.reader.specs.declared.types.Head.{Head}
use Rattle.reader.specs.Spaces.{Frame, around, name_of}
use Rattle.reader.specs.Kept.{ring, top_of, deep_of, before_slot, frames_at}
use Rattle.reader.proofs.Rings.{length-frames}

around-frames : (marks names : List ℕ) (x n : ℕ) → frames_at marks names (before_slot x) (n - 1) ≡ around (frames_at marks names x n)
unfolding frames_at around
around-frames marks names x zero = refl
around-frames marks names x (suc n) = let e : suc n - 1 ≡ n = omega arith in ap (frames_at marks names (before_slot x)) e

module _ (h : Head) (marks names : List ℕ) (x n m y : ℕ) (ex : x ≡ top_of h) (en : n ≡ deep_of h) (em : m ≡ n - 1) (ey : y ≡ before_slot x) where
  -- as they are found
  pub popped : frames_at marks names y m ≡ around (frames_at marks names (top_of h) (deep_of h))
  popped = (λ i. frames_at marks names (ey i) (em i)) ∙ around-frames marks names x n ∙ (λ i. around (frames_at marks names (ex i) (en i)))

  -- as the new head has them
  pub ring-popped : n ≤ ring → y < ring → frames_at marks names (y % ring) (cond (leb m ring) m ring) ≡ around (frames_at marks names (top_of h) (deep_of h))
  ring-popped o r =
      let q : y % ring ≡ y = omega arith in
      let p : m ≤ ring = omega arith in
      ap (λ (t : Bool). frames_at marks names (y % ring) (cond t m ring)) (le-leb m ring p)
      ∙ ap (λ (z : ℕ). frames_at marks names z m) q ∙ popped

  -- how many there are, and the first one's name
  pub left-around : m ≡ length (around (frames_at marks names (top_of h) (deep_of h)))
  left-around = sym (length-frames marks names y m) ∙ ap (length {A = Frame}) popped

  pub name-around : (k : ℕ) → k ≡ length (name_of (frames_at marks names y m)) → k ≡ length (name_of (around (frames_at marks names (top_of h) (deep_of h))))
  name-around k e = e ∙ ap (λ (f : List Frame). length (name_of f)) popped
