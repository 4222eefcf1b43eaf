-- The ring of open spaces, as what is kept has it: a space opens, and the innermost gets its name.
use mathlib.Core.Path.{◌≡◌, refl, sym, ap, ◌∙◌}
use mathlib.Core.Bool.{Bool, true, false, cond}
use mathlib.Core.List.{List}
use Prim.Native.Nat.{ℕ, zero, suc, ◌+◌, ◌%◌, ◌≤◌, ◌<◌}
use native.Mathlib.Omega.{arith}
use borrow.Author.Tests.{le-leb, leb-true}
use lib.Dec.{leb}
use Rattle.reader.specs.declared.types.Head.{Head}
use Rattle.reader.specs.Spaces.{opened, named}
use Rattle.reader.specs.Kept.{ring, top_of, deep_of, after_slot, frames_at}

pub deep-ring : (h : Head) → deep_of h ≤ ring
deep-ring h = go (leb h.deep ring) refl
  where
    go : (t : Bool) → leb h.deep ring ≡ t → cond t h.deep ring ≤ ring
    go true e = leb-true h.deep ring e
    go false e = omega arith

module _ (h : Head) (marks names marks' names' : List ℕ) (at x n y : ℕ) (ex : x ≡ top_of h) (en : n ≡ deep_of h) (ey : y ≡ after_slot x) (small : y < ring) where
  pub ring-grows : n < ring → ((k : ℕ) → k < ring → frames_at marks' names' (after_slot x) (suc k) ≡ opened at (frames_at marks names x k))
      → frames_at marks' names' (y % ring) (cond (leb (n + 1) ring) (n + 1) ring) ≡ opened at (frames_at marks names (top_of h) (deep_of h))
  ring-grows r f =
      let m : y % ring ≡ y = omega arith in
      let s : n + 1 ≡ suc n = omega arith in
      let o : n + 1 ≤ ring = omega arith in
      ap (λ (t : Bool). frames_at marks' names' (y % ring) (cond t (n + 1) ring)) (le-leb (n + 1) ring o)
      ∙ (λ i. frames_at marks' names' ((m ∙ ey) i) (s i)) ∙ f n r ∙ (λ i. opened at (frames_at marks names (ex i) (en i)))

  pub ring-stays : ring ≤ n → n ≤ ring → frames_at marks' names' (after_slot x) ring ≡ opened at (frames_at marks names x ring)
      → frames_at marks' names' (y % ring) (cond (leb n ring) n ring) ≡ opened at (frames_at marks names (top_of h) (deep_of h))
  ring-stays r o f =
      let m : y % ring ≡ y = omega arith in
      let s : n ≡ ring = omega arith in
      ap (λ (t : Bool). frames_at marks' names' (y % ring) (cond t n ring)) (le-leb n ring o)
      ∙ (λ i. frames_at marks' names' ((m ∙ ey) i) (s i)) ∙ f ∙ (λ i. opened at (frames_at marks names (ex i) ((sym s ∙ en) i)))

-- the innermost gets its name, where there is one
name-any : (marks names names' w : List ℕ) (x n : ℕ) → n ≤ ring → ((k : ℕ) → k < ring → frames_at marks names' x (suc k) ≡ named w (frames_at marks names x (suc k)))
    → frames_at marks names' x n ≡ named w (frames_at marks names x n)
unfolding frames_at named
name-any marks names names' w x zero o f = refl
name-any marks names names' w x (suc n) o f = f n (omega arith)

pub ring-named : (h : Head) (marks names names' w : List ℕ) (x : ℕ) → x ≡ top_of h → ((k : ℕ) → k < ring → frames_at marks names' x (suc k) ≡ named w (frames_at marks names x (suc k)))
    → frames_at marks names' (top_of h) (deep_of h) ≡ named w (frames_at marks names (top_of h) (deep_of h))
ring-named h marks names names' w x e f =
    (λ i. frames_at marks names' (sym e i) (deep_of h)) ∙ name-any marks names names' w x (deep_of h) (deep-ring h) f
    ∙ (λ i. named w (frames_at marks names (e i) (deep_of h)))
