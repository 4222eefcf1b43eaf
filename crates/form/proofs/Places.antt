-- Places: paths come in any order, and a second one must bring the same kinds.
use mathlib.Core.Path.{◌≡◌, refl, sym, ap, ◌∙◌}
use mathlib.Core.Bool.{Bool, true, false, cond}
use mathlib.Core.List.{List, [], ◌∷◌}
use Prim.Native.Nat.{ℕ, zero, suc, ◌+◌}
use native.Mathlib.Omega.{arith}
use lib.IntN.{ℤ}
use Rattle.stack.specs.Stack.{same_kinds}
use Rattle.stack.proofs.Same.{same-sym, by-same}
use Rattle.form.specs.Paths.{Place, unmet, met, Places, at, ill, meet, onto, comes, then_p}

-- n places to which no path came yet, and then these
unfoldable pub unmets : ℕ → List Place → List Place
unmets zero ps = ps
unmets (suc n) ps = unmet ∷ unmets n ps

abbrev pub spaced : ℕ → Places → Places
spaced n P = then_p P (λ ps. at (unmets n ps))

abbrev pub comes_p : List ℤ → ℕ → Places → Places
comes_p ks d P = then_p P (comes ks d)

onto-then : (p : Place) (P : Places) (y : List ℤ) (j : ℕ) → then_p (onto p P) (comes y (suc j)) ≡ onto p (then_p P (comes y j))
unfolding comes
onto-then p ill y j = refl
onto-then p (at ps) y j = refl

-- a place that was met, or an ill one, by a test
abbrev pub kept : List ℤ → List Place → Bool → Places
kept z ps t = cond t (at (met z ∷ ps)) ill

met-far : (x y z : List ℤ) (j : ℕ) (ps : List Place) (t : Bool) (P : Places) → same_kinds x z ≡ t → P ≡ comes y j ps → then_p (kept z ps t) (comes y (suc j)) ≡ then_p (onto (met z) P) (comes x zero)
unfolding comes
met-far x y z j ps true ill e f = ap (onto (met z)) (sym f)
met-far x y z j ps true (at qs) e f = ap (onto (met z)) (sym f) ∙ sym (ap (kept z qs) e)
met-far x y z j ps false ill e f = refl
met-far x y z j ps false (at qs) e f = sym (ap (kept z qs) e)

met-near : (x y z : List ℤ) (ps : List Place) (s t : Bool) → same_kinds x z ≡ s → same_kinds y z ≡ t → then_p (kept z ps s) (comes y 0) ≡ then_p (kept z ps t) (comes x 0)
unfolding comes
met-near x y z ps true true e f = ap (kept z ps) f ∙ sym (ap (kept z ps) e)
met-near x y z ps true false e f = ap (kept z ps) f
met-near x y z ps false true e f = sym (ap (kept z ps) e)
met-near x y z ps false false e f = refl

-- here and further on
meet-far : (x y : List ℤ) (j : ℕ) (p : Place) (ps : List Place) (P : Places) → P ≡ comes y j ps → then_p (meet x p ps) (comes y (suc j)) ≡ then_p (onto p P) (comes x zero)
unfolding comes
meet-far x y j unmet ps ill e = ap (onto (met x)) (sym e)
meet-far x y j unmet ps (at qs) e = ap (onto (met x)) (sym e)
meet-far x y j (met z) ps P e = met-far x y z j ps (same_kinds x z) P refl e

comes-comm : (x y : List ℤ) (i j : ℕ) (ps : List Place) → then_p (comes x i ps) (comes y j) ≡ then_p (comes y j ps) (comes x i)
unfolding comes
comes-comm x y i j [] = refl
comes-comm x y zero zero (unmet ∷ ps) = ap (kept x ps) (same-sym y x) ∙ by-same x y (λ k. at (met k ∷ ps)) ill
comes-comm x y zero zero (met z ∷ ps) = met-near x y z ps (same_kinds x z) (same_kinds y z) refl refl
comes-comm x y zero (suc j) (p ∷ ps) = meet-far x y j p ps (comes y j ps) refl
comes-comm x y (suc i) zero (p ∷ ps) = sym (meet-far y x i p ps (comes x i ps) refl)
comes-comm x y (suc i) (suc j) (p ∷ ps) = onto-then p (comes x i ps) y j ∙ (ap (onto p) (comes-comm x y i j ps) ∙ sym (onto-then p (comes y j ps) x i))

-- in either order
pub comes-swap : (x y : List ℤ) (i j : ℕ) (P : Places) → comes_p y j (comes_p x i P) ≡ comes_p x i (comes_p y j P)
comes-swap x y i j ill = refl
comes-swap x y i j (at ps) = comes-comm x y i j ps

-- past places that no path came to
onto-spaced : (n : ℕ) (P : Places) → onto unmet (spaced n P) ≡ spaced (suc n) P
unfolding unmets
onto-spaced n ill = refl
onto-spaced n (at ps) = refl

comes-unmets : (x : List ℤ) (n d : ℕ) (ps : List Place) → comes x (n + d) (unmets n ps) ≡ spaced n (comes x d ps)
unfolding comes unmets
comes-unmets x zero d ps = ap (λ (k : ℕ). comes x k ps) (let e : 0 + d ≡ d = omega arith in e) ∙ none (comes x d ps)
  where
    none : (P : Places) → P ≡ spaced 0 P
    none ill = refl
    none (at qs) = refl
comes-unmets x (suc n) d ps =
    ap (λ (k : ℕ). comes x k (unmet ∷ unmets n ps)) (let e : suc n + d ≡ suc (n + d) = omega arith in e)
    ∙ (ap (onto unmet) (comes-unmets x n d ps) ∙ onto-spaced n (comes x d ps))

pub comes-spaced : (x : List ℤ) (n d : ℕ) (P : Places) → comes_p x (n + d) (spaced n P) ≡ spaced n (comes_p x d P)
comes-spaced x n d ill = refl
comes-spaced x n d (at ps) = comes-unmets x n d ps

unmets-add : (m n : ℕ) (ps : List Place) → unmets (m + n) ps ≡ unmets m (unmets n ps)
unfolding unmets
unmets-add zero n ps = ap (λ (k : ℕ). unmets k ps) (let e : 0 + n ≡ n = omega arith in e)
unmets-add (suc m) n ps = ap (λ (k : ℕ). unmets k ps) (let e : suc m + n ≡ suc (m + n) = omega arith in e) ∙ ap (λ (q : List Place). unmet ∷ q) (unmets-add m n ps)

pub spaced-add : (m n : ℕ) (P : Places) → spaced (m + n) P ≡ spaced m (spaced n P)
spaced-add m n ill = refl
spaced-add m n (at ps) = ap at (unmets-add m n ps)
