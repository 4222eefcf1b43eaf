-- Two stacks of kinds that are the same are one.
use mathlib.Core.Path.{◌≡◌, refl, sym, ap, ◌∙◌}
use mathlib.Core.Bool.{Bool, true, false, cond, ◌&&◌, true≢false}
use mathlib.Core.List.{List, [], ◌∷◌}
use Prim.Native.Nat.{◌≤◌}
use native.Mathlib.Omega.{arith}
use lib.IntN.{ℤ, pos, negsuc}
use lib.Dec.{leb}
use lib.Signed.{le_z}
use borrow.Author.Tests.{leb-true}
use Rattle.fixed.proofs.Decide.{and_left, and_right}
use Rattle.stack.specs.Stack.{same_z, same_kinds}

and-sym : (s t : Bool) → (s && t) ≡ (t && s)
and-sym true true = refl
and-sym true false = refl
and-sym false true = refl
and-sym false false = refl

pub same_z-eq : (x y : ℤ) → same_z x y ≡ true → x ≡ y
same_z-eq (pos a) (pos b) e =
    let f : a ≤ b = leb-true a b (and_left (leb a b) (leb b a) e) in
    let g : b ≤ a = leb-true b a (and_right (leb a b) (leb b a) e) in
    ap pos (let h : a ≡ b = omega arith in h)
same_z-eq (pos a) (negsuc b) e = absurd (true≢false (sym e))
same_z-eq (negsuc a) (pos b) e = absurd (true≢false (sym e))
same_z-eq (negsuc a) (negsuc b) e =
    let f : b ≤ a = leb-true b a (and_left (leb b a) (leb a b) e) in
    let g : a ≤ b = leb-true a b (and_right (leb b a) (leb a b) e) in
    ap negsuc (let h : a ≡ b = omega arith in h)

pub same-sym : (x y : List ℤ) → same_kinds x y ≡ same_kinds y x
unfolding same_kinds
same-sym [] [] = refl
same-sym [] (y ∷ ys) = refl
same-sym (x ∷ xs) [] = refl
same-sym (x ∷ xs) (y ∷ ys) = ap (λ (t : Bool). t && same_kinds xs ys) (and-sym (le_z x y) (le_z y x)) ∙ ap (λ (t : Bool). same_z y x && t) (same-sym xs ys)

pub same-eq : (x y : List ℤ) → same_kinds x y ≡ true → x ≡ y
unfolding same_kinds
same-eq [] [] e = refl
same-eq [] (y ∷ ys) e = absurd (true≢false (sym e))
same-eq (x ∷ xs) [] e = absurd (true≢false (sym e))
same-eq (x ∷ xs) (y ∷ ys) e =
    ap (λ (z : ℤ). z ∷ xs) (same_z-eq x y (and_left (same_z x y) (same_kinds xs ys) e))
    ∙ ap (λ (l : List ℤ). y ∷ l) (same-eq xs ys (and_right (same_z x y) (same_kinds xs ys) e))

-- a choice by sameness: where it is true the two are one
pub by-same : {A : Type 0} (x y : List ℤ) (f : List ℤ → A) (z : A) → cond (same_kinds x y) (f x) z ≡ cond (same_kinds x y) (f y) z
by-same {A} x y f z = go (same_kinds x y) refl
  where
    go : (t : Bool) → same_kinds x y ≡ t → cond t (f x) z ≡ cond t (f y) z
    go true e = ap f (same-eq x y e)
    go false e = refl
