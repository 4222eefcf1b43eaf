-- A number is read one figure at a time, and its first figure tells it from a name.
use mathlib.Core.Path.{◌≡◌, refl, ap, ◌∙◌}
use mathlib.Core.Bool.{Bool, true, false, cond, ◌&&◌, ◌||◌}
use mathlib.Core.List.{List, [], ◌∷◌, foldl}
use Prim.Native.Nat.{ℕ, ◌-◌, ◌<◌}
use native.Mathlib.Omega.{arith}
use borrow.Author.Tests.{ne_eqb}
use lib.Dec.{eqb, leb}
use Rattle.std.proofs.lemmas.Bool.{leb-false, le-leb, lt-leb}
use Rattle.std.specs.List.{fold}
use Rattle.lexical.specs.Chars.{decimal}
use Rattle.lexical.specs.Numbers.{none, numeric, number_of, with_figure, with_digit, with_other, after_digit, after_other, after_point, after_sign}
use Rattle.lexical.specs.declared.types.Part.TheVariants.{Keyword}
use Rattle.lexical.specs.declared.types.Number.{Number}

-- the two folds are one
pub fold_is : {A B : Type 0} (f : B → A → B) (b : B) (l : List A) → fold f b l ≡ foldl f b l
fold_is f b [] = refl
fold_is f b (x ∷ l) = fold_is f (f b x) l

-- what a figure makes of a number's part
part-is : (n : Number) (b : ℕ) → (with_figure n b).part ≡ cond (decimal b) (after_digit n.part) (after_other n.part b)
unfolding with_figure with_digit with_other
part-is n b = by (decimal b)
  where
    by : (t : Bool) → (cond t (with_digit n (b - 48)) (with_other n b)).part ≡ cond t (after_digit n.part) (after_other n.part b)
    by true = refl
    by false = refl

-- what is no number stays none
keyword-on : (n : Number) (b : ℕ) → n.part ≡ Keyword → (with_figure n b).part ≡ Keyword
unfolding after_other
keyword-on n b e = part-is n b ∙ rw e (by (decimal b) (eqb b 46) (eqb b 43 || eqb b 45))
  where
    by : (d p s : Bool) → cond d (after_digit Keyword) (cond p (after_point Keyword) (cond s (after_sign Keyword) Keyword)) ≡ Keyword
    by true p s = refl
    by false true s = refl
    by false false true = refl
    by false false false = refl

keyword-stays : (n : Number) (l : List ℕ) → n.part ≡ Keyword → (foldl with_figure n l).part ≡ Keyword
keyword-stays n [] e = e
keyword-stays n (b ∷ l) e = keyword-stays (with_figure n b) l (keyword-on n b e)

-- a number begins with a digit, a point or a sign, which stand from 43 to 57
outside : (b : ℕ) → (leb 43 b && leb b 57) ≡ false → (decimal b || (eqb b 46 || (eqb b 43 || eqb b 45))) ≡ false
outside b h = by (leb 43 b) (leb b 57) refl refl h
  where
    other : (leb 48 b && leb b 57) ≡ false → (b ≡ 46 → ⊥) → (b ≡ 43 → ⊥) → (b ≡ 45 → ⊥) → (decimal b || (eqb b 46 || (eqb b 43 || eqb b 45))) ≡ false
    other d p s m = rw (d, ne_eqb b 46 p, ne_eqb b 43 s, ne_eqb b 45 m) refl

    by : (l u : Bool) → leb 43 b ≡ l → leb b 57 ≡ u → (l && u) ≡ false → (decimal b || (eqb b 46 || (eqb b 43 || eqb b 45))) ≡ false
    by true true e f g = cc
    by true false e f g =
        let q : 57 < b = leb-false b 57 f in
        other (rw (le-leb 48 b (omega arith), f) refl) (λ x. omega arith) (λ x. omega arith) (λ x. omega arith)
    by false u e f g =
        let q : b < 43 = leb-false 43 b e in
        other (rw (lt-leb 48 b (omega arith)) refl) (λ x. omega arith) (λ x. omega arith) (λ x. omega arith)

pub named_only : (b : ℕ) (l : List ℕ) → (leb 43 b && leb b 57) ≡ false → numeric (number_of (b ∷ l)).part ≡ false
unfolding number_of after_other
named_only b l h = ap numeric (keyword-stays (with_figure none b) l (part-is none b ∙ by (decimal b) (eqb b 46) (eqb b 43 || eqb b 45) (outside b h)))
  where
    by : (d p s : Bool) → (d || (p || s)) ≡ false → cond d (after_digit none.part) (cond p (after_point none.part) (cond s (after_sign none.part) Keyword)) ≡ Keyword
    by true p s e = cc
    by false true s e = cc
    by false false true e = cc
    by false false false e = refl

pub named_none : numeric (number_of []).part ≡ false
unfolding number_of
named_none = refl
