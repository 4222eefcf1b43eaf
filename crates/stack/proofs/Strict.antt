-- Nothing that judging accepts sticks: where the kinds fit, a run whose values carry their kinds goes through, leaves what the program leaves, and the kinds
-- that judging said. With `code-high` of Heights the values are as many as the kinds, and never more than the stack holds.
use mathlib.Core.Path.{◌≡◌, refl, sym, ap, ◌∙◌}
use mathlib.Core.Bool.{Bool, true, false, cond}
use mathlib.Core.List.{List}
use lib.IntN.{ℤ}
use lib.ListN.{drop}
use Rattle.stack.specs.Stack.{same_kinds}
use Rattle.stack.specs.Programs.{Op, Code, done, act, when, either}
use Rattle.stack.specs.Operators.{acted, applied}
use Rattle.stack.specs.Meaning.{holds, when_done, either_done, ran}
use Rattle.stack.specs.Judging.{Judged, fits, wrong, fine, typed, then_j, tests, tested, when_kinds, either_kinds, judged, Strict, through, stuck, then_s, branches, strictly}
use Rattle.stack.proofs.Same.{same-eq}
use Rattle.stack.proofs.Heights.{On, on-cond, on_then, High, code-high}

-- f, judged by g, never sticks when it is run by t
abbrev pub Smooth : (List ℤ → List ℤ) → (List ℤ → Judged) → (List ℤ → List ℤ → Strict) → Type 0
Smooth f g t = (s ks : List ℤ) → On (λ js. t s ks ≡ through (f s) js) (g ks)

on-map : (P Q : List ℤ → Type 0) (j : Judged) → ((k : List ℤ) → P k → Q k) → On P j → On Q j
on-map P Q (fits k) f p = f k p
on-map P Q wrong f p = tt

then-smooth : (f f' : List ℤ → List ℤ) (g g' : List ℤ → Judged) (t t' : List ℤ → List ℤ → Strict) → Smooth f g t → Smooth f' g' t' → Smooth (λ s. f' (f s)) (λ ks. then_j (g ks) g') (λ s ks. then_s (t s ks) t')
then-smooth f f' g g' t t' d d' s ks =
    on_then _ (λ k. t s ks ≡ through (f s) k) (g ks) g' (d s ks) (λ k e.
    on-map _ _ (g' k) (λ js x. ap (λ (r : Strict). then_s r t') e ∙ x) (d' (f s) k))

op-smooth : (o : Op) (c : Code) (s ks : List ℤ) → Smooth (ran c) (judged c) (strictly c) → On (λ js. cond (fine o ks) (strictly c (acted false o s) (acted true o ks)) stuck ≡ through (ran c (applied o s)) js) (then_j (typed o ks) (judged c))
unfolding typed
op-smooth o c s ks d =
    on_then _ (λ k. (fine o ks ≡ true) × (k ≡ acted true o ks)) (typed o ks) (judged c) (on-cond _ (fine o ks) (fits (acted true o ks)) (λ b. (b, refl))) (λ k e.
    on-map _ _ (judged c k) (λ js x. ap (λ (b : Bool). cond b (strictly c (applied o s) (acted true o ks)) stuck) e.0 ∙ (ap (strictly c (applied o s)) (sym e.1) ∙ x)) (d (applied o s) k))

tested-is : (ks : List ℤ) → On (λ k. (tests ks ≡ true) × (k ≡ drop 1 ks)) (tested ks)
unfolding tested
tested-is ks = on-cond _ (tests ks) (fits (drop 1 ks)) (λ b. (b, refl))

-- what either branch left, of the same kinds
branch : (f f' : List ℤ → List ℤ) (t t' : List ℤ → List ℤ → Strict) (s ks k : List ℤ) → tests ks ≡ true → t (drop 1 s) (drop 1 ks) ≡ through (f (drop 1 s)) k → t' (drop 1 s) (drop 1 ks) ≡ through (f' (drop 1 s)) k → branches t t' s ks ≡ through (either_done f f' s) k
branch f f' t t' s ks k b x y = ap (λ (q : Bool). cond q (cond (holds s) (t (drop 1 s) (drop 1 ks)) (t' (drop 1 s) (drop 1 ks))) stuck) b ∙ by (holds s)
  where
    by : (q : Bool) → cond q (t (drop 1 s) (drop 1 ks)) (t' (drop 1 s) (drop 1 ks)) ≡ through (cond q (f (drop 1 s)) (f' (drop 1 s))) k
    by true = x
    by false = y

when-smooth : (f : List ℤ → List ℤ) (g : List ℤ → Judged) (t : List ℤ → List ℤ → Strict) → Smooth f g t → Smooth (when_done f) (when_kinds g) (branches t through)
when-smooth f g t d s ks =
    on_then _ _ (tested ks) _ (tested-is ks) (λ k₀ e.
    on_then _ (λ k. t (drop 1 s) k₀ ≡ through (f (drop 1 s)) k) (g k₀) _ (d (drop 1 s) k₀) (λ k₁ x.
    on-cond _ (same_kinds k₁ k₀) (fits k₁) (λ q.
    branch f (λ u. u) t through s ks k₁ e.0 (ap (t (drop 1 s)) (sym e.1) ∙ x) (ap (through (drop 1 s)) (sym e.1 ∙ sym (same-eq k₁ k₀ q))))))

either-smooth : (f f' : List ℤ → List ℤ) (g g' : List ℤ → Judged) (t t' : List ℤ → List ℤ → Strict) → Smooth f g t → Smooth f' g' t' → Smooth (either_done f f') (either_kinds g g') (branches t t')
either-smooth f f' g g' t t' d d' s ks =
    on_then _ _ (tested ks) _ (tested-is ks) (λ k₀ e.
    on_then _ (λ k. t (drop 1 s) k₀ ≡ through (f (drop 1 s)) k) (g k₀) _ (d (drop 1 s) k₀) (λ k₁ x.
    on_then _ (λ k. t' (drop 1 s) k₀ ≡ through (f' (drop 1 s)) k) (g' k₀) _ (d' (drop 1 s) k₀) (λ k₂ y.
    on-cond _ (same_kinds k₂ k₁) (fits k₂) (λ q.
    branch f f' t t' s ks k₂ e.0 (ap (t (drop 1 s)) (sym e.1) ∙ (x ∙ ap (through (f (drop 1 s))) (sym (same-eq k₂ k₁ q)))) (ap (t' (drop 1 s)) (sym e.1) ∙ y)))))

code-smooth : (c : Code) → Smooth (ran c) (judged c) (strictly c)
unfolding ran judged strictly
code-smooth done = λ s ks. refl
code-smooth (act o c) = λ s ks. op-smooth o c s ks (code-smooth c)
code-smooth (when b c) = then-smooth (when_done (ran b)) (ran c) (when_kinds (judged b)) (judged c) (branches (strictly b) through) (strictly c) (when-smooth (ran b) (judged b) (strictly b) (code-smooth b)) (code-smooth c)
code-smooth (either a b c) = then-smooth (either_done (ran a) (ran b)) (ran c) (either_kinds (judged a) (judged b)) (judged c) (branches (strictly a) (strictly b)) (strictly c) (either-smooth (ran a) (ran b) (judged a) (judged b) (strictly a) (strictly b) (code-smooth a) (code-smooth b)) (code-smooth c)

on-is : (P : List ℤ → Type 0) (j : Judged) (ks : List ℤ) → j ≡ fits ks → On P j → P ks
on-is P j ks e p = rw e at p

-- a program that fits on a stack of these kinds goes through, and the values that it leaves are as many as the kinds that it leaves
pub nothing-sticks : (c : Code) (s ks js : List ℤ) → High s ks → judged c ks ≡ fits js → (strictly c s ks ≡ through (ran c s) js) × High (ran c s) js
nothing-sticks c s ks js h e = (on-is _ (judged c ks) js e (code-smooth c s ks), on-is (High (ran c s)) (judged c ks) js e (code-high c s ks h))
