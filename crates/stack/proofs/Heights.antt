-- Nothing that was judged right sticks: the stack has just the height that judging said, at the end of every part.
use mathlib.Core.Path.{◌≡◌, refl, sym, ap, ◌∙◌}
use mathlib.Core.Bool.{Bool, true, false, cond, ◌&&◌}
use mathlib.Core.List.{List, ◌∷◌, ◌++◌}
use Prim.Native.Nat.{ℕ, suc, ◌+◌, ◌-◌, ◌≤◌}
use native.Mathlib.Omega.{arith}
use lib.IntN.{ℤ, pos}
use lib.Dec.{ltb, leb}
use lib.ListN.{length, take, drop, length-append, length-drop}
use lib.Seq.{length-take-le}
use borrow.Author.Tests.{ltb-true, leb-true}
use Rattle.stack.specs.Stack.{most, pushed, unary, binary, copied, rolled, turns, same_z, same_kinds}
use Rattle.fixed.specs.Values.{value, small_of}
use Rattle.stack.specs.Programs.{Op, number, copy, index, roll, two, one, constant, pop, exch, dup, Code, done, act, when, either}
use Rattle.stack.specs.Operators.{acted, applied}
use Rattle.stack.specs.Meaning.{holds, ran, when_done, either_done}
use Rattle.stack.specs.Judging.{Judged, fits, wrong, then_j, alike, tested, fine, when_kinds, either_kinds, typed, judged}
use Rattle.stack.proofs.Same.{same-eq}
use Rattle.stack.proofs.Stacks.{roll-length}

-- what fits is known of the kinds that it fits to
abbrev pub On : (List ℤ → Type 0) → Judged → Type 0
On Q (fits ks) = Q ks
On Q wrong = Unit {0}

pub on-cond : (Q : List ℤ → Type 0) (t : Bool) (j : Judged) → (t ≡ true → On Q j) → On Q (cond t j wrong)
on-cond Q true j f = f refl
on-cond Q false j f = tt

pub on_then : (Q : List ℤ → Type 0) (P : List ℤ → Type 0) (j : Judged) (f : List ℤ → Judged) → On P j → ((k : List ℤ) → P k → On Q (f k)) → On Q (then_j j f)
on_then Q P (fits k) f p g = g k p
on_then Q P wrong f p g = tt

-- the height after an operator, by the height before it: of values and of kinds alike
abbrev up : ℕ → ℕ
up n = cond (ltb n most) (suc n) n

abbrev after : Op → ℕ → ℕ
after (number z) n = up n
after (copy m) n = cond (leb (small_of m) n) (cond (leb (n + small_of m) most) (small_of m + n) n) n
after (index m) n = up n
after (roll m j) n = n
after (two t) n = up (n - 2)
after (one o) n = up (n - 1)
after (constant b) n = up n
after pop n = n - 1
after exch n = n
after dup n = up n

length-cond : (b : Bool) (u v : List ℤ) → length (cond b u v) ≡ cond b (length u) (length v)
length-cond true u v = refl
length-cond false u v = refl

pushed-length : (x : ℤ) (s : List ℤ) → length (pushed x s) ≡ up (length s)
unfolding pushed
pushed-length x s = length-cond (ltb (length s) most) (x ∷ s) s

rolled-same : (n k : ℕ) (s : List ℤ) → length (rolled n k s) ≡ length s
unfolding rolled
rolled-same n k s = length-cond (leb n (length s)) _ s ∙ by (leb n (length s))
  where
    by : (b : Bool) → cond b (length (drop k (take n s) ++ (take k (take n s) ++ drop n s))) (length s) ≡ length s
    by true = roll-length n k s
    by false = refl

copied-length : (n : ℕ) (s : List ℤ) → length (copied n s) ≡ cond (leb n (length s)) (cond (leb (length s + n) most) (n + length s) (length s)) (length s)
unfolding copied
copied-length n s = length-cond (leb n (length s)) _ s ∙ by (leb n (length s)) refl
  where
    by : (b : Bool) → leb n (length s) ≡ b → cond b (length (cond (leb (length s + n) most) (take n s ++ s) s)) (length s) ≡ cond b (cond (leb (length s + n) most) (n + length s) (length s)) (length s)
    by true e =
        let h : n ≤ length s = leb-true n (length s) e in
        length-cond (leb (length s + n) most) (take n s ++ s) s
        ∙ ap (λ (m : ℕ). cond (leb (length s + n) most) m (length s)) (length-append (take n s) s ∙ ap (λ (m : ℕ). m + length s) (length-take-le n s h))
    by false e = refl

pub acted-length : (k : Bool) (o : Op) (s : List ℤ) → length (acted k o s) ≡ after o (length s)
unfolding acted unary binary
acted-length k (number z) s = pushed-length _ s
acted-length k (copy n) s = copied-length (small_of n) s
acted-length k (index n) s = pushed-length _ s
acted-length k (roll n j) s = rolled-same (small_of n) (turns j (small_of n)) s
acted-length k (two t) s = pushed-length _ (drop 2 s) ∙ ap up (length-drop 2 s)
acted-length k (one o) s = pushed-length _ (drop 1 s) ∙ ap up (length-drop 1 s)
acted-length k (constant b) s = pushed-length _ s
acted-length k pop s = length-drop 1 s
acted-length k exch s = rolled-same 2 1 s
acted-length k dup s = pushed-length _ s

up-most : (n : ℕ) → n ≤ most → up n ≤ most
up-most n h = by (ltb n most) refl
  where
    by : (b : Bool) → ltb n most ≡ b → cond b (suc n) n ≤ most
    by true e = ltb-true n most e
    by false e = h

after-most : (o : Op) (n : ℕ) → n ≤ most → after o n ≤ most
after-most (number z) n h = up-most n h
after-most (copy m) n h = by (leb (small_of m) n) (leb (n + small_of m) most) refl
  where
    by : (b c : Bool) → leb (n + small_of m) most ≡ c → cond b (cond c (small_of m + n) n) n ≤ most
    by true true e = let g : n + small_of m ≤ most = leb-true (n + small_of m) most e in omega arith
    by true false e = h
    by false c e = h
after-most (index m) n h = up-most n h
after-most (roll m j) n h = h
after-most (two t) n h = let g : n - 2 ≤ most = omega arith in up-most (n - 2) g
after-most (one o) n h = let g : n - 1 ≤ most = omega arith in up-most (n - 1) g
after-most (constant b) n h = up-most n h
after-most pop n h = omega arith
after-most exch n h = h
after-most dup n h = up-most n h

-- the stack has the height of the kinds, which is no more than the most
abbrev pub High : List ℤ → List ℤ → Type 0
High u js = (length u ≡ length js) × (length js ≤ most)

pub op-high : (o : Op) (s : List ℤ) (ks : List ℤ) → High s ks → On (High (applied o s)) (typed o ks)
unfolding typed
op-high o s ks h = on-cond (High (applied o s)) (fine o ks) (fits (acted true o ks)) (λ t.
    (acted-length false o s ∙ (ap (after o) h.0 ∙ sym (acted-length true o ks)), rw (acted-length true o ks) (after-most o (length ks) h.1)))

-- ---- whole programs

tested-high : (s : List ℤ) (ks : List ℤ) → High s ks → On (High (drop 1 s)) (tested ks)
unfolding tested
tested-high s ks h = on-cond (High (drop 1 s)) (leb 1 (length ks) && same_z (value ks 0) (pos 1)) (fits (drop 1 ks)) (λ t.
    let m : length ks ≤ most = h.1 in
    (length-drop 1 s ∙ (ap (λ (n : ℕ). n - 1) h.0 ∙ sym (length-drop 1 ks)), rw length-drop (omega arith)))

-- kinds that are alike: what either branch left
alike-high : (t : Bool) (u v : List ℤ) (k j : List ℤ) → High u k → High v j → On (High (cond t u v)) (alike k j)
alike-high t u v k j hu hv = on-cond _ (same_kinds k j) (fits k) (λ e. by t e)
  where
    by : (t : Bool) → same_kinds k j ≡ true → High (cond t u v) k
    by true e = hu
    by false e = let q : k ≡ j = same-eq k j e in (hv.0 ∙ ap length (sym q), hu.1)

swap_cond : (t : Bool) (u v : List ℤ) (k j : List ℤ) → High u k → High v j → On (High (cond t v u)) (alike k j)
swap_cond true u v k j hu hv = alike-high false u v k j hu hv
swap_cond false u v k j hu hv = alike-high true u v k j hu hv

abbrev Fine : (List ℤ → List ℤ) → (List ℤ → Judged) → Type 0
Fine f g = (s : List ℤ) (ks : List ℤ) → High s ks → On (High (f s)) (g ks)

when-high : (f : List ℤ → List ℤ) (g : List ℤ → Judged) → Fine f g → Fine (when_done f) (when_kinds g)
when-high f g d s ks h =
    on_then _ (High (drop 1 s)) (tested ks) _ (tested-high s ks h) (λ k₀ h₀.
    on_then _ (High (f (drop 1 s))) (g k₀) _ (d (drop 1 s) k₀ h₀) (λ k₁ h₁. alike-high (holds s) (f (drop 1 s)) (drop 1 s) k₁ k₀ h₁ h₀))

either-high : (f f' : List ℤ → List ℤ) (g g' : List ℤ → Judged) → Fine f g → Fine f' g' → Fine (either_done f f') (either_kinds g g')
either-high f f' g g' d d' s ks h =
    on_then _ (High (drop 1 s)) (tested ks) _ (tested-high s ks h) (λ k₀ h₀.
    on_then _ (High (f (drop 1 s))) (g k₀) _ (d (drop 1 s) k₀ h₀) (λ k₁ h₁.
    on_then _ (High (f' (drop 1 s))) (g' k₀) _ (d' (drop 1 s) k₀ h₀) (λ k₂ h₂. swap_cond (holds s) (f' (drop 1 s)) (f (drop 1 s)) k₂ k₁ h₂ h₁)))

pub code-high : (c : Code) → Fine (ran c) (judged c)
unfolding ran judged
code-high done = λ s ks h. h
code-high (act o c) = λ s ks h. on_then _ (High (applied o s)) (typed o ks) (judged c) (op-high o s ks h) (λ k₁ h₁. code-high c (applied o s) k₁ h₁)
code-high (when b c) = λ s ks h. on_then _ (High (when_done (ran b) s)) (when_kinds (judged b) ks) (judged c) (when-high (ran b) (judged b) (code-high b) s ks h) (λ k₁ h₁. code-high c _ k₁ h₁)
code-high (either a b c) = λ s ks h. on_then _ (High (either_done (ran a) (ran b) s)) (either_kinds (judged a) (judged b) ks) (judged c) (either-high (ran a) (ran b) (judged a) (judged b) (code-high a) (code-high b) s ks h) (λ k₁ h₁. code-high c _ k₁ h₁)
