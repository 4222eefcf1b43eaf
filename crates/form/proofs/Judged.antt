-- The flat form is well-formed just where the nested one is judged right, and leaves the same kinds.
use mathlib.Core.Path.{◌≡◌, refl, sym, ap, ◌∙◌}
use mathlib.Core.Bool.{Bool, true, false, cond}
use mathlib.Core.List.{List, [], ◌∷◌, ◌++◌, append_assoc, append-nil}
use Prim.Native.Nat.{ℕ, suc, ◌+◌}
use native.Mathlib.Omega.{arith}
use lib.IntN.{ℤ, pos}
use lib.ListN.{length, length-append}
use Rattle.stack.specs.Stack.{same_kinds}
use Rattle.stack.specs.Programs.{Op, Code, done, act, when, either}
use Rattle.stack.specs.Judging.{typed, tested, Judged, fits, wrong, then_j, alike, when_kinds, either_kinds, judged}
use Rattle.stack.specs.Flat.{word_of, counts_of, words_of, when_words, either_words, flat, Item, op, item_of}
use Rattle.form.specs.Paths.{Place, unmet, met, Places, at, ill, onto, comes, then_p, leaves, width_of, checks}
use Rattle.stack.proofs.Runs.{op-read, unless-read, jump-read}
use Rattle.stack.proofs.Same.{same-eq, by-same}
use Rattle.form.proofs.Places.{kept, unmets, spaced, comes_p, comes-swap, comes-spaced, spaced-add}

-- ---- judgements in a row

pub then_same : (m : Judged) (f g : List ℤ → Judged) → ((k : List ℤ) → f k ≡ g k) → then_j m f ≡ then_j m g
then_same (fits k) f g e = e k
then_same wrong f g e = refl

pub then-then : (m : Judged) (f g : List ℤ → Judged) → then_j (then_j m f) g ≡ then_j m (λ k. then_j (f k) g)
then-then (fits k) f g = refl
then-then wrong f g = refl

then-wrong : (m : Judged) → then_j m (λ k. wrong) ≡ wrong
then-wrong (fits k) = refl
then-wrong wrong = refl

-- ---- words

pub checks-ill : (l : List ℤ) (n : ℕ) → checks l n ill ≡ wrong
unfolding checks
checks-ill [] n = refl
checks-ill (w ∷ ws) n = refl

-- the later words of an item are passed
pass : (x l : List ℤ) (P : Places) → checks (x ++ l) (length x) (spaced (length x) P) ≡ checks l 0 P
unfolding checks unmets
pass x l ill = checks-ill (x ++ l) (length x) ∙ sym (checks-ill l 0)
pass [] l (at ps) = refl
pass (w ∷ ws) l (at ps) = pass ws l (at ps)

-- the kinds with which an item is come to are those of its place
module _ (w : ℤ) (x l : List ℤ) where
  op-by : (t : Judged) (ps : List Place) → checks (x ++ l) (length x) (elim t [ fits js ↦ comes js (length x) (unmets (length x) ps) | wrong ↦ ill ]) ≡ then_j t (λ js. checks l 0 (comes js 0 ps))
  op-by (fits js) ps =
      ap (λ (n : ℕ). checks (x ++ l) (length x) (comes js n (unmets (length x) ps))) (let e : length x ≡ length x + 0 = omega arith in e)
      ∙ (ap (checks (x ++ l) (length x)) (comes-spaced js (length x) 0 (at ps)) ∙ pass x l (comes js 0 ps))
  op-by wrong ps = checks-ill (x ++ l) (length x)

  pub op-check : (o : Op) → item_of (w ∷ (x ++ l)) ≡ op o (length x) → (ks : List ℤ) (P : Places) → checks (w ∷ (x ++ l)) 0 (comes_p ks 0 (spaced (suc (length x)) P)) ≡ then_j (typed o ks) (λ js. checks l 0 (comes_p js 0 P))
  unfolding checks unmets comes
  op-check o e ks ill = sym (then_same (typed o ks) _ (λ k. wrong) (λ j. checks-ill l 0) ∙ then-wrong (typed o ks))
  op-check o e ks (at ps) =
      ap (λ (i : Item). checks (x ++ l) (width_of i) (leaves i ks (unmets (length x) ps))) e ∙ op-by (typed o ks) ps

pub ops-check : (o : Op) (l : List ℤ) (ks : List ℤ) (P : Places) → checks (words_of o ++ l) 0 (comes_p ks 0 (spaced (length (words_of o)) P)) ≡ then_j (typed o ks) (λ js. checks l 0 (comes_p js 0 P))
ops-check o l ks P = op-check (pos (word_of o)) (counts_of o) l o (op-read o l) ks P

onto-pass : (w : ℤ) (l : List ℤ) (P : Places) → checks (w ∷ l) 1 (onto unmet P) ≡ checks l 0 P
unfolding checks
onto-pass w l ill = sym (checks-ill l 0)
onto-pass w l (at ps) = refl

onto-comes : (ks : List ℤ) (k : ℕ) (P : Places) → then_p (onto unmet P) (comes ks (1 + k)) ≡ onto unmet (comes_p ks k P)
unfolding comes
onto-comes ks k ill = refl
onto-comes ks k (at ps) = ap (λ (j : ℕ). comes ks j (unmet ∷ ps)) (let e : 1 + k ≡ suc k = omega arith in e)

unless-by : (k : ℕ) (l : List ℤ) (t : Judged) (ps : List Place) → checks (pos k ∷ l) 1 (elim t [ fits js ↦ then_p (comes js 1 (unmet ∷ ps)) (comes js (1 + k)) | wrong ↦ ill ]) ≡ then_j t (λ js. checks l 0 (comes_p js k (comes js 0 ps)))
unfolding comes
unless-by k l (fits js) ps = ap (checks (pos k ∷ l) 1) (onto-comes js k (comes js 0 ps)) ∙ onto-pass (pos k) l (comes_p js k (comes js 0 ps))
unless-by k l wrong ps = checks-ill (pos k ∷ l) 1

pub unless-check : (k : ℕ) (l : List ℤ) (ks : List ℤ) (P : Places) → checks (pos 5 ∷ pos k ∷ l) 0 (comes_p ks 0 (spaced 2 P)) ≡ then_j (tested ks) (λ js. checks l 0 (comes_p js k (comes_p js 0 P)))
unfolding checks unmets comes
unless-check k l ks ill = sym (then_same (tested ks) _ (λ k. wrong) (λ j. checks-ill l 0) ∙ then-wrong (tested ks))
unless-check k l ks (at ps) = ap (λ (i : Item). checks (pos k ∷ l) (width_of i) (leaves i ks (unmet ∷ ps))) (unless-read k l) ∙ unless-by k l (tested ks) ps

pub jump-check : (k : ℕ) (l : List ℤ) (ks : List ℤ) (P : Places) → checks (pos 6 ∷ pos k ∷ l) 0 (comes_p ks 0 (spaced 2 P)) ≡ checks l 0 (comes_p ks k P)
unfolding checks unmets comes
jump-check k l ks ill = sym (checks-ill l 0)
jump-check k l ks (at ps) =
    ap (λ (i : Item). checks (pos k ∷ l) (width_of i) (leaves i ks (unmet ∷ ps))) (jump-read k l)
    ∙ (ap (checks (pos k ∷ l) 1) (onto-comes ks k (at ps)) ∙ onto-pass (pos k) l (comes ks k ps))

-- ---- a second path to one place

module _ (k j z : List ℤ) (ps : List Place) where
  again : (t : Bool) → same_kinds k z ≡ t → then_p (kept z ps t) (comes k 0) ≡ kept z ps t
  unfolding comes
  again true e = ap (kept z ps) e
  again false e = refl

  never : (t : Bool) → same_kinds j z ≡ t → same_kinds k j ≡ false → then_p (kept z ps t) (comes k 0) ≡ ill
  unfolding comes
  never true e f = ap (kept z ps) (ap (same_kinds k) (sym (same-eq j z e)) ∙ f)
  never false e f = refl

  met-twice : (t : Bool) → same_kinds k j ≡ t → then_p (kept z ps (same_kinds j z)) (comes k 0) ≡ cond t (kept z ps (same_kinds k z)) ill
  met-twice true e = ap (λ (i : List ℤ). then_p (kept z ps (same_kinds i z)) (comes k 0)) (sym (same-eq k j e)) ∙ again (same_kinds k z) refl
  met-twice false e = never (same_kinds j z) refl e

cond-ill : (t : Bool) → ill ≡ cond t ill ill
cond-ill true = refl
cond-ill false = refl

twice : (k j : List ℤ) (P : Places) → comes_p k 0 (comes_p j 0 P) ≡ cond (same_kinds k j) (comes_p k 0 P) ill
unfolding comes
twice k j ill = cond-ill (same_kinds k j)
twice k j (at []) = cond-ill (same_kinds k j)
twice k j (at (unmet ∷ ps)) = sym (by-same k j (λ i. at (met i ∷ ps)) ill)
twice k j (at (met z ∷ ps)) = met-twice k j z ps (same_kinds k j) refl

alike-by : (l : List ℤ) (k : List ℤ) (P : Places) (t : Bool) → checks l 0 (cond t (comes_p k 0 P) ill) ≡ then_j (cond t (fits k) wrong) (λ i. checks l 0 (comes_p i 0 P))
alike-by l k P true = refl
alike-by l k P false = checks-ill l 0

alike-check : (l : List ℤ) (k j : List ℤ) (P : Places) → checks l 0 (comes_p k 0 (comes_p j 0 P)) ≡ then_j (alike k j) (λ i. checks l 0 (comes_p i 0 P))
alike-check l k j P = ap (checks l 0) (twice k j P) ∙ alike-by l k P (same_kinds k j)

-- ---- words that are judged as f, wherever they stand

abbrev pub Checks : List ℤ → (List ℤ → Judged) → Type 0
Checks x f = (l : List ℤ) (ks : List ℤ) (P : Places) → checks (x ++ l) 0 (comes_p ks 0 (spaced (length x) P)) ≡ then_j (f ks) (λ js. checks l 0 (comes_p js 0 P))

seq-check : (x y : List ℤ) (f g : List ℤ → Judged) → Checks x f → Checks y g → Checks (x ++ y) (λ k. then_j (f k) g)
seq-check x y f g d e l ks P =
    ap (λ (z : List ℤ). checks z 0 (comes_p ks 0 (spaced (length (x ++ y)) P))) (append_assoc x y l)
    ∙ (ap (λ (Q : Places). checks (x ++ (y ++ l)) 0 (comes_p ks 0 Q)) (ap (λ (n : ℕ). spaced n P) (length-append x y) ∙ spaced-add (length x) (length y) P)
    ∙ (d (y ++ l) ks (spaced (length y) P)
    ∙ (then_same (f ks) _ (λ k. then_j (g k) (λ js. checks l 0 (comes_p js 0 P))) (λ k. e l k P) ∙ sym (then-then (f ks) g _))))

-- two paths, put in the order in which their words come
fork : (i j : List ℤ) (n d : ℕ) (P : Places) → comes_p i (n + d) (comes_p j 0 (spaced n P)) ≡ comes_p j 0 (spaced n (comes_p i d P))
fork i j n d P = comes-swap j i 0 (n + d) (spaced n P) ∙ ap (comes_p j 0) (comes-spaced i n d P)

fork0 : (i j : List ℤ) (n : ℕ) (P : Places) → comes_p i n (comes_p j 0 (spaced n P)) ≡ comes_p j 0 (spaced n (comes_p i 0 P))
fork0 i j n P = ap (λ (m : ℕ). comes_p i m (comes_p j 0 (spaced n P))) (let e : n ≡ n + 0 = omega arith in e) ∙ fork i j n 0 P

spaced-two : (n : ℕ) (P : Places) → spaced (suc (suc n)) P ≡ spaced 2 (spaced n P)
unfolding unmets
spaced-two n ill = refl
spaced-two n (at ps) = refl

module _ (l : List ℤ) (P : Places) where
  abbrev K : List ℤ → Judged
  K js = checks l 0 (comes_p js 0 P)

  when-in : (x : List ℤ) (f : List ℤ → Judged) → Checks x f → (js : List ℤ) → checks (x ++ l) 0 (comes_p js (length x) (comes_p js 0 (spaced (length x) P))) ≡ then_j (then_j (f js) (λ k₁. alike k₁ js)) K
  when-in x f d js =
      ap (checks (x ++ l) 0) (fork0 js js (length x) P)
      ∙ (d l js (comes_p js 0 P)
      ∙ (then_same (f js) _ (λ k₁. then_j (alike k₁ js) K) (λ k₁. alike-check l k₁ js P) ∙ sym (then-then (f js) (λ k₁. alike k₁ js) K)))

  else-in : (y : List ℤ) (g : List ℤ → Judged) → Checks y g → (js k₁ : List ℤ) → checks (pos 6 ∷ pos (length y) ∷ (y ++ l)) 0 (comes_p k₁ 0 (spaced 2 (comes_p js 0 (spaced (length y) P)))) ≡ then_j (then_j (g js) (λ k₂. alike k₂ k₁)) K
  else-in y g e js k₁ =
      jump-check (length y) (y ++ l) k₁ (comes_p js 0 (spaced (length y) P))
      ∙ (ap (checks (y ++ l) 0) (fork0 k₁ js (length y) P)
      ∙ (e l js (comes_p k₁ 0 P)
      ∙ (then_same (g js) _ (λ k₂. then_j (alike k₂ k₁) K) (λ k₂. alike-check l k₂ k₁ P) ∙ sym (then-then (g js) (λ k₂. alike k₂ k₁) K))))

  either-in : (x y : List ℤ) (f g : List ℤ → Judged) → Checks x f → Checks y g → (js : List ℤ) → checks (x ++ (pos 6 ∷ pos (length y) ∷ (y ++ l))) 0 (comes_p js (length x + 2) (comes_p js 0 (spaced (length x) (spaced 2 (spaced (length y) P))))) ≡ then_j (then_j (f js) (λ k₁. then_j (g js) (λ k₂. alike k₂ k₁))) K
  either-in x y f g d e js =
      ap (checks (x ++ (pos 6 ∷ pos (length y) ∷ (y ++ l))) 0)
      (fork js js (length x) 2 (spaced 2 (spaced (length y) P)) ∙ ap (λ (Q : Places). comes_p js 0 (spaced (length x) Q)) (comes-spaced js 2 0 (spaced (length y) P)))
      ∙ (d (pos 6 ∷ pos (length y) ∷ (y ++ l)) js (spaced 2 (comes_p js 0 (spaced (length y) P)))
      ∙ (then_same (f js) _ (λ k₁. then_j (then_j (g js) (λ k₂. alike k₂ k₁)) K) (λ k₁. else-in y g e js k₁)
      ∙ sym (then-then (f js) (λ k₁. then_j (g js) (λ k₂. alike k₂ k₁)) K)))

when-check : (x : List ℤ) (f : List ℤ → Judged) → Checks x f → Checks (when_words x) (when_kinds f)
when-check x f d l ks P =
    ap (λ (Q : Places). checks (when_words x ++ l) 0 (comes_p ks 0 Q)) (spaced-two (length x) P)
    ∙ (unless-check (length x) (x ++ l) ks (spaced (length x) P)
    ∙ (then_same (tested ks) _ (λ js. then_j (then_j (f js) (λ k₁. alike k₁ js)) (K l P)) (when-in l P x f d)
    ∙ sym (then-then (tested ks) (λ js. then_j (f js) (λ k₁. alike k₁ js)) (K l P))))

either_room : (x y : List ℤ) (P : Places) → spaced (length (either_words x y)) P ≡ spaced 2 (spaced (length x) (spaced 2 (spaced (length y) P)))
either_room x y P =
    spaced-two (length (x ++ (pos 6 ∷ pos (length y) ∷ y))) P
    ∙ ap (spaced 2) (ap (λ (n : ℕ). spaced n P) (length-append x (pos 6 ∷ pos (length y) ∷ y))
    ∙ (spaced-add (length x) (suc (suc (length y))) P ∙ ap (spaced (length x)) (spaced-two (length y) P)))

either-check : (x y : List ℤ) (f g : List ℤ → Judged) → Checks x f → Checks y g → Checks (either_words x y) (either_kinds f g)
either-check x y f g d e l ks P =
    ap (λ (Q : Places). checks (either_words x y ++ l) 0 (comes_p ks 0 Q)) (either_room x y P)
    ∙ (ap (λ (z : List ℤ). checks (pos 5 ∷ pos (length x + 2) ∷ z) 0 (comes_p ks 0 (spaced 2 (spaced (length x) (spaced 2 (spaced (length y) P)))))) (append_assoc x (pos 6 ∷ pos (length y) ∷ y) l)
    ∙ (unless-check (length x + 2) _ ks (spaced (length x) (spaced 2 (spaced (length y) P)))
    ∙ (then_same (tested ks) _ (λ js. then_j (then_j (f js) (λ k₁. then_j (g js) (λ k₂. alike k₂ k₁))) (K l P)) (either-in l P x y f g d e)
    ∙ sym (then-then (tested ks) (λ js. then_j (f js) (λ k₁. then_j (g js) (λ k₂. alike k₂ k₁))) (K l P)))))

none-check : Checks [] fits
unfolding unmets
none-check l ks ill = refl
none-check l ks (at ps) = refl

pub flat-check : (c : Code) → Checks (flat c) (judged c)
unfolding flat judged
flat-check done = none-check
flat-check (act o c) = seq-check (words_of o) (flat c) (typed o) (judged c) (ops-check o) (flat-check c)
flat-check (when b c) = seq-check (when_words (flat b)) (flat c) (when_kinds (judged b)) (judged c) (when-check (flat b) (judged b) (flat-check b)) (flat-check c)
flat-check (either a b c) = seq-check (either_words (flat a) (flat b)) (flat c) (either_kinds (judged a) (judged b)) (judged c) (either-check (flat a) (flat b) (judged a) (judged b) (flat-check a) (flat-check b)) (flat-check c)

then-fits : (j : Judged) → then_j j fits ≡ j
then-fits (fits k) = refl
then-fits wrong = refl

-- a program's words, of a stack of these kinds: one place for each word and one for the end
pub flat-judged : (c : Code) (ks : List ℤ) → checks (flat c) 0 (comes_p ks 0 (at (unmets (length (flat c)) (unmet ∷ [])))) ≡ judged c ks
unfolding checks comes
flat-judged c ks =
    ap (λ (x : List ℤ). checks x 0 (comes_p ks 0 (at (unmets (length (flat c)) (unmet ∷ []))))) (sym (append-nil (flat c)))
    ∙ (flat-check c [] ks (at (unmet ∷ [])) ∙ then-fits (judged c ks))
