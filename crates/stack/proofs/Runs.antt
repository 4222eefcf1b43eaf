-- Running the flat form is running the nested one, for every program and every stack.
use mathlib.Core.Path.{◌≡◌, refl, sym, ap, ◌∙◌}
use mathlib.Core.Bool.{Bool, true, false, cond}
use mathlib.Core.List.{List, [], ◌∷◌, ◌++◌, append_assoc, append-nil}
use Prim.Native.Nat.{ℕ, zero, suc, ◌+◌, ◌-◌, ◌≤◌, ◌<◌}
use native.Mathlib.Omega.{arith}
use lib.IntN.{ℤ, pos}
use lib.Dec.{ltb}
use lib.ListN.{length, drop, take, length-drop, drop_of_length-le}
use lib.Seq.{drop-append-add, drop-append_seam, drop-drop, take_all}
use native.Mathlib.Nat.{le_refl}
use borrow.Author.Tests.{le-ltb}
use Rattle.stack.specs.Programs.{add, sub, mul, equal, unequal, above, at_least, below, at_most, both, any, sum, test, join, neg, abs, nay, Op, number, copy, index, roll, two, one, constant, pop, exch, dup, Code, done, act, when, either}
use Rattle.stack.specs.Operators.{applied}
use Rattle.stack.specs.Meaning.{holds, when_done, either_done, ran}
use Rattle.stack.specs.Meant.{item_meant}
use Rattle.stack.specs.declared.items.Item as I
use Rattle.stack.specs.declared.items.Item.TheVariants as IV
use Rattle.stack.specs.Flat.{word_of, counts_of, words_of, when_words, either_words, flat, Item, op, unless, jump, none, two_by, one_by, plain_by, op_by, code_of, item_by, item_of, goes, runs, move_of, after_item}

-- words that are passed over are dropped
pub go-drop : (l : List ℤ) (k : ℕ) (s : List ℤ) → goes l k s ≡ runs (drop k l) s
unfolding goes
go-drop [] zero s = refl
go-drop [] (suc k) s = refl
go-drop (w ∷ ws) zero s = refl
go-drop (w ∷ ws) (suc k) s = go-drop ws k s

-- what an item does
abbrev pub does : Item → List ℤ → List ℤ → List ℤ
does (op o n) ws s = runs (drop n ws) (applied o s)
does (unless k) ws s = runs (drop (cond (holds s) 1 (1 + k)) ws) (drop 1 s)
does (jump k) ws s = runs (drop (1 + k) ws) s
does none ws s = s

does-is : (i : Item) (ws s : List ℤ) → elim i [ op o n ↦ goes ws n (applied o s) | unless k ↦ goes ws (cond (holds s) 1 (1 + k)) (drop 1 s) | jump k ↦ goes ws (1 + k) s | none ↦ s ] ≡ does i ws s
does-is (op o n) ws s = go-drop ws n (applied o s)
does-is (unless k) ws s = go-drop ws (cond (holds s) 1 (1 + k)) (drop 1 s)
does-is (jump k) ws s = go-drop ws (1 + k) s
does-is none ws s = refl

-- a run is its first item's deed
pub runs-item : (w : ℤ) (ws s : List ℤ) → runs (w ∷ ws) s ≡ does (item_of (w ∷ ws)) ws s
unfolding goes
runs-item w ws s = does-is (item_of (w ∷ ws)) ws s

pub there : (m n : ℕ) → ltb (m + n) m ≡ false
there m n = let h : m ≤ m + n = omega arith in le-ltb _ _ h

pub one-there : (n : ℕ) → ltb (suc n) 1 ≡ false
one-there n = let h : 1 ≤ suc n = omega arith in le-ltb _ _ h

pub two-there : (n : ℕ) → ltb (suc (suc n)) 2 ≡ false
two-there n = let h : 2 ≤ suc (suc n) = omega arith in le-ltb _ _ h

pub three-there : (n : ℕ) → ltb (suc (suc (suc n))) 3 ≡ false
three-there n = let h : 3 ≤ suc (suc (suc n)) = omega arith in le-ltb _ _ h

-- an operator's words read as that operator
pub op-read : (o : Op) (l : List ℤ) → item_of (words_of o ++ l) ≡ op o (length (counts_of o))
unfolding item_by code_of op_by plain_by two_by one_by
op-read (number z) l = simp (two-there (length l))
op-read (copy z) l = simp (two-there (length l))
op-read (index z) l = simp (two-there (length l))
op-read (roll n j) l = simp (three-there (length l))
op-read (two (sum add)) l = simp (one-there (length l))
op-read (two (sum sub)) l = simp (one-there (length l))
op-read (two (sum mul)) l = simp (one-there (length l))
op-read (two (test equal)) l = simp (one-there (length l))
op-read (two (test unequal)) l = simp (one-there (length l))
op-read (two (test above)) l = simp (one-there (length l))
op-read (two (test at_least)) l = simp (one-there (length l))
op-read (two (test below)) l = simp (one-there (length l))
op-read (two (test at_most)) l = simp (one-there (length l))
op-read (two (join both)) l = simp (one-there (length l))
op-read (two (join any)) l = simp (one-there (length l))
op-read (one neg) l = simp (one-there (length l))
op-read (one abs) l = simp (one-there (length l))
op-read (one nay) l = simp (one-there (length l))
op-read (constant true) l = simp (one-there (length l))
op-read (constant false) l = simp (one-there (length l))
op-read pop l = simp (one-there (length l))
op-read exch l = simp (one-there (length l))
op-read dup l = simp (one-there (length l))

pub unless-read : (k : ℕ) (l : List ℤ) → item_of (pos 5 ∷ pos k ∷ l) ≡ unless k
unfolding item_by code_of
unless-read k l = simp (two-there (length l))

pub jump-read : (k : ℕ) (l : List ℤ) → item_of (pos 6 ∷ pos k ∷ l) ≡ jump k
unfolding item_by code_of
jump-read k l = simp (two-there (length l))

-- so running its words applies it
pub op-run : (o : Op) (l s : List ℤ) → runs (words_of o ++ l) s ≡ runs l (applied o s)
op-run o l s =
    runs-item (pos (word_of o)) (counts_of o ++ l) s
    ∙ (ap (λ (i : Item). does i (counts_of o ++ l) s) (op-read o l) ∙ ap (λ (x : List ℤ). runs x (applied o s)) (drop-append_seam (counts_of o) l))

pub unless-run : (k : ℕ) (l s : List ℤ) → runs (pos 5 ∷ pos k ∷ l) s ≡ runs (drop (cond (holds s) 0 k) l) (drop 1 s)
unless-run k l s = runs-item _ _ s ∙ (ap (λ (i : Item). does i (pos k ∷ l) s) (unless-read k l) ∙ by-test (holds s))
  where
    by-test : (t : Bool) → runs (drop (cond t 1 (1 + k)) (pos k ∷ l)) (drop 1 s) ≡ runs (drop (cond t 0 k) l) (drop 1 s)
    by-test true = refl
    by-test false = ap (λ (j : ℕ). runs (drop j (pos k ∷ l)) (drop 1 s)) (let e : 1 + k ≡ suc k = omega arith in e)

pub jump-run : (k : ℕ) (l s : List ℤ) → runs (pos 6 ∷ pos k ∷ l) s ≡ runs (drop k l) s
jump-run k l s =
    runs-item _ _ s ∙ (ap (λ (i : Item). does i (pos k ∷ l) s) (jump-read k l) ∙ ap (λ (j : ℕ). runs (drop j (pos k ∷ l)) s) (let e : 1 + k ≡ suc k = omega arith in e))

-- words that do f, wherever they stand
abbrev pub Does : List ℤ → (List ℤ → List ℤ) → Type 0
Does x f = (l s : List ℤ) → runs (x ++ l) s ≡ runs l (f s)

when-by : (t : Bool) (x l s : List ℤ) (f : List ℤ → List ℤ) → Does x f → runs (drop (cond t 0 (length x)) (x ++ l)) s ≡ runs l (cond t (f s) s)
when-by true x l s f d = d l s
when-by false x l s f d = ap (λ (y : List ℤ). runs y s) (drop-append_seam x l)

seq-run : (x y : List ℤ) (f g : List ℤ → List ℤ) → Does x f → Does y g → Does (x ++ y) (λ s. g (f s))
seq-run x y f g d e l s = ap (λ (z : List ℤ). runs z s) (append_assoc x y l) ∙ (d (y ++ l) s ∙ e l (f s))

when-run : (x : List ℤ) (f : List ℤ → List ℤ) → Does x f → Does (when_words x) (when_done f)
when-run x f d l s = unless-run (length x) (x ++ l) s ∙ when-by (holds s) x l (drop 1 s) f d

either-by : (t : Bool) (x y l s : List ℤ) (f g : List ℤ → List ℤ) → Does x f → Does y g → runs (drop (cond t 0 (length x + 2)) (x ++ (pos 6 ∷ pos (length y) ∷ (y ++ l)))) s ≡ runs l (cond t (f s) (g s))
either-by true x y l s f g d e = d _ s ∙ (jump-run (length y) (y ++ l) (f s) ∙ ap (λ (z : List ℤ). runs z (f s)) (drop-append_seam y l))
either-by false x y l s f g d e = ap (λ (z : List ℤ). runs z s) (drop-append-add x (pos 6 ∷ pos (length y) ∷ (y ++ l)) 2) ∙ e l s

either-run : (x y : List ℤ) (f g : List ℤ → List ℤ) → Does x f → Does y g → Does (either_words x y) (either_done f g)
either-run x y f g d e l s =
    ap (λ (z : List ℤ). runs (pos 5 ∷ pos (length x + 2) ∷ z) s) (append_assoc x (pos 6 ∷ pos (length y) ∷ y) l)
    ∙ (unless-run (length x + 2) _ s ∙ either-by (holds s) x y l (drop 1 s) f g d e)

-- the heart: the flat form in front of any words
pub flat-run : (c : Code) → Does (flat c) (ran c)
unfolding flat ran
flat-run done = λ l s. refl
flat-run (act o c) = seq-run (words_of o) (flat c) (applied o) (ran c) (op-run o) (flat-run c)
flat-run (when b c) = seq-run (when_words (flat b)) (flat c) (when_done (ran b)) (ran c) (when-run (flat b) (ran b) (flat-run b)) (flat-run c)
flat-run (either a b c) = seq-run (either_words (flat a) (flat b)) (flat c) (either_done (ran a) (ran b)) (ran c) (either-run (flat a) (flat b) (ran a) (ran b) (flat-run a) (flat-run b)) (flat-run c)

pub flat-is-nested : (c : Code) (s : List ℤ) → runs (flat c) s ≡ ran c s
unfolding goes
flat-is-nested c s = ap (λ (x : List ℤ). runs x s) (sym (append-nil (flat c))) ∙ flat-run c [] s

-- ---- the loop's turn

does_move : (i : Item) (w : ℤ) (ws s : List ℤ) → (i ≡ none → ⊥) → does i ws s ≡ runs (drop (move_of i (holds s)) (w ∷ ws)) (after_item i s)
does_move (op o n) w ws s ne = refl
does_move (unless k) w ws s ne = refl
does_move (jump k) w ws s ne = refl
does_move none w ws s ne = absurd (ne refl)

runs-move : (l s : List ℤ) {i : Item} → item_of l ≡ i → (i ≡ none → ⊥) → runs l s ≡ runs (drop (move_of i (holds s)) l) (after_item i s)
unfolding item_by code_of
runs-move [] s e ne = absurd (ne (sym e))
runs-move (w ∷ ws) s {i} e ne = runs-item w ws s ∙ (ap (λ (i : Item). does i ws s) e ∙ does_move i w ws s ne)

runs-stop : (l s : List ℤ) → item_of l ≡ none → s ≡ runs l s
unfolding goes
runs-stop [] s e = refl
runs-stop (w ∷ ws) s e = sym (runs-item w ws s ∙ ap (λ (i : Item). does i ws s) e)

pub runs_none : (s : List ℤ) → runs [] s ≡ s
unfolding goes
runs_none s = refl

pub part-is : (ws : List ℤ) (at : ℕ) → take (length ws - at) (drop at ws) ≡ drop at ws
part-is ws at = take_all (length ws - at) (drop at ws) (rw length-drop (le_refl _))

-- what the code reads is an item
pub meant_there : (x : I.Item) → item_meant x ≡ none → ⊥
meant_there (IV.Op o) e = cc
meant_there (IV.Unless n) e = cc
meant_there (IV.Jump n) e = cc

-- a turn that read i of the words from `at` on
module _ (ws : List ℤ) (at : ℕ) (s : List ℤ) {i : Item} (i-is : item_of (take (length ws - at) (drop at ws)) ≡ i) where
  i-plain : item_of (drop at ws) ≡ i
  i-plain = sym (ap item_of (part-is ws at)) ∙ i-is

  pub turn-stops : i ≡ none → s ≡ runs (drop at ws) s
  turn-stops e = runs-stop (drop at ws) s (i-plain ∙ e)

  module _ (ne : i ≡ none → ⊥) {m : ℕ} {t : Bool} {u : List ℤ} (m-is : m ≡ move_of i t) (t-is : t ≡ holds s) (u-is : u ≡ after_item i s) where
    pub turn-goes : runs (drop (at + m) ws) u ≡ runs (drop at ws) s
    turn-goes =
        ap (λ (l : List ℤ). runs l u) (sym (drop-drop m at ws))
        ∙ ((λ j. runs (drop ((m-is ∙ ap (move_of i) t-is) j) (drop at ws)) (u-is j)) ∙ sym (runs-move (drop at ws) s i-plain ne))

    pub turn-ends : length ws - at < m → u ≡ runs (drop at ws) s
    turn-ends lt = let k : length ws ≤ at + m = omega arith in sym (runs_none u) ∙ (ap (λ (l : List ℤ). runs l u) (sym (drop_of_length-le ws k)) ∙ turn-goes)
