-- The stack in an array: what a store, a pop and a read are of the list.
use mathlib.Core.Path.{◌≡◌, refl, sym, ap, ◌∙◌}
use mathlib.Core.Bool.{cond}
use mathlib.Core.List.{List, [], ◌∷◌, ◌++◌, append_assoc, reverse}
use lib.Dec.{ltb}
use Prim.Native.Nat.{ℕ, zero, suc, ◌+◌, ◌-◌, ◌%◌, ◌≤◌, ◌<◌}
use native.Mathlib.Nat.{mod-lt}
use native.Mathlib.Omega.{arith}
use lib.IntN.{ℤ, pos, negsuc}
use lib.ListN.{length, get_or, set, take, drop, length-append, length-drop, length-take, length-set, take-append-drop, get_or-eq_default, drop_of_length-le}
use lib.Seq.{drop-cons, get_or-take, get_or-append-add, take-nil, take-suc, take-add, take_all, get_or-set_same, get_or-set_other, length-take-le, drop-nil}
use borrow.Rule.Slice.PartMut.{put_mid}
use Rattle.std.specs.List.{slice_rotate_right, swap}
use Rattle.std.specs.Int.{int_rem_euclid}
use Rattle.std.proofs.lemmas.List.{reverse-append, length-reverse, take_at, drop_at}
use Rattle.std.proofs.lemmas.List.Edits.{swap_is}
use Rattle.std.proofs.lemmas.Slice.{take-put_mid}
use borrow.Author.Tests.{le-ltb, lt-ltb, le-leb, lt-leb}
use Rattle.stack.specs.Stack.{pushed, copied, rolled, turns}
use Rattle.fixed.specs.Values.{value}
use Rattle.stack.specs.Memory.{stack_of}

pub stack-length : (a : List ℤ) (h : ℕ) → length (stack_of a h) ≡ h
unfolding stack_of
stack-length a zero = refl
stack-length a (suc h) = ap suc (stack-length a h)

pub stack_set : (a : List ℤ) (h k : ℕ) (x : ℤ) → h ≤ k → stack_of (set a k x) h ≡ stack_of a h
unfolding stack_of
stack_set a zero k x le = refl
stack_set a (suc h) k x le =
    let n : h ≡ k → ⊥ = omega arith in
    let m : h ≤ k = omega arith in
    ap (λ (z : ℤ). z ∷ stack_of (set a k x) h) (get_or-set_other a k h x (pos 0) n) ∙ ap (λ (s : List ℤ). get_or a h (pos 0) ∷ s) (stack_set a h k x m)

pub stack_push : (a : List ℤ) (h : ℕ) (x : ℤ) → h < length a → stack_of (set a h x) (suc h) ≡ x ∷ stack_of a h
unfolding stack_of
stack_push a h x lt =
    let m : h ≤ h = omega arith in
    ap (λ (z : ℤ). z ∷ stack_of (set a h x) h) (get_or-set_same a h x (pos 0) lt) ∙ ap (λ (s : List ℤ). x ∷ s) (stack_set a h h x m)

pub stack-drop : (a : List ℤ) (h n : ℕ) → drop n (stack_of a h) ≡ stack_of a (h - n)
unfolding stack_of
stack-drop a zero n = drop-nil n ∙ ap (stack_of a) (let e : 0 ≡ 0 - n = omega arith in e)
stack-drop a (suc h) zero = ap (stack_of a) (let e : suc h ≡ suc h - 0 = omega arith in e)
stack-drop a (suc h) (suc n) = stack-drop a h n ∙ ap (stack_of a) (let e : h - n ≡ suc h - suc n = omega arith in e)

pub stack-get : (a : List ℤ) (h n : ℕ) → n < h → value (stack_of a h) n ≡ get_or a (h - 1 - n) (pos 0)
unfolding stack_of
stack-get a zero n lt = absurd (omega arith)
stack-get a (suc h) zero lt = ap (λ (k : ℕ). get_or a k (pos 0)) (let e : h ≡ suc h - 1 - 0 = omega arith in e)
stack-get a (suc h) (suc n) lt =
    let m : n < h = omega arith in
    stack-get a h n m ∙ ap (λ (k : ℕ). get_or a k (pos 0)) (let e : h - 1 - n ≡ suc h - 1 - suc n = omega arith in e)

pub stack-past : (a : List ℤ) (h n : ℕ) → h ≤ n → value (stack_of a h) n ≡ pos 0
stack-past a h n le = let k : length (stack_of a h) ≤ n = rw (stack-length a h) le in get_or-eq_default (stack_of a h) (pos 0) k

pub push-is : (a : List ℤ) (h : ℕ) (x y : ℤ) → y ≡ x → h < length a → h < 100 → stack_of (set a h y) (h + 1) ≡ pushed x (stack_of a h)
unfolding pushed
push-is a h x y e lt m =
    let k : length (stack_of a h) < 100 = rw (stack-length a h) m in
    ap (stack_of (set a h y)) (let f : h + 1 ≡ suc h = omega arith in f)
    ∙ (stack_push a h y lt ∙ (ap (λ (z : ℤ). z ∷ stack_of a h) e ∙ simp (lt-ltb (length (stack_of a h)) 100 k)))

pub push-full : (a : List ℤ) (h : ℕ) (x : ℤ) → 100 ≤ h → stack_of a h ≡ pushed x (stack_of a h)
unfolding pushed
push-full a h x m = let k : 100 ≤ length (stack_of a h) = rw (stack-length a h) m in simp (le-ltb (length (stack_of a h)) 100 k)

-- ---- the stack from the array's first h values

pub stack_reverse : (a : List ℤ) (h : ℕ) → h ≤ length a → stack_of a h ≡ reverse (take h a)
unfolding stack_of
stack_reverse a zero le = refl
stack_reverse a (suc h) le =
    let lt : h < length a = omega arith in
    let m : h ≤ length a = omega arith in
    ap (λ (s : List ℤ). get_or a h (pos 0) ∷ s) (stack_reverse a h m)
    ∙ sym (ap reverse (take-suc a h (pos 0) lt) ∙ reverse-append (take h a) (get_or a h (pos 0) ∷ []))

-- the values of a stack, as a slice
pub stack_part : (a : List ℤ) (h : ℕ) → h ≤ length a → stack_of (take h a) (length (take h a)) ≡ stack_of a h
stack_part a h le =
    let n : length (take h a) ≡ h = length-take-le h a le in
    let m : length (take h a) ≤ length (take h a) = omega arith in
    stack_reverse (take h a) (length (take h a)) m ∙ (ap reverse (take_all (length (take h a)) (take h a) m) ∙ sym (stack_reverse a h le))

-- the same where the first h values are known
pub stack_is : (a : List ℤ) (h : ℕ) {xs : List ℤ} → take h a ≡ xs → length xs ≡ h → stack_of a h ≡ reverse xs
stack_is a h {xs} e n =
    let m : h ≤ length a = omega (arith, length-take h a, ap length e) in
    stack_reverse a h m ∙ ap reverse e

-- ---- roll

-- of any values, so of kinds too
pub roll-length : {A : Type 0} (n k : ℕ) (l : List A) → length (drop k (take n l) ++ (take k (take n l) ++ drop n l)) ≡ length l
roll-length n k l =
    let a : length (take k (take n l)) + length (drop k (take n l)) ≡ length (take n l) = sym (length-append (take k (take n l)) (drop k (take n l))) ∙ ap length (take-append-drop k (take n l)) in
    let b : length (take n l) + length (drop n l) ≡ length l = sym (length-append (take n l) (drop n l)) ∙ ap length (take-append-drop n l) in
    let e : length (drop k (take n l)) + (length (take k (take n l)) + length (drop n l)) ≡ length l = omega arith in
    length-append (drop k (take n l)) (take k (take n l) ++ drop n l)
    ∙ (ap (λ (m : ℕ). length (drop k (take n l)) + m) (length-append (take k (take n l)) (drop n l)) ∙ e)

-- below lie p, on them x and y, and y is k values
pub rolled_parts : (n k : ℕ) (p x y : List ℤ) → length x + length y ≡ n → length y ≡ k → reverse (p ++ (y ++ x)) ≡ rolled n k (reverse (p ++ (x ++ y)))
unfolding rolled
rolled_parts n k p x y en ek =
    let ly : length (reverse y) ≡ k = length-reverse y ∙ ek in
    let lt : length (reverse y ++ reverse x) ≡ n = length-append (reverse y) (reverse x) ∙ (let a : length (reverse y) ≡ length y = length-reverse y in let b : length (reverse x) ≡ length x = length-reverse x in omega arith) in
    let old : reverse (p ++ (x ++ y)) ≡ (reverse y ++ reverse x) ++ reverse p = reverse-append p (x ++ y) ∙ ap (λ (s : List ℤ). s ++ reverse p) (reverse-append x y) in
    let le : n ≤ length ((reverse y ++ reverse x) ++ reverse p) = omega (arith, length-append (reverse y ++ reverse x) (reverse p)) in
    reverse-append p (y ++ x)
    ∙ (ap (λ (s : List ℤ). s ++ reverse p) (reverse-append y x)
    ∙ (append_assoc (reverse x) (reverse y) (reverse p)
    ∙ sym (ap (rolled n k) old
    ∙ simp (le-leb n (length ((reverse y ++ reverse x) ++ reverse p)) le)
    ((λ i. drop k (take_at (reverse y ++ reverse x) (reverse p) n lt i) ++ (take k (take_at (reverse y ++ reverse x) (reverse p) n lt i) ++ drop_at (reverse y ++ reverse x) (reverse p) n lt i))
    ∙ (λ i. drop_at (reverse y) (reverse x) k ly i ++ (take_at (reverse y) (reverse x) k ly i ++ reverse p))))))

-- the top n are the part from h - n on, rotated
pub roll_is : (a ys : List ℤ) (h n k : ℕ) → h ≤ length a → n ≤ h → k ≤ n → ys ≡ slice_rotate_right (take (h - (h - n)) (drop (h - n) a)) k
    → stack_of (put_mid (h - n) (h - (h - n)) a ys) h ≡ rolled n k (stack_of a h)
roll_is a ys h n k le hn hk e =
    let lm : length mid ≡ n = length-take-le (h - (h - n)) (drop (h - n) a) (rw length-drop (omega arith)) ∙ (let f : h - (h - n) ≡ n = omega arith in f) in
    let lp : length p ≡ h - n = length-take-le (h - n) a (omega arith) in
    let lx : length x ≡ length mid - k = length-take-le (length mid - k) mid (omega arith) in
    let ly : length y ≡ length mid - (length mid - k) = length-drop (length mid - k) mid in
    let lyx : length ys ≡ n = ap length e ∙ (length-append y x ∙ (let f : length y + length x ≡ n = omega arith in f)) in
    let new : take h (put_mid (h - n) (h - (h - n)) a ys) ≡ p ++ (y ++ x) = take-put_mid (h - n) (h - (h - n)) a ys h (omega arith) (omega arith) ∙ ap (λ (z : List ℤ). p ++ z) e in
    let old : take h a ≡ p ++ (x ++ y) = ap (λ (m : ℕ). take m a) (let f : h ≡ (h - n) + (h - (h - n)) = omega arith in f) ∙ (take-add (h - n) (h - (h - n)) a ∙ ap (λ (z : List ℤ). p ++ z) (sym (take-append-drop (length mid - k) mid))) in
    stack_is _ h new (length-append p (y ++ x) ∙ (let f : length (y ++ x) ≡ n = sym (ap length e) ∙ lyx in let g : length p + length (y ++ x) ≡ h = omega arith in g))
    ∙ (rolled_parts n k p x y (omega arith) (omega arith) ∙ ap (rolled n k) (sym (stack_reverse a h le ∙ ap reverse old)))
  where
    p : List ℤ
    p = take (h - n) a

    mid : List ℤ
    mid = take (h - (h - n)) (drop (h - n) a)

    x : List ℤ
    x = take (length mid - k) mid

    y : List ℤ
    y = drop (length mid - k) mid

-- j modulo n
pub turns_is : (j : ℤ) (n : ℕ) → int_rem_euclid j (pos n) ≡ pos (turns j n)
turns_is (pos j) n = refl
turns_is (negsuc j) n = refl

pub turns_le : (j : ℤ) (n : ℕ) → 0 < n → turns j n ≤ n
turns_le (pos j) n h = let q : j % n < n = mod-lt j h in omega arith
turns_le (negsuc j) n h = omega arith

-- the top two exchanged
pub exchange_is : (a : List ℤ) (h : ℕ) → 2 ≤ h → h ≤ length a → stack_of (swap a (h - 1) (h - 2)) h ≡ rolled 2 1 (stack_of a h)
unfolding stack_of rolled
exchange_is a zero l m = absurd (omega arith)
exchange_is a (suc zero) l m = absurd (omega arith)
exchange_is a (suc (suc g)) l m =
    let i : suc g < length a = omega arith in
    let j : g < length a = omega arith in
    let k : g < length (set a (suc g) (get_or a g (pos 0))) = rw length-set j in
    let up : suc g ≡ g → ⊥ = omega arith in
    let over : g ≤ suc g = omega arith in
    let same : g ≤ g = omega arith in
    let le : 2 ≤ suc (suc (length (stack_of a g))) = omega arith in
    (λ t. stack_of (swap a (let d : suc (suc g) - 1 ≡ suc g = omega arith in d t) (let d : suc (suc g) - 2 ≡ g = omega arith in d t)) (suc (suc g)))
    ∙ (ap (λ (b : List ℤ). stack_of b (suc (suc g))) (sym (swap_is a (suc g) g (pos 0) i j))
    ∙ ((λ t.
    (get_or-set_other (set a (suc g) (get_or a g (pos 0))) g (suc g) (get_or a (suc g) (pos 0)) (pos 0) up ∙ get_or-set_same a (suc g) (get_or a g (pos 0)) (pos 0) i) t
    ∷ get_or-set_same (set a (suc g) (get_or a g (pos 0))) g (get_or a (suc g) (pos 0)) (pos 0) k t
    ∷ (stack_set (set a (suc g) (get_or a g (pos 0))) g g (get_or a (suc g) (pos 0)) same ∙ stack_set a g (suc g) (get_or a g (pos 0)) over) t)
    ∙ simp (le-leb 2 (suc (suc (length (stack_of a g)))) le)))

pub rolled-short : (n k : ℕ) (s : List ℤ) → length s < n → s ≡ rolled n k s
unfolding rolled
rolled-short n k s lt = simp (lt-leb n (length s) lt)

pub rolled-none : (k : ℕ) (s : List ℤ) → s ≡ rolled 0 k s
unfolding rolled
rolled-none k s = let z : 0 ≤ length s = omega arith in simp (le-leb 0 (length s) z) (simp (drop-nil {A = ℤ} k, take-nil {A = ℤ} k))

-- ---- a copy, one value at a time

module _ (n : ℕ) (s : List ℤ) (hn : n ≤ length s) where
  taken : length (take n s) ≡ n
  taken = length-take-le n s hn

  pub copy_start : s ≡ drop (n - 0) (take n s) ++ s
  copy_start = let h : length (take n s) ≤ n - 0 = omega (arith, taken) in sym (ap (λ (l : List ℤ). l ++ s) (drop_of_length-le (take n s) h))

  module _ (room : length s + n ≤ 100) (i : ℕ) (lt : i < n) where
    part : length (drop (n - i) (take n s)) ≡ i
    part = length-drop (n - i) (take n s) ∙ (ap (λ (m : ℕ). m - (n - i)) taken ∙ (let e : n - (n - i) ≡ i = omega arith in e))

    nth : value (drop (n - i) (take n s) ++ s) (n - 1) ≡ value s (n - (i + 1))
    nth =
        ap (value (drop (n - i) (take n s) ++ s)) (let e : n - 1 ≡ length (drop (n - i) (take n s)) + (n - (i + 1)) = omega (arith, part) in e)
        ∙ get_or-append-add (drop (n - i) (take n s)) s (n - (i + 1)) (pos 0)

    next : drop (n - (i + 1)) (take n s) ≡ value s (n - (i + 1)) ∷ drop (n - i) (take n s)
    next =
        let l : n - (i + 1) < length (take n s) = omega (arith, taken) in
        let m : n - (i + 1) < n = omega arith in
        drop-cons (take n s) (n - (i + 1)) (pos 0) l
        ∙ (λ j. get_or-take n s (n - (i + 1)) (pos 0) m j ∷ drop ((let e : suc (n - (i + 1)) ≡ n - i = omega arith in e) j) (take n s))

    pub copy-turn : {t u : List ℤ} → t ≡ drop (n - i) (take n s) ++ s → u ≡ pushed (value t (n - 1)) t → u ≡ drop (n - (i + 1)) (take n s) ++ s
    unfolding pushed
    copy-turn {t} {u} et eu =
        let k : length (drop (n - i) (take n s) ++ s) < 100 = rw length-append (omega (arith, part)) in
        eu ∙ (ap (λ (l : List ℤ). cond (ltb (length l) 100) (value l (n - 1) ∷ l) l) et
        ∙ (simp (lt-ltb (length (drop (n - i) (take n s) ++ s)) 100 k) (ap (λ (z : ℤ). z ∷ (drop (n - i) (take n s) ++ s)) nth ∙ ap (λ (l : List ℤ). l ++ s) (sym next))))

  pub copy-end : length s + n ≤ 100 → (i : ℕ) → n ≤ i → drop (n - i) (take n s) ++ s ≡ copied n s
  unfolding copied
  copy-end room i le = simp (le-leb n (length s) hn, le-leb (length s + n) 100 room) (ap (λ (m : ℕ). drop m (take n s) ++ s) (let e : n - i ≡ 0 = omega arith in e))

pub copy-low : (n : ℕ) (s : List ℤ) → length s < n → s ≡ copied n s
unfolding copied
copy-low n s lt = simp (lt-leb n (length s) lt)

pub copy-full : (n : ℕ) (s : List ℤ) → n ≤ length s → 100 < length s + n → s ≡ copied n s
unfolding copied
copy-full n s le lt = simp (le-leb n (length s) le, lt-leb (length s + n) 100 lt)

-- the top two exchanged, by taking them off and putting them back the other way round
pub exchange-is : (a : List ℤ) (h : ℕ) → 2 ≤ h → h ≤ 100
    → pushed (value (stack_of a h) 1) (pushed (value (stack_of a h) 0) (stack_of a (h - 2))) ≡ rolled 2 1 (stack_of a h)
unfolding stack_of rolled pushed
exchange-is a zero l m = absurd (omega arith)
exchange-is a (suc zero) l m = absurd (omega arith)
exchange-is a (suc (suc g)) l m =
    let e : length (stack_of a g) ≡ g = stack-length a g in
    let lt : length (stack_of a g) < 100 = omega arith in
    let lu : suc (length (stack_of a g)) < 100 = omega arith in
    let le : 2 ≤ suc (suc (length (stack_of a g))) = omega arith in
    let k : suc (suc g) - 2 ≡ g = omega arith in
    rw k (simp (lt-ltb (length (stack_of a g)) 100 lt, lt-ltb (suc (length (stack_of a g))) 100 lu, le-leb 2 (suc (suc (length (stack_of a g)))) le))
