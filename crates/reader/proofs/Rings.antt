-- The ring of open spaces: a space that opens, one that gets its name, and the ones around them, which stay.
use mathlib.Core.Path.{◌≡◌, refl, sym, ap, ◌∙◌}
use mathlib.Core.List.{List, [], ◌∷◌, ◌++◌, append_assoc}
use Prim.Native.Nat.{ℕ, zero, suc, ◌+◌, ◌-◌, ◌*◌, ◌%◌, ◌≤◌, ◌<◌}
use native.Mathlib.Omega.{arith}
use mathlib.Core.Logic.{◌⊎◌, inl, inr, ⊎_elim}
use borrow.Author.Tests.{eq-eqb, ne_eqb}
use lib.ListN.{length, get_or, set, take, drop, length-drop, length-set, drop_of_length-le}
use lib.Seq.{sets, sets-eq, take-add, take_at, drop_at, length-take-le, take-suc, get_or-set_same, get_or-set_other, drop-set-lt, drop-set-add, take-set-le, take_all}
use Rattle.fixed.specs.Bytes.{blocks}
use Rattle.fixed.proofs.Stores.{sets-append}
use Rattle.keys.proofs.Masks.{split}
use Rattle.reader.specs.Spaces.{Frame, opened, named, name_of, start_of}
use Rattle.reader.specs.Kept.{ring, before_slot, after_slot, name_at, frame_at, frames_at}

-- a store outside a stretch leaves it
pub stretch-set : (l : List ℕ) (a n i v : ℕ) → (i < a) ⊎ (a + n ≤ i) → take n (drop a (set l i v)) ≡ take n (drop a l)
stretch-set l a n i v =
    ⊎_elim (λ h. ap (take n) (drop-set-lt a l i v h))
    (λ h. let e : a + (i - a) ≡ i = omega arith in
    ap (λ (k : ℕ). take n (drop a (set l k v))) (sym e) ∙ ap (take n) (drop-set-add a l (i - a) v)
    ∙ take-set-le n (drop a l) (i - a) v (omega arith))

-- spaces that do not stand in place y are as they were: y lies g places back, further than they go
module _ (marks names marks' names' : List ℕ) (y : ℕ)
    (h : (x : ℕ) → x < ring → (x ≡ y → ⊥) → frame_at marks' names' x ≡ frame_at marks names x) where
  pub same-frames : (n x g : ℕ) → x < ring → g < ring → n ≤ g → (x ≡ y + g) ⊎ (x + ring ≡ y + g) → frames_at marks' names' x n ≡ frames_at marks names x n
  unfolding frames_at
  same-frames zero x g p r q e = refl
  same-frames (suc n) zero g p r q e =
      let d : 0 + ring ≡ y + g = ⊎_elim (λ z. absurd (omega arith)) (λ z. z) e in
      λ i. h 0 p (λ z. omega arith) i ∷ same-frames n blocks (g - 1) (omega arith) (omega arith) (omega arith) (inl (omega arith)) i
  same-frames (suc n) (suc x) g p r q e =
      λ i. h (suc x) p (λ z. ⊎_elim (λ w. omega arith) (λ w. omega arith) e) i
      ∷ same-frames n x (g - 1) (omega arith) (omega arith) (omega arith) (⊎_elim (λ w. inl (omega arith)) (λ w. inr (omega arith)) e) i

-- the place before the one after
pub after-low : (x : ℕ) → x < blocks → after_slot x ≡ suc x
after-low x h = rw (ne_eqb x blocks (λ e. omega arith)) (let e : x + 1 ≡ suc x = omega arith in e)

pub after_last : (x : ℕ) → x ≡ blocks → after_slot x ≡ 0
after_last x h = rw (eq-eqb x blocks h)

-- how many there are, and the first of them
pub length-frames : (marks names : List ℕ) (x n : ℕ) → length (frames_at marks names x n) ≡ n
unfolding frames_at
length-frames marks names x zero = refl
length-frames marks names x (suc n) = ap suc (length-frames marks names (before_slot x) n)

pub take-frames : (marks names : List ℕ) (k n x : ℕ) → k ≤ n → take k (frames_at marks names x n) ≡ frames_at marks names x k
unfolding frames_at
take-frames marks names zero n x h = refl
take-frames marks names (suc k) zero x h = absurd (omega arith)
take-frames marks names (suc k) (suc n) x h = ap (λ (l : List Frame). frame_at marks names x ∷ l) (take-frames marks names k n (before_slot x) (omega arith))

-- a store at the length of another name leaves a space
module _ (marks names : List ℕ) (at y : ℕ) where
  pub others : (z : ℕ) → z < ring → (z ≡ y → ⊥) → frame_at (set marks y at) (set names (128 * y) 0) z ≡ frame_at marks names z
  others z r d =
      let e : get_or (set names (128 * y) 0) (128 * z) 0 ≡ get_or names (128 * z) 0 = get_or-set_other names (128 * y) (128 * z) 0 0 (λ w. d (omega arith)) in
      let m : get_or names (128 * z) 0 % 128 < 128 = omega arith in
      let side : (128 * y < 128 * z + 1) ⊎ (128 * z + 1 + get_or names (128 * z) 0 % 128 ≤ 128 * y) = ⊎_elim (λ (w : z < y). inr (omega arith)) (λ (w : y ≤ z). inl (omega arith)) (split z y) in
      λ i. record {
        start = get_or-set_other marks y z at 0 d i;
        name = (ap (λ (n : ℕ). take (n % 128) (drop (128 * z + 1) (set names (128 * y) 0))) e
            ∙ stretch-set names (128 * z + 1) (get_or names (128 * z) 0 % 128) (128 * y) 0 side) i;
      }

  pub opens-here : y < length marks → 128 * y < length names → frame_at (set marks y at) (set names (128 * y) 0) y ≡ record { start = at; name = [] }
  opens-here p q =
      let e : get_or (set names (128 * y) 0) (128 * y) 0 ≡ 0 = get_or-set_same names (128 * y) 0 0 q in
      λ i. record {
        start = get_or-set_same marks y at 0 p i;
        name = ap (λ (n : ℕ). take (n % 128) (drop (128 * y + 1) (set names (128 * y) 0))) e i;
      }

-- the spaces before the new one
module _ (marks names : List ℕ) (at : ℕ) where
  before-new : (x y n : ℕ) → x < ring → y < ring → n < ring → (x ≡ y + blocks) ⊎ (x + ring ≡ y + blocks)
      → frames_at (set marks y at) (set names (128 * y) 0) x n ≡ frames_at marks names x n
  before-new x y n p q r e = same-frames marks names (set marks y at) (set names (128 * y) 0) y (others marks names at y) n x blocks p (omega arith) (omega arith) e

  pub new-frame : (x y n : ℕ) → x < ring → y < ring → n < ring → length marks ≡ ring → length names ≡ 128 * ring → y ≡ after_slot x
      → frames_at (set marks y at) (set names (128 * y) 0) y (suc n) ≡ record { start = at; name = [] } ∷ frames_at marks names x n
  unfolding frames_at
  new-frame x zero n p q r l w e =
      let d : x ≡ blocks = ⊎_elim (λ (z : x < blocks). absurd (zero-not-suc x (e ∙ after-low x z))) (λ (z : blocks ≤ x). omega arith) (split x blocks) in
      λ i. opens-here marks names at 0 (omega arith) (omega arith) i
      ∷ (ap (λ (k : ℕ). frames_at (set marks 0 at) (set names (128 * 0) 0) k n) (sym d) ∙ before-new x 0 n p q r (inl (omega arith))) i
    where
      zero-not-suc : (k : ℕ) → 0 ≡ suc k → ⊥
      zero-not-suc k h = omega arith
  new-frame x (suc y) n p q r l w e =
      let d : x ≡ y = ⊎_elim (λ (z : x < blocks). let f : suc y ≡ suc x = e ∙ after-low x z in omega arith) (λ (z : blocks ≤ x). let f : suc y ≡ 0 = e ∙ after_last x (omega arith) in absurd (omega arith)) (split x blocks) in
      λ i. opens-here marks names at (suc y) (omega arith) (omega arith) i
      ∷ (ap (λ (k : ℕ). frames_at (set marks (suc y) at) (set names (128 * suc y) 0) k n) (sym d) ∙ before-new x (suc y) n p q r (inr (omega arith))) i

-- as the definition has it: a new space, and of those around it no more than the ring holds
pub grows : (marks names : List ℕ) (at x y n : ℕ) → x < ring → y < ring → n < ring → length marks ≡ ring → length names ≡ 128 * ring → y ≡ after_slot x
    → frames_at (set marks y at) (set names (128 * y) 0) y (suc n) ≡ opened at (frames_at marks names x n)
unfolding opened
grows marks names at x y n p q r l w e =
    let h : length (frames_at marks names x n) ≤ blocks = omega (arith, length-frames marks names x n) in
    new-frame marks names at x y n p q r l w e
    ∙ ap (λ (t : List Frame). record { start = at; name = [] } ∷ t) (sym (take_all blocks (frames_at marks names x n) h))

pub stays : (marks names : List ℕ) (at x y : ℕ) → x < ring → y < ring → length marks ≡ ring → length names ≡ 128 * ring → y ≡ after_slot x
    → frames_at (set marks y at) (set names (128 * y) 0) y ring ≡ opened at (frames_at marks names x ring)
unfolding opened
stays marks names at x y p q l w e =
    new-frame marks names at x y blocks p q (omega arith) l w e
    ∙ ap (λ (t : List Frame). record { start = at; name = [] } ∷ t) (sym (take-frames marks names blocks ring x (omega arith)))

-- the same, with the place by its name
pub opens-slot : (marks names : List ℕ) (at x y : ℕ) → x < ring → y < ring → length marks ≡ ring → length names ≡ 128 * ring → y ≡ after_slot x
    → ((n : ℕ) → n < ring → frames_at (set marks y at) (set names (128 * y) 0) (after_slot x) (suc n) ≡ opened at (frames_at marks names x n))
    × (frames_at (set marks y at) (set names (128 * y) 0) (after_slot x) ring ≡ opened at (frames_at marks names x ring))
opens-slot marks names at x y p q l w e = (
  λ n r. ap (λ (k : ℕ). frames_at (set marks y at) (set names (128 * y) 0) k (suc n)) (sym e) ∙ grows marks names at x y n p q r l w e,
  ap (λ (k : ℕ). frames_at (set marks y at) (set names (128 * y) 0) k ring) (sym e) ∙ stays marks names at x y p q l w e,
)

pub before-zero : (x : ℕ) → x ≡ 0 → blocks ≡ before_slot x
before-zero zero e = refl
before-zero (suc x) e = absurd (omega arith)

pub before_more : (x : ℕ) → (x ≡ 0 → ⊥) → x - 1 ≡ before_slot x
before_more zero e = absurd (e refl)
before_more (suc x) e = omega arith

stretch-sets : (vs l : List ℕ) (a n i : ℕ) → (i + length vs ≤ a) ⊎ (a + n ≤ i) → take n (drop a (sets l i vs)) ≡ take n (drop a l)
stretch-sets [] l a n i e = refl
stretch-sets (v ∷ vs) l a n i e =
    stretch-sets vs (set l i v) a n (suc i) (⊎_elim (λ h. inl (omega arith)) (λ h. inr (omega arith)) e)
    ∙ stretch-set l a n i v (⊎_elim (λ h. inl (omega arith)) (λ h. inr (omega arith)) e)

get_d_sets : (vs l : List ℕ) (i j : ℕ) → (j < i) ⊎ (i + length vs ≤ j) → get_or (sets l i vs) j 0 ≡ get_or l j 0
get_d_sets [] l i j e = refl
get_d_sets (v ∷ vs) l i j e =
    get_d_sets vs (set l i v) (suc i) j (⊎_elim (λ h. inl (omega arith)) (λ h. inr (omega arith)) e)
    ∙ get_or-set_other l i j v 0 (⊎_elim (λ h z. omega arith) (λ h z. omega arith) e)

module _ (names w : List ℕ) (x n : ℕ) (few : n ≤ 127) (size : length w ≡ n) (wide : length names ≡ 128 * ring) (in-ring : x < ring) where
  written-name : List ℕ
  written-name = sets (set names (128 * x) n) (128 * x + 1) w

  name-here : name_at (sets (set names (128 * x) n) (128 * x + 1) w) x ≡ w
  name-here =
      let l = set names (128 * x) n in
      let ll : length l ≡ 128 * ring = length-set names (128 * x) n ∙ wide in
      let o : 128 * x + 1 + length w ≤ length l = omega arith in
      let e : get_or (sets l (128 * x + 1) w) (128 * x) 0 ≡ n = get_d_sets w l (128 * x + 1) (128 * x) (inl (omega arith)) ∙ get_or-set_same names (128 * x) n 0 (omega arith) in
      let m : get_or (sets l (128 * x + 1) w) (128 * x) 0 % 128 ≡ n = ap (λ (k : ℕ). k % 128) e ∙ (let q : n % 128 ≡ n = omega arith in q) in
      let la : length (take (128 * x + 1) l) ≡ 128 * x + 1 = length-take-le (128 * x + 1) l (omega arith) in
      let d : drop (128 * x + 1) (sets l (128 * x + 1) w) ≡ w ++ drop (128 * x + 1 + length w) l =
      ap (drop (128 * x + 1)) (sets-eq w l (128 * x + 1) o ∙ append_assoc (take (128 * x + 1) l) w (drop (128 * x + 1 + length w) l)) ∙ drop_at (take (128 * x + 1) l) (w ++ drop (128 * x + 1 + length w) l) (128 * x + 1) la in
      (λ i. take (m i) (d i)) ∙ take_at w (drop (128 * x + 1 + length w) l) n size

  name-others : (marks : List ℕ) (z : ℕ) → z < ring → (z ≡ x → ⊥) → frame_at marks (sets (set names (128 * x) n) (128 * x + 1) w) z ≡ frame_at marks names z
  name-others marks z r d =
      let l = set names (128 * x) n in
      let far : (128 * z < 128 * x + 1) ⊎ (128 * x + 1 + length w ≤ 128 * z) = ⊎_elim (λ (h : z < x). inl (omega arith)) (λ (h : x ≤ z). inr (omega arith)) (split z x) in
      let e : get_or (sets l (128 * x + 1) w) (128 * z) 0 ≡ get_or names (128 * z) 0 = get_d_sets w l (128 * x + 1) (128 * z) far ∙ get_or-set_other names (128 * x) (128 * z) n 0 (λ q. d (omega arith)) in
      let m : get_or names (128 * z) 0 % 128 < 128 = omega arith in
      let s : (128 * x + 1 + length w ≤ 128 * z + 1) ⊎ (128 * z + 1 + get_or names (128 * z) 0 % 128 ≤ 128 * x + 1) = ⊎_elim (λ (h : z < x). inr (omega arith)) (λ (h : x ≤ z). inl (omega arith)) (split z x) in
      let t : (128 * x < 128 * z + 1) ⊎ (128 * z + 1 + get_or names (128 * z) 0 % 128 ≤ 128 * x) = ⊎_elim (λ (h : z < x). inr (omega arith)) (λ (h : x ≤ z). inl (omega arith)) (split z x) in
      λ i. record {
        start = get_or marks z 0;
        name = (ap (λ (k : ℕ). take (k % 128) (drop (128 * z + 1) (sets l (128 * x + 1) w))) e
            ∙ stretch-sets w l (128 * z + 1) (get_or names (128 * z) 0 % 128) (128 * x + 1) s
            ∙ stretch-set names (128 * z + 1) (get_or names (128 * z) 0 % 128) (128 * x) n t) i;
      }

  -- the spaces around it stay
  around-name : (marks : List ℕ) (y k : ℕ) → y < ring → k < ring → (y ≡ x + blocks) ⊎ (y + ring ≡ x + blocks)
      → frames_at marks (sets (set names (128 * x) n) (128 * x + 1) w) y k ≡ frames_at marks names y k
  around-name marks y k p q e = same-frames marks names marks (sets (set names (128 * x) n) (128 * x + 1) w) x (name-others marks) k y blocks p (omega arith) (omega arith) e

-- the innermost space has its name
pub name-put : (names w : List ℕ) (x n : ℕ) → n ≤ 127 → length w ≡ n → length names ≡ 128 * ring → x < ring → (marks : List ℕ) (k : ℕ) → k < ring
    → frames_at marks (sets (set names (128 * x) n) (128 * x + 1) w) x (suc k) ≡ named w (frames_at marks names x (suc k))
unfolding frames_at named
name-put names w zero n few size wide r marks k h =
    λ i. record { start = get_or marks 0 0; name = name-here names w 0 n few size wide r i }
    ∷ around-name names w 0 n few size wide r marks blocks k (omega arith) h (inl (omega arith)) i
name-put names w (suc x) n few size wide r marks k h =
    λ i. record { start = get_or marks (suc x) 0; name = name-here names w (suc x) n few size wide r i }
    ∷ around-name names w (suc x) n few size wide r marks x k (omega arith) h (inr (omega arith)) i

pub name-turn : (d : List ℕ) (at : ℕ) (word : List ℕ) (i : ℕ) {y : List ℕ} → i < length word → y ≡ sets d at (take i word) → set y (at + i) (get_or word i 0) ≡ sets d at (take (i + 1) word)
name-turn d at word i h e =
    let k : length (take i word) ≡ i = length-take-le i word (omega arith) in
    let f : i + 1 ≡ suc i = omega arith in
    ap (λ (l : List ℕ). set l (at + i) (get_or word i 0)) e
    ∙ ap (λ (j : ℕ). set (sets d at (take i word)) (at + j) (get_or word i 0)) (sym k)
    ∙ sets-append (take i word) d at (get_or word i 0 ∷ []) ∙ ap (sets d at) (sym (take-suc word i 0 h)) ∙ ap (λ (j : ℕ). sets d at (take j word)) (sym f)

-- ---- the name that the innermost space has, and its bracket

module _ (marks names : List ℕ) (x : ℕ) (wide : length names ≡ 128 * ring) (r : x < ring) where
  pub name-none : (n : ℕ) → n ≡ 0 → (0 ≡ length (name_of (frames_at marks names x n))) × (name_of (frames_at marks names x n) ≡ drop (128 * x + 1) (take (128 * x + 1 + 0) names))
  unfolding frames_at name_of
  name-none zero e =
      let z : 128 * x + 1 + 0 ≡ 128 * x + 1 = omega arith in
      let l : length (take (128 * x + 1 + 0) names) ≡ 128 * x + 1 + 0 = length-take-le (128 * x + 1 + 0) names (omega arith) in
      (refl, sym (drop_of_length-le (take (128 * x + 1 + 0) names) {i = 128 * x + 1} (omega arith)))
  name-none (suc n) e = absurd (omega arith)

  pub name-some : (n : ℕ) → (n ≡ 0 → ⊥) → (get_or names (128 * x) 0 % 128 ≡ length (name_of (frames_at marks names x n)))
      × (name_of (frames_at marks names x n) ≡ drop (128 * x + 1) (take (128 * x + 1 + get_or names (128 * x) 0 % 128) names))
  unfolding frames_at name_of
  name-some zero e = absurd (e refl)
  name-some (suc n) e =
      let k = get_or names (128 * x) 0 % 128 in
      let m : get_or names (128 * x) 0 % 128 < 128 = omega arith in
      let a = 128 * x + 1 in
      let la : length (take a names) ≡ a = length-take-le a names (omega arith) in
      let ld : length (drop a names) ≡ 128 * ring - a = length-drop a names ∙ ap (λ (q : ℕ). q - a) wide in
      let t : take (a + k) names ≡ take a names ++ take k (drop a names) = take-add a k names in
      (sym (length-take-le k (drop a names) (omega arith)), sym (ap (drop a) t ∙ drop_at (take a names) (take k (drop a names)) a la))

pub start_none : (marks names : List ℕ) (x n : ℕ) → n ≡ 0 → 0 ≡ start_of (frames_at marks names x n)
unfolding frames_at start_of
start_none marks names x zero e = refl
start_none marks names x (suc n) e = absurd (omega arith)

pub start-some : (marks names : List ℕ) (x n : ℕ) → (n ≡ 0 → ⊥) → get_or marks x 0 ≡ start_of (frames_at marks names x n)
unfolding frames_at start_of
start-some marks names x zero e = absurd (e refl)
start-some marks names x (suc n) e = refl
