-- The checker's loop: one word of it, and its end.
use mathlib.Core.Path.{◌≡◌, refl, sym, ap, ◌∙◌}
use mathlib.Core.Bool.{Bool, true, false, cond}
use mathlib.Core.List.{List, [], ◌∷◌, ◌++◌}
use Prim.Native.Nat.{ℕ, zero, suc, ◌+◌, ◌-◌, ◌≤◌, ◌<◌, ◌/◌, ◌%◌}
use native.Mathlib.Omega.{arith}
use lib.IntN.{ℤ, pos}
use lib.Dec.{eqb, ltb, leb}
use lib.ListN.{length, get_or, take, drop, length-drop, drop_of_length-le}
use lib.Seq.{drop-drop, get_or-drop}
use Rattle.stack.specs.Stack.{most, pushed, unary, binary, copied, rolled, turns, truth}
use Rattle.fixed.specs.Values.{value, small_of}
use Rattle.stack.specs.Operators.{is_true, gives, one_kind, acted}
use Rattle.stack.specs.Programs.{Two, sum, test, join, One, neg, abs, nay, Op, number, copy, index, roll, two, one, constant, pop, exch, dup}
use Rattle.stack.specs.Judging.{fine, typed, tests, tested, Judged, fits, wrong}
use Rattle.std.specs.Prelude.{Option, None, Some, MatchOption}
use Rattle.stack.specs.Flat.{Item, op, unless, jump, none, item_of}
use Rattle.form.specs.Paths.{Place, unmet, Places, at, ill, comes, then_p, leaves, width_of, ends, checks}
use Rattle.form.specs.Table.{kinds_up, low_part, kinds_by, first_at, second_at, head_at, kinds_at, place_by, place_at, places_from, bits_of, arrived, leaves_at, passed, verdict}
use Rattle.stack.proofs.Runs.{part-is}
use Rattle.form.proofs.Judged.{checks-ill}
use Rattle.form.proofs.Turns.{from_p, comes-from, turn-checks, turn-unmet, mid-free, mid-met}
use Rattle.form.proofs.Tables.{places-length, places-get}

-- ---- kinds are 0 or 1: as a row keeps them, whatever acts on them

abbrev bit : ℤ → ℤ
bit x = truth (is_true x)

bits-cond : (b : Bool) (u v : List ℤ) → bits_of (cond b u v) ≡ cond b (bits_of u) (bits_of v)
bits-cond true u v = refl
bits-cond false u v = refl

bits-length : (s : List ℤ) → length (bits_of s) ≡ length s
unfolding bits_of
bits-length [] = refl
bits-length (x ∷ xs) = ap suc (bits-length xs)

bits-append : (s t : List ℤ) → bits_of (s ++ t) ≡ bits_of s ++ bits_of t
unfolding bits_of
bits-append [] t = refl
bits-append (x ∷ xs) t = ap (λ (l : List ℤ). bit x ∷ l) (bits-append xs t)

bits-take : (n : ℕ) (s : List ℤ) → bits_of (take n s) ≡ take n (bits_of s)
unfolding bits_of
bits-take zero s = refl
bits-take (suc n) [] = refl
bits-take (suc n) (x ∷ xs) = ap (λ (l : List ℤ). bit x ∷ l) (bits-take n xs)

pub bits-drop : (n : ℕ) (s : List ℤ) → bits_of (drop n s) ≡ drop n (bits_of s)
unfolding bits_of
bits-drop zero s = refl
bits-drop (suc n) [] = refl
bits-drop (suc n) (x ∷ xs) = bits-drop n xs

bits-value : (s : List ℤ) (k : ℕ) → bit (value s k) ≡ value (bits_of s) k
unfolding bits_of
bits-value [] k = refl
bits-value (x ∷ xs) zero = refl
bits-value (x ∷ xs) (suc k) = bits-value xs k

bits-pushed : (x : ℤ) (s : List ℤ) → bits_of (pushed x s) ≡ pushed (bit x) (bits_of s)
unfolding pushed bits_of
bits-pushed x s = bits-cond (ltb (length s) most) (x ∷ s) s ∙ ap (λ (n : ℕ). cond (ltb n most) (bit x ∷ bits_of s) (bits_of s)) (sym (bits-length s))

bits-copied : (n : ℕ) (s : List ℤ) → bits_of (copied n s) ≡ copied n (bits_of s)
unfolding copied
bits-copied n s =
    bits-cond (leb n (length s)) (cond (leb (length s + n) most) (take n s ++ s) s) s
    ∙ (ap (λ (l : List ℤ). cond (leb n (length s)) l (bits_of s)) (bits-cond (leb (length s + n) most) (take n s ++ s) s)
    ∙ (λ i. cond (leb n (sym (bits-length s) i)) (cond (leb (sym (bits-length s) i + n) most) ((bits-append (take n s) s ∙ ap (λ (l : List ℤ). l ++ bits_of s) (bits-take n s)) i) (bits_of s)) (bits_of s)))

bits-rolled : (n k : ℕ) (s : List ℤ) → bits_of (rolled n k s) ≡ rolled n k (bits_of s)
unfolding rolled
bits-rolled n k s =
    bits-cond (leb n (length s)) (drop k (take n s) ++ (take k (take n s) ++ drop n s)) s
    ∙ (λ i. cond (leb n (sym (bits-length s) i))
    ((bits-append (drop k (take n s)) (take k (take n s) ++ drop n s)
    ∙ (λ j. (bits-drop k (take n s) ∙ ap (drop k) (bits-take n s)) j ++ (bits-append (take k (take n s)) (drop n s) ∙ (λ h. (bits-take k (take n s) ∙ ap (take k) (bits-take n s)) h ++ bits-drop n s h)) j)) i)
    (bits_of s))

gives-bit : (t : Two) → bit (gives t) ≡ gives t
gives-bit (sum o) = refl
gives-bit (test o) = refl
gives-bit (join o) = refl

one_bit : (o : One) → bit (one_kind o) ≡ one_kind o
one_bit neg = refl
one_bit abs = refl
one_bit nay = refl

bits-acted : (o : Op) (s : List ℤ) → bits_of (acted true o s) ≡ acted true o (bits_of s)
unfolding acted unary binary
bits-acted (number z) s = bits-pushed (pos 0) s
bits-acted (copy n) s = bits-copied (small_of n) s
bits-acted (index n) s = bits-pushed (value s (small_of n)) s ∙ ap (λ (x : ℤ). pushed x (bits_of s)) (bits-value s (small_of n))
bits-acted (roll n j) s = bits-rolled (small_of n) (turns j (small_of n)) s
bits-acted (two t) s = bits-pushed (gives t) (drop 2 s) ∙ (λ i. pushed (gives-bit t i) (bits-drop 2 s i))
bits-acted (one o) s = bits-pushed (one_kind o) (drop 1 s) ∙ (λ i. pushed (one_bit o i) (bits-drop 1 s i))
bits-acted (constant b) s = bits-pushed (pos 1) s
bits-acted pop s = bits-drop 1 s
bits-acted exch s = bits-rolled 2 1 s
bits-acted dup s = bits-pushed (value s 0) s ∙ ap (λ (x : ℤ). pushed x (bits_of s)) (bits-value s 0)

pub bits-kept : (o : Op) (s : List ℤ) → bits_of s ≡ s → bits_of (acted true o s) ≡ acted true o s
bits-kept o s e = bits-acted o s ∙ ap (acted true o) e

bits_up : (v n : ℕ) (ks : List ℤ) → bits_of ks ≡ ks → bits_of (kinds_up v n ks) ≡ kinds_up v n ks
unfolding bits_of kinds_up
bits_up v zero ks e = e
bits_up v (suc n) ks e = bits_up (v / 2) n (truth (eqb (v % 2) 1) ∷ ks) (λ i. by (eqb (v % 2) 1) i ∷ e i)
  where
    by : (b : Bool) → bit (truth b) ≡ truth b
    by true = refl
    by false = refl

pub bits-kinds : (t : List ℕ) (p h : ℕ) → bits_of (kinds_at t p h) ≡ kinds_at t p h
unfolding bits_of kinds_by
bits-kinds t p h = bits_up (second_at t p) (h - low_part h) _ (bits_up (first_at t p / 128) (low_part h) [] refl)

-- what is left under the top is still kinds
pub bits-rest : (s : List ℤ) → bits_of s ≡ s → {u : List ℤ} → u ≡ drop 1 s → bits_of u ≡ u
bits-rest s e u-is = ap bits_of u-is ∙ (bits-drop 1 s ∙ (ap (drop 1) e ∙ sym u-is))

-- ---- an item's paths

module _ (s : List ℤ) (p : ℕ) (T : List Place) where
  module _ (o : Op) (n : ℕ) where
    typed-is : (b : Bool) → b ≡ fine o s → typed o s ≡ cond b (fits (acted true o s)) wrong
    unfolding typed
    typed-is b e = ap (λ (c : Bool). cond c (fits (acted true o s)) wrong) (sym e)

    pub leave-wrong : false ≡ fine o s → ill ≡ leaves_at (op o n) s p T
    leave-wrong e = sym (ap (λ (j : Judged). elim j [ fits js ↦ comes js (p + 1 + n) T | wrong ↦ ill ]) (typed-is false e))

    pub leave-op : true ≡ fine o s → bits_of s ≡ s → {u : List ℤ} → u ≡ acted true o s → {z : ℕ} → z ≡ n → comes (bits_of u) (p + 1 + z) T ≡ leaves_at (op o n) s p T
    leave-op e b eu ez =
        (λ i. comes ((ap bits_of eu ∙ bits-kept o s b) i) (p + 1 + ez i) T)
        ∙ sym (ap (λ (j : Judged). elim j [ fits js ↦ comes js (p + 1 + n) T | wrong ↦ ill ]) (typed-is true e))

  module _ (x : ℤ) where
    abbrev go : Judged → Places
    go j = elim j [ fits js ↦ then_p (comes js (p + 1 + 1) T) (comes js (p + 1 + (1 + small_of x))) | wrong ↦ ill ]

    pub unless-wrong : tests s ≡ false → ill ≡ leaves_at (unless (small_of x)) s p T
    unfolding tested
    unless-wrong e = sym (ap (λ (b : Bool). go (cond b (fits (drop 1 s)) wrong)) e)

    module _ (e : tests s ≡ true) (b : bits_of s ≡ s) {u : List ℤ} (u-is : u ≡ drop 1 s) where
      tested-is : tested s ≡ fits (drop 1 s)
      unfolding tested
      tested-is = ap (λ (c : Bool). cond c (fits (drop 1 s)) wrong) e

      rest-is : bits_of u ≡ drop 1 s
      rest-is = ap bits_of u-is ∙ (bits-drop 1 s ∙ ap (drop 1) b)

      pub unless-paths : (c d : Bool) (T' T'' : List Place) → arrived c T' ≡ comes (bits_of u) (p + 1 + 1) T → (j : ℕ) → j ≡ small_of x → (c ≡ true → arrived d T'' ≡ comes (bits_of u) (p + 1 + (1 + j)) T') → cond c (arrived d T'') ill ≡ leaves_at (unless (small_of x)) s p T
      unless-paths true d T' T'' f j ej g =
          g refl ∙ ((λ i. then_p ((f ∙ ap (λ (l : List ℤ). comes l (p + 1 + 1) T) rest-is) i) (comes (rest-is i) (p + 1 + (1 + ej i)))) ∙ sym (ap go tested-is))
      unless-paths false d T' T'' f j ej g =
          ap (λ (P : Places). then_p P (comes (drop 1 s) (p + 1 + (1 + small_of x)))) (f ∙ ap (λ (l : List ℤ). comes l (p + 1 + 1) T) rest-is) ∙ sym (ap go tested-is)

-- ---- from the whole table to the rest of it

then-from : (js : List ℤ) (n d : ℕ) (P : Places) → then_p (from_p n P) (comes js d) ≡ from_p n (then_p P (comes js (n + d)))
then-from js n d ill = refl
then-from js n d (at ps) = comes-from js n d ps

op-from : (j : Judged) (n d : ℕ) (T : List Place) → elim j [ fits js ↦ comes js d (drop n T) | wrong ↦ ill ] ≡ from_p n (elim j [ fits js ↦ comes js (n + d) T | wrong ↦ ill ])
op-from (fits js) n d T = comes-from js n d T
op-from wrong n d T = refl

unless-from : (j : Judged) (n k : ℕ) (T : List Place) → elim j [ fits js ↦ then_p (comes js 1 (drop n T)) (comes js (1 + k)) | wrong ↦ ill ] ≡ from_p n (elim j [ fits js ↦ then_p (comes js (n + 1) T) (comes js (n + (1 + k))) | wrong ↦ ill ])
unless-from (fits js) n k T = ap (λ (P : Places). then_p P (comes js (1 + k))) (comes-from js n 1 T) ∙ then-from js n (1 + k) (comes js (n + 1) T)
unless-from wrong n k T = refl

leaves-from : (i : Item) (ks : List ℤ) (p : ℕ) (T : List Place) → leaves i ks (drop (p + 1) T) ≡ from_p (p + 1) (leaves_at i ks p T)
leaves-from (op o n) ks p T = op-from (typed o ks) (p + 1) n T
leaves-from (unless k) ks p T = unless-from (tested ks) (p + 1) k T
leaves-from (jump k) ks p T = comes-from ks (p + 1) (1 + k) T
leaves-from none ks p T = refl

-- ---- one word

module _ (ws : List ℤ) (t : List ℕ) (p : ℕ) (lt : p < length ws) where
  abbrev T : List Place
  T = places_from t 0 (length ws + 1)

  here : get_or (drop p T) 0 unmet ≡ place_at t p
  here =
      let l : p < length ws + 1 = omega arith in
      get_or-drop p T 0 unmet ∙ (ap (λ (n : ℕ). get_or T n unmet) (let e : p + 0 ≡ p = omega arith in e) ∙ (places-get t 0 (length ws + 1) p l ∙ ap (place_at t) (let e : 0 + p ≡ p = omega arith in e)))

  more : 0 < length (drop p ws)
  more = rw length-drop (omega arith)

  room : 0 < length (drop p T)
  room = rw (length-drop, places-length t 0 (length ws + 1)) (omega arith)

  place_is : (c : ℕ) → head_at t p ≡ c → place_at t p ≡ place_by t p c
  place_is c e = ap (place_by t p) e

  pub pass-free : (m : ℕ) → 0 < m → head_at t p ≡ 0 → passed (Some (m - 1)) ws p T ≡ checks (drop p ws) m (at (drop p T))
  pass-free zero lm e = absurd (omega arith)
  pass-free (suc m) lm e =
      (let f : suc m - 1 ≡ m = omega arith in λ i. checks (sym (drop-drop 1 p ws) i) (f i) (at (sym (drop-drop 1 p T) i)))
      ∙ sym (mid-free (drop p ws) m (drop p T) more room (here ∙ place_is 0 e))

  pub pass-met : (m : ℕ) → 0 < m → (h : ℕ) → head_at t p ≡ h + 1 → wrong ≡ checks (drop p ws) m (at (drop p T))
  pass-met zero lm h e = absurd (omega arith)
  pass-met (suc m) lm h e = sym (mid-met (drop p ws) m (drop p T) (kinds_at t p h) more (here ∙ place_is (suc h) (e ∙ (let f : h + 1 ≡ suc h = omega arith in f))))

  pub pass-unmet : (m : ℕ) → m ≤ 0 → head_at t p ≡ 0 → wrong ≡ checks (drop p ws) m (at (drop p T))
  pass-unmet zero lm e = sym (turn-unmet (drop p ws) (drop p T) more (here ∙ place_is 0 e))
  pass-unmet (suc m) lm e = absurd (omega arith)

  -- a turn that reads the item i, where the kinds are ks
  module _ (m : ℕ) (m-is : m ≤ 0) (h : ℕ) (h-is : head_at t p ≡ h + 1) {i : Item} (i-is : item_of (take (length ws - p) (drop p ws)) ≡ i) {ks : List ℤ} (ks-is : ks ≡ kinds_at t p h) where
    go_on : checks (drop (p + 1) ws) (width_of i) (from_p (p + 1) (leaves_at i ks p T)) ≡ checks (drop p ws) m (at (drop p T))
    go_on =
        let z : 0 ≡ m = omega arith in
        let y : h + 1 ≡ suc h = omega arith in
        let f : i ≡ item_of (drop p ws) = sym i-is ∙ ap item_of (part-is ws p) in
        ap (checks (drop (p + 1) ws) (width_of i)) (sym (leaves-from i ks p T))
        ∙ ((λ j. checks (sym (drop-drop 1 p ws) j) (width_of (f j)) (leaves (f j) (ks-is j) (sym (drop-drop 1 p T) j)))
        ∙ (sym (turn-checks (drop p ws) (drop p T) (kinds_at t p h) more room (here ∙ place_is (suc h) (h-is ∙ y)))
        ∙ ap (λ (n : ℕ). checks (drop p ws) n (at (drop p T))) z))

    pub pass-ill : ill ≡ leaves_at i ks p T → wrong ≡ checks (drop p ws) m (at (drop p T))
    pass-ill e = sym (checks-ill (drop (p + 1) ws) (width_of i)) ∙ (ap (λ (P : Places). checks (drop (p + 1) ws) (width_of i) (from_p (p + 1) P)) e ∙ go_on)

    pub pass-item : {T' : List Place} → at T' ≡ leaves_at i ks p T → {z : ℕ} → z ≡ width_of i → passed (Some z) ws p T' ≡ checks (drop p ws) m (at (drop p T))
    pass-item {T'} e {z} ez =
        ap (λ (n : ℕ). checks (drop (p + 1) ws) n (at (drop (p + 1) T'))) ez
        ∙ (ap (λ (P : Places). checks (drop (p + 1) ws) (width_of i) (from_p (p + 1) P)) e ∙ go_on)

-- ---- the end

last-place : (t : List ℕ) (q p : ℕ) → drop p (places_from t q (p + 1)) ≡ place_at t (q + p) ∷ []
unfolding places_from
last-place t q zero = ap (λ (n : ℕ). place_at t n ∷ []) (let e : q ≡ q + 0 = omega arith in e)
last-place t q (suc p) =
    ap (λ (n : ℕ). drop (suc p) (places_from t q n)) (let e : suc p + 1 ≡ suc (p + 1) = omega arith in e)
    ∙ (last-place t (suc q) p ∙ ap (λ (n : ℕ). place_at t n ∷ []) (let e : suc q + p ≡ q + suc p = omega arith in e))

module _ (ws : List ℤ) (t : List ℕ) (p m : ℕ) (end : p ≡ length ws) where
  pub end-mid : 0 < m → wrong ≡ checks (drop p ws) m (at (drop p (places_from t 0 (length ws + 1))))
  unfolding checks
  end-mid lt =
      let l : length ws ≤ p = omega arith in
      by m lt ∙ ap (λ (l : List ℤ). checks l m (at (drop p (places_from t 0 (length ws + 1))))) (sym (drop_of_length-le ws l))
    where
      by : (m : ℕ) → 0 < m → wrong ≡ checks [] m (at (drop p (places_from t 0 (length ws + 1))))
      by zero lt = absurd (omega arith)
      by (suc m) lt = refl

  end_by : m ≤ 0 → (c : ℕ) → head_at t p ≡ c → ends (place_by t (length ws) c ∷ []) ≡ checks (drop p ws) m (at (drop p (places_from t 0 (length ws + 1))))
  unfolding checks
  end_by le c e =
      let l : length ws ≤ p = omega arith in
      let z : 0 ≡ m = omega arith in
      (λ i. ends (place_by t (sym end i) (sym e i) ∷ []))
      ∙ (ap ends (sym (ap (λ (n : ℕ). drop p (places_from t 0 (n + 1))) (sym end) ∙ (last-place t 0 p ∙ ap (λ (n : ℕ). place_at t n ∷ []) (let g : 0 + p ≡ p = omega arith in g))))
      ∙ ((λ i. checks (sym (drop_of_length-le ws l) i) 0 (at (drop p (places_from t 0 (length ws + 1))))) ∙ ap (λ (n : ℕ). checks (drop p ws) n (at (drop p (places_from t 0 (length ws + 1))))) z))

  pub end_is : m ≤ 0 → (r : Option ℕ) → MatchOption r (head_at t (length ws) ≡ 0) (λ h. head_at t (length ws) ≡ h + 1) → verdict r t (length ws) ≡ checks (drop p ws) m (at (drop p (places_from t 0 (length ws + 1))))
  end_is le None e = end_by le 0 (ap (head_at t) end ∙ e)
  end_is le (Some h) e = end_by le (suc h) (ap (head_at t) end ∙ e ∙ (let f : h + 1 ≡ suc h = omega arith in f))
