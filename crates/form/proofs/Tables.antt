-- The checker's table: a row that is written is one place that is set.
use mathlib.Core.Path.{◌≡◌, refl, sym, ap, ◌∙◌}
use mathlib.Core.Bool.{Bool, true, false, cond, ◌&&◌}
use mathlib.Core.List.{List, [], ◌∷◌}
use Prim.Native.Nat.{ℕ, zero, suc, ◌+◌, ◌-◌, ◌*◌, ◌/◌, ◌%◌, ◌≤◌, ◌<◌}
use native.Mathlib.Omega.{arith}
use lib.IntN.{ℤ, pos}
use lib.Dec.{eqb, leb}
use lib.ListN.{length, get_or, set, length-set}
use lib.Seq.{get_or-set_same, get_or-set_other}
use borrow.Author.Tests.{lt-ltb, leb-false, eqb-true, eqb-false}
use Rattle.stack.specs.Stack.{pushed, truth, same_z, same_kinds}
use Rattle.stack.specs.Memory.{stack_of}
use Rattle.stack.specs.Operators.{is_true}
use Rattle.form.specs.Paths.{Place, unmet, met, at, ill, comes}
use Rattle.form.specs.Table.{kinds_up, low_part, kinds_by, first_at, second_at, head_at, kinds_at, place_of, place_by, place_at, places_from, Low, But, bits_of, Stored, arrived}
use Rattle.form.proofs.Turns.{comes-past, comes-new, comes-old}

pub place-but : (q : ℕ) (t t' : List ℕ) → But q t t' → (p : ℕ) → (p ≡ q → ⊥) → place_at t' p ≡ place_at t p
place-but q t t' b p ne = let e : (first_at t' p ≡ first_at t p) × (second_at t' p ≡ second_at t p) = b p ne in λ i. place_of (e.0 i) (e.1 i) (e.0 i % 128)

places-past : (q : ℕ) (t t' : List ℕ) → But q t t' → (p n : ℕ) → q < p → places_from t' p n ≡ places_from t p n
unfolding places_from
places-past q t t' b p zero lt = refl
places-past q t t' b p (suc n) lt =
    let ne : p ≡ q → ⊥ = omega arith in
    let m : q < suc p = omega arith in
    ap (λ (x : Place). x ∷ places_from t' (suc p) n) (place-but q t t' b p ne) ∙ ap (λ (l : List Place). place_at t p ∷ l) (places-past q t t' b (suc p) n m)

-- a row that is written is one place that is set
pub places-set : (t t' : List ℕ) (p d n : ℕ) (x : Place) → But (p + d) t t' → place_at t' (p + d) ≡ x → places_from t' p n ≡ set (places_from t p n) d x
unfolding places_from
places-set t t' p d zero x b e = refl
places-set t t' p zero (suc n) x b e =
    let z : p + 0 ≡ p = omega arith in
    let m : p + 0 < suc p = omega arith in
    ap (λ (l : List Place). place_at t' p ∷ l) (places-past (p + 0) t t' b (suc p) n m) ∙ ap (λ (y : Place). y ∷ places_from t (suc p) n) (ap (place_at t') (sym z) ∙ e)
places-set t t' p (suc d) (suc n) x b e =
    let ne : p ≡ p + suc d → ⊥ = omega arith in
    let z : p + suc d ≡ suc p + d = omega arith in
    ap (λ (y : Place). y ∷ places_from t' (suc p) n) (place-but (p + suc d) t t' b p ne)
    ∙ ap (λ (l : List Place). place_at t p ∷ l) (places-set t t' (suc p) d n x (λ r nr. b r (λ h. nr (h ∙ z))) (ap (place_at t') (sym z) ∙ e))

pub places-length : (t : List ℕ) (p n : ℕ) → length (places_from t p n) ≡ n
unfolding places_from
places-length t p zero = refl
places-length t p (suc n) = ap suc (places-length t (suc p) n)

pub places-get : (t : List ℕ) (p n d : ℕ) → d < n → get_or (places_from t p n) d unmet ≡ place_at t (p + d)
unfolding places_from
places-get t p zero d lt = absurd (omega arith)
places-get t p (suc n) zero lt = ap (place_at t) (let e : p ≡ p + 0 = omega arith in e)
places-get t p (suc n) (suc d) lt = let m : d < n = omega arith in places-get t (suc p) n d m ∙ ap (place_at t) (let e : suc p + d ≡ p + suc d = omega arith in e)

-- ---- a row is written

pub part-le : (h : ℕ) → low_part h ≤ h
part-le h = by (leb h 50) refl
  where
    by : (b : Bool) → leb h 50 ≡ b → cond b h 50 ≤ h
    by true e = omega arith
    by false e = omega (arith, leb-false h 50 e)

module _ (t : List ℕ) (q h x y : ℕ) (a : List ℤ) (room : 2 * q + 2 ≤ length t) (low : h ≤ 100) where
  abbrev v : ℕ
  v = x * 128 + (h + 1)

  abbrev u : List ℕ
  u = set (set t (2 * q) v) (2 * q + 1) y

  written-first : first_at u q ≡ v
  written-first =
      let ne : 2 * q ≡ 2 * q + 1 → ⊥ = omega arith in
      let lt : 2 * q < length t = omega arith in
      get_or-set_other (set t (2 * q) v) (2 * q + 1) (2 * q) y 0 ne ∙ get_or-set_same t (2 * q) v 0 lt

  written-second : second_at u q ≡ y
  written-second = let lt : 2 * q + 1 < length (set t (2 * q) v) = omega (arith, length-set t (2 * q) v) in get_or-set_same (set t (2 * q) v) (2 * q + 1) y 0 lt

  written-but : But q t u
  written-but p ne =
      let a₁ : 2 * p ≡ 2 * q + 1 → ⊥ = omega arith in
      let a₂ : 2 * p ≡ 2 * q → ⊥ = λ e. ne (omega arith) in
      let a₃ : 2 * p + 1 ≡ 2 * q + 1 → ⊥ = λ e. ne (omega arith) in
      let a₄ : 2 * p + 1 ≡ 2 * q → ⊥ = omega arith in (
        get_or-set_other (set t (2 * q) v) (2 * q + 1) (2 * p) y 0 a₁ ∙ get_or-set_other t (2 * q) (2 * p) v 0 a₂,
        get_or-set_other (set t (2 * q) v) (2 * q + 1) (2 * p + 1) y 0 a₃ ∙ get_or-set_other t (2 * q) (2 * p + 1) v 0 a₄,
      )

  pub stored_is : (m : ℕ) → m ≡ low_part h → kinds_up x (m - 0) (bits_of (stack_of a 0)) ≡ bits_of (stack_of a m) → kinds_up y (h - m) (bits_of (stack_of a m)) ≡ bits_of (stack_of a h) → Stored t u q (bits_of (stack_of a h))
  unfolding kinds_by bits_of stack_of
  stored_is m em ex ey =
      let d : v % 128 ≡ h + 1 = omega arith in
      let c : v / 128 ≡ x = omega arith in
      let s : h + 1 ≡ suc h = omega arith in
      let z : m ≡ m - 0 = omega arith in
      let hd : head_at u q ≡ h + 1 = ap (λ (n : ℕ). n % 128) written-first ∙ d in
      record {
        long = length-set (set t (2 * q) v) (2 * q + 1) y ∙ length-set t (2 * q) v;
        but = written-but;
        here =
            (λ i. place_of (written-first i) (written-second i) ((hd ∙ s) i))
            ∙ ap met ((λ i. kinds_up y (h - sym em i) (kinds_up (c i) ((sym em ∙ z) i) [])) ∙ (ap (kinds_up y (h - m)) ex ∙ ey));
        low = omega (arith, hd);
      }

-- ---- kinds packed in bits, and read

unfoldable pub twice : ℕ → ℕ
twice zero = 1
twice (suc n) = 2 * twice n

twice-more : (n k : ℕ) → twice n ≤ twice (k + n)
unfolding twice
twice-more n zero = ap-le (let e : n ≡ 0 + n = omega arith in e)
  where
    ap-le : {m : ℕ} → n ≡ m → twice n ≤ twice m
    ap-le e = rw e (omega arith)
twice-more n (suc k) = let f : twice (suc k + n) ≡ 2 * twice (k + n) = ap twice (let e : suc k + n ≡ suc (k + n) = omega arith in e) in omega (arith, twice-more n k)

pub twice-low : (n : ℕ) → n ≤ 50 → twice n ≤ 1125899906842624
unfolding twice
twice-low n le = let e : 50 - n + n ≡ 50 = omega arith in let f : twice (50 - n + n) ≡ 1125899906842624 = ap twice e in omega (arith, twice-more n (50 - n))

pub packed-turn : (a : List ℤ) (from to i v b : ℕ) {ks : List ℤ} → from < i → i ≤ to → truth (eqb b 1) ≡ truth (is_true (get_or a (i - 1) (pos 0))) → b ≤ 1 → kinds_up v (to - i) (bits_of (stack_of a i)) ≡ ks → kinds_up (2 * v + b) (to - (i - 1)) (bits_of (stack_of a (i - 1))) ≡ ks
unfolding kinds_up bits_of stack_of
packed-turn a from to i v b lt le eb small inv =
    let e : to - (i - 1) ≡ suc (to - i) = omega arith in
    let f : (2 * v + b) / 2 ≡ v = omega arith in
    let g : (2 * v + b) % 2 ≡ b = omega arith in
    let k : suc (i - 1) ≡ i = omega arith in
    ap (λ (n : ℕ). kinds_up (2 * v + b) n (bits_of (stack_of a (i - 1)))) e
    ∙ ((λ j. kinds_up (f j) (to - i) ((ap (λ (n : ℕ). truth (eqb n 1)) g ∙ eb) j ∷ bits_of (stack_of a (i - 1))))
    ∙ (ap (λ (n : ℕ). kinds_up v (to - i) (bits_of (stack_of a n))) k ∙ inv))

pub packed-fits : (to i v b : ℕ) → 0 < i → i ≤ to → b ≤ 1 → v < twice (to - i) → 2 * v + b < twice (to - (i - 1))
unfolding twice
packed-fits to i v b some le small lt = let e : twice (to - (i - 1)) ≡ 2 * twice (to - i) = ap twice (let e : to - (i - 1) ≡ suc (to - i) = omega arith in e) in omega arith

pub twice-some : (n : ℕ) → 0 < twice n
unfolding twice
twice-some zero = omega arith
twice-some (suc n) = let e : 0 < twice n = twice-some n in omega arith

pub up_none : (v n : ℕ) (ks : List ℤ) → n ≡ 0 → kinds_up v n ks ≡ ks
unfolding kinds_up
up_none v n ks e = ap (λ (k : ℕ). kinds_up v k ks) e

pub pushed-length : (x : ℤ) (s : List ℤ) → length s < 100 → length (pushed x s) ≡ length s + 1
unfolding pushed
pushed-length x s room = simp (lt-ltb (length s) 100 room) (let e : suc (length s) ≡ length s + 1 = omega arith in e)

pub unpack-turn : (s : List ℤ) (n i v : ℕ) (x : ℤ) {t ks : List ℤ} → i < n → length s < 100 → x ≡ truth (eqb (v % 2) 1) → t ≡ pushed x s → kinds_up v (n - i) s ≡ ks → kinds_up (v / 2) (n - (i + 1)) t ≡ ks
unfolding kinds_up pushed
unpack-turn s n i v x lt room ex et inv =
    let e : suc (n - (i + 1)) ≡ n - i = omega arith in
    ap (kinds_up (v / 2) (n - (i + 1))) (et ∙ (simp (lt-ltb (length s) 100 room) (ap (λ (z : ℤ). z ∷ s) ex)))
    ∙ (ap (λ (n : ℕ). kinds_up v n s) e ∙ inv)

-- ---- two stacks compared, from the top down

pub same-long : (x y : List ℤ) → (length x ≡ length y → ⊥) → same_kinds x y ≡ false
unfolding same_kinds
same-long [] [] ne = absurd (ne refl)
same-long [] (y ∷ ys) ne = refl
same-long (x ∷ xs) [] ne = refl
same-long (x ∷ xs) (y ∷ ys) ne = ap (λ (t : Bool). same_z x y && t) (same-long xs ys (λ e. ne (ap suc e))) ∙ and-false (same_z x y)
  where
    and-false : (t : Bool) → (t && false) ≡ false
    and-false true = refl
    and-false false = refl

pub bits-length : (s : List ℤ) → length (bits_of s) ≡ length s
unfolding bits_of
bits-length [] = refl
bits-length (x ∷ xs) = ap suc (bits-length xs)

pub up-length : (v n : ℕ) (ks : List ℤ) → length (kinds_up v n ks) ≡ n + length ks
unfolding kinds_up
up-length v zero ks = let e : length ks ≡ 0 + length ks = omega arith in e
up-length v (suc n) ks = up-length (v / 2) n (truth (eqb (v % 2) 1) ∷ ks) ∙ (let e : n + suc (length ks) ≡ suc n + length ks = omega arith in e)

by_length : (x y h : ℕ) → length (kinds_by x y h) ≡ h
unfolding kinds_by
by_length x y h =
    let le : low_part h ≤ h = part-le h in
    up-length y (h - low_part h) (kinds_up (x / 128) (low_part h) [])
    ∙ (ap (λ (n : ℕ). h - low_part h + n) (up-length (x / 128) (low_part h) []) ∙ (let e : h - low_part h + (low_part h + 0) ≡ h = omega arith in e))

pub kinds-length : (t : List ℕ) (q h : ℕ) → length (kinds_at t q h) ≡ h
kinds-length t q h = by_length (first_at t q) (second_at t q) h

pub same-high : (t : List ℕ) (q g : ℕ) (s : List ℤ) → (g ≡ length s → ⊥) → same_kinds (bits_of s) (kinds_at t q g) ≡ false
same-high t q g s ne =
    same-long (bits_of s) (kinds_at t q g) (λ e. ne (sym (kinds-length t q g) ∙ (sym e ∙ bits-length s)))

-- ---- a path that comes

module _ (t : List ℕ) (n q : ℕ) (ks : List ℤ) where
  pub come-past : n ≤ q → arrived false (places_from t 0 n) ≡ comes ks q (places_from t 0 n)
  come-past le = sym (comes-past ks q (places_from t 0 n) (rw (places-length t 0 n) le))

  pub come-new : q < n → head_at t q ≡ 0 → Low t → (t' : List ℕ) → Stored t t' q ks → arrived true (places_from t' 0 n) ≡ comes ks q (places_from t 0 n)
  come-new lt e low t' s =
      let z : 0 + q ≡ q = omega arith in
      ap at (places-set t t' 0 q n (met ks) (λ p ne. s.but p (λ h. ne (h ∙ sym z))) (ap (place_at t') z ∙ s.here))
      ∙ sym (comes-new ks q (places_from t 0 n) (rw (places-length t 0 n) lt) (places-get t 0 n q lt ∙ (ap (place_at t) z ∙ ap (place_by t q) e)))

  pub come-old : q < n → (g : ℕ) → head_at t q ≡ g + 1 → (r : Bool) → r ≡ same_kinds ks (kinds_at t q g) → arrived r (places_from t 0 n) ≡ comes ks q (places_from t 0 n)
  come-old lt g e r f =
      let z : 0 + q ≡ q = omega arith in
      by r ∙ (ap (λ (b : Bool). cond b (at (places_from t 0 n)) ill) f
      ∙ sym (comes-old ks (kinds_at t q g) q (places_from t 0 n) (rw (places-length t 0 n) lt) (places-get t 0 n q lt ∙ (ap (place_at t) z ∙ ap (place_by t q) (e ∙ (let f : g + 1 ≡ suc g = omega arith in f))))))
    where
      by : (b : Bool) → arrived b (places_from t 0 n) ≡ cond b (at (places_from t 0 n)) ill
      by true = refl
      by false = refl

pub low-stored : (t t' : List ℕ) (q : ℕ) (ks : List ℤ) → Stored t t' q ks → Low t → Low t'
low-stored t t' q ks s low p = by (eqb p q) refl
  where
    by : (b : Bool) → eqb p q ≡ b → head_at t' p ≤ 101
    by true e = rw (eqb-true p q e) s.low
    by false e = let f : head_at t' p ≡ head_at t p = ap (λ (n : ℕ). n % 128) (s.but p (eqb-false p q e)).0 in omega (arith, low p)
