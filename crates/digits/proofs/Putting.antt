-- Laws of `Put`: two texts put one after the other are their text put at once, and a text put from the first byte on is `over` what was there.
use mathlib.Core.Path.{◌≡◌, refl, sym, ap, ◌∙◌}
use mathlib.Core.List.{List, [], ◌∷◌, ◌++◌}
use Prim.Native.Nat.{ℕ, suc, ◌+◌, ◌/◌, ◌%◌, ◌≤◌, ◌<◌}
use native.Mathlib.Numerals.{add-one}
use native.Mathlib.Omega.{arith}
use lib.ListN.{length, get_or, take, length-append}
use lib.Seq.{sets, take-nil, take_all, take-suc, length-take-le}
use Rattle.fixed.proofs.Stores.{then as stores}
use Rattle.digits.specs.Texts.{over}
use Rattle.digits.specs.Digits.{digit, digits}
use Rattle.digits.specs.Puts.{Put}
use Rattle.digits.proofs.Digits.{digits-small, digits_more, digits-short}

-- one text after another
pub then : {m n at r s : ℕ} {d e f a b : List ℕ} → Put m d at a e r → Put n e r b f s → Put (m + n) d at (a ++ b) f s
then {at = at} {r = r} {d = d} {a = a} {b = b} p q =
    record {
      stored = stores a d at r b p.ends p.stored q.stored;
      ends = omega (arith, length-append a b);
      short = omega (arith, length-append a b);
    }

-- nothing put
pub nothing : (d : List ℕ) (at : ℕ) → Put 0 d at [] d at
nothing d at = record { stored = refl; ends = omega arith; short = omega arith }

-- a bound that is wider, and a text that is the same
pub wider : {m at r : ℕ} {d e a : List ℕ} (n : ℕ) → m ≤ n → Put m d at a e r → Put n d at a e r
wider n h p = record { stored = p.stored; ends = p.ends; short = omega arith }

pub same : {m at r : ℕ} {d e a b : List ℕ} → a ≡ b → Put m d at a e r → Put m d at b e r
same h p = rw h at p

-- ---- from the first byte on

past : (t : List ℕ) (i : ℕ) → sets [] i t ≡ []
past [] i = refl
past (x ∷ t) i = past t (suc i)

behind : (t : List ℕ) (x : ℕ) (d : List ℕ) (i : ℕ) → sets (x ∷ d) (suc i) t ≡ x ∷ sets d i t
behind [] x d i = refl
behind (y ∷ t) x d i = behind t x _ (suc i)

pub sets_over : (t d : List ℕ) → sets d 0 t ≡ over t d
unfolding over
sets_over [] d = sym (ap (λ (l : List ℕ). l ++ d) (take-nil (length d)))
sets_over (x ∷ t) [] = past t 1
sets_over (x ∷ t) (y ∷ d) = behind t x d 0 ∙ ap (λ (l : List ℕ). x ∷ l) (sets_over t d)

-- ---- a byte more

module _ (s d : List ℕ) (at : ℕ) where
  -- of the first bytes of s
  pub one_more : {m next : ℕ} {e f : List ℕ} (i : ℕ) → i < length s → e ≡ sets d at (take i s) → Put m e (at + i) (get_or s i 0 ∷ []) f next → f ≡ sets d at (take (i + 1) s)
  one_more i h p q =
      let l : at + i ≡ at + length (take i s) = ap (λ (k : ℕ). at + k) (sym (length-take-le i s (omega arith))) in
      let t : take (i + 1) s ≡ take i s ++ (get_or s i 0 ∷ []) = rw (add-one i, take-suc s i 0) in
      stores (take i s) d at (at + i) (get_or s i 0 ∷ []) l p q.stored ∙ ap (sets d at) (sym t)

  -- and all of them
  pub all-put : {e : List ℕ} (i : ℕ) → length s ≤ i → e ≡ sets d at (take i s) → Put (length s) d at s e (at + length s)
  all-put i h p = record { stored = p ∙ ap (sets d at) (take_all i s h); ends = refl; short = omega arith }

-- of a number's digits
pub one-digit : {at r n : ℕ} {d e : List ℕ} → n < 10 → Put 1 d at (digit n ∷ []) e r → Put 10 d at (digits n) e r
one-digit {n = n} h p = same (sym (digits-small n h)) (wider 10 (omega arith) p)

pub last-digit : {at r s n : ℕ} {d e f : List ℕ} → 10 ≤ n → n < 4294967296 → Put 10 d at (digits (n / 10)) e r → Put 1 e r (digit (n % 10) ∷ []) f s → Put 10 d at (digits n) f s
last-digit {n = n} h k p q =
    let t = same (sym (digits_more n h)) (then p q) in
    record { stored = t.stored; ends = t.ends; short = digits-short n k }
