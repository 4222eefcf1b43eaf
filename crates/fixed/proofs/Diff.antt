-- `Diff z a b` says z = a − b, for naturals a and b, as an equation of naturals, which omega reads.
-- `up z` and `down z` are z's parts above and below 0: z = up z − down z, and one of them is 0.
use mathlib.Core.Path.{◌≡◌, refl, sym, ap, ◌∙◌}
use mathlib.Core.Bool.{Bool, true, false, not, cond}
use Prim.Native.Nat.{ℕ, zero, suc, ◌+◌, ◌*◌, ◌-◌, ◌/◌, ◌%◌, ◌<◌, ◌≤◌, ◌^◌, zero-le}
use native.Mathlib.Nat as NatL
use native.Mathlib.Nat.{lt_of_le_of_lt}
use native.Mathlib.Decide.{dec_lt}
use native.Mathlib.Omega.{arith}
use lib.Dec.{T, ltb, ltb→lt, nltb→le}
use borrow.Author.Tests.{ltb-true, ltb-false, lt-ltb, le-ltb}
use lib.IntN.{ℤ, pos, negsuc, neg_ℤ, sub_ℕ, ◌+ℤ◌, ◌-ℤ◌, ◌*ℤ◌}
use lib.Signed.{lt_z}
use lib.Arith.{digits_div}
use mir.Syntax.{Width}
use mir.Val.{SFits, hbits}
use Rattle.fixed.specs.Numbers.{floor_div, half_up}

abbrev pub up : ℤ → ℕ
up (pos n) = n
up (negsuc n) = 0

abbrev pub down : ℤ → ℕ
down (pos n) = 0
down (negsuc n) = suc n

never : true ≡ false → ⊥
never t = let z : ◌≡◌ {A = ℕ} 0 1 = cc in omega arith

never-f : false ≡ true → ⊥
never-f t = never (sym t)

pub record Diff (z : ℤ) (a b : ℕ) : Type 0 where
  pub eq : a + down z ≡ b + up z

-- every number is one
pub itself : (z : ℤ) → Diff z (up z) (down z)
itself z = record { eq = omega arith }

pub of-pos : (n : ℕ) → Diff (pos n) n 0
of-pos n = record { eq = omega arith }

-- the pair may be shifted
pub shift : {z : ℤ} {a b : ℕ} → Diff z a b → {c d : ℕ} → a + d ≡ c + b → Diff z c d
shift h e = record { eq = omega arith }

-- the pair settles the number
pub same : {y z : ℤ} {a b : ℕ} → Diff y a b → Diff z a b → y ≡ z
same {y = pos k} {z = pos l} h g = ap pos (omega arith)
same {y = pos k} {z = negsuc l} h g = absurd (omega arith)
same {y = negsuc k} {z = pos l} h g = absurd (omega arith)
same {y = negsuc k} {z = negsuc l} h g = ap negsuc (omega arith)

cond_d : (c : Bool) (x y : ℤ) (P : ℤ → Type 0) → (T c → P x) → (T (not c) → P y) → P (cond c x y)
cond_d true x y P f g = f tt
cond_d false x y P f g = g tt

pub of-sub : (a b : ℕ) → Diff (sub_ℕ a b) a b
of-sub a b = cond_d (ltb a b) (negsuc (b - suc a)) (pos (a - b)) (λ z. Diff z a b)
    (λ t. let h = ltb→lt a b t in record { eq = omega arith }) (λ t. let h = nltb→le a b t in record { eq = omega arith })

-- the operations
pub add : {y z : ℤ} {a b c d : ℕ} → Diff y a b → Diff z c d → Diff (y +ℤ z) (a + c) (b + d)
add {y = pos k} {z = pos l} h g = record { eq = omega arith }
add {y = pos k} {z = negsuc l} h g = shift (of-sub k (suc l)) (omega arith)
add {y = negsuc k} {z = pos l} h g = shift (of-sub l (suc k)) (omega arith)
add {y = negsuc k} {z = negsuc l} h g = record { eq = omega arith }

pub neg : {z : ℤ} {a b : ℕ} → Diff z a b → Diff (neg_ℤ z) b a
neg {z = pos zero} h = record { eq = omega arith }
neg {z = pos (suc k)} h = record { eq = omega arith }
neg {z = negsuc k} h = record { eq = omega arith }

pub sub : {y z : ℤ} {a b c d : ℕ} → Diff y a b → Diff z c d → Diff (y -ℤ z) (a + d) (b + c)
sub h g = add h (neg g)

pub scale : (k : ℕ) {z : ℤ} {a b : ℕ} → Diff z a b → Diff (pos k *ℤ z) (k * a) (k * b)
scale k {z = pos n} {a} {b} h = record { eq = omega (arith, ap (λ (x : ℕ). k * x) h.eq, NatL.mul-add k b n) }
scale k {z = negsuc n} {a} {b} h = shift (neg (of-pos (k * suc n))) (omega (arith, ap (λ (x : ℕ). k * x) h.eq, NatL.mul-add k a (suc n)))

-- the order
pub lt-true : {y z : ℤ} {a b c d : ℕ} → Diff y a b → Diff z c d → lt_z y z ≡ true → a + d < c + b
lt-true {y = pos k} {z = pos l} h g t = omega (arith, ltb-true k l t)
lt-true {y = pos k} {z = negsuc l} h g t = absurd (never-f t)
lt-true {y = negsuc k} {z = pos l} h g t = omega arith
lt-true {y = negsuc k} {z = negsuc l} h g t = omega (arith, ltb-true l k t)

pub lt-false : {y z : ℤ} {a b c d : ℕ} → Diff y a b → Diff z c d → lt_z y z ≡ false → c + b ≤ a + d
lt-false {y = pos k} {z = pos l} h g t = omega (arith, ltb-false k l t)
lt-false {y = pos k} {z = negsuc l} h g t = omega arith
lt-false {y = negsuc k} {z = pos l} h g t = absurd (never t)
lt-false {y = negsuc k} {z = negsuc l} h g t = omega (arith, ltb-false l k t)

pub lt_yes : {y z : ℤ} {a b c d : ℕ} → Diff y a b → Diff z c d → a + d < c + b → lt_z y z ≡ true
lt_yes {y = pos k} {z = pos l} h g e = lt-ltb k l (omega arith)
lt_yes {y = pos k} {z = negsuc l} h g e = absurd (omega arith)
lt_yes {y = negsuc k} {z = pos l} h g e = refl
lt_yes {y = negsuc k} {z = negsuc l} h g e = lt-ltb l k (omega arith)

pub lt_no : {y z : ℤ} {a b c d : ℕ} → Diff y a b → Diff z c d → c + b ≤ a + d → lt_z y z ≡ false
lt_no {y = pos k} {z = pos l} h g e = le-ltb k l (omega arith)
lt_no {y = pos k} {z = negsuc l} h g e = refl
lt_no {y = negsuc k} {z = pos l} h g e = absurd (omega arith)
lt_no {y = negsuc k} {z = negsuc l} h g e = le-ltb l k (omega arith)

-- the test on numbers is the test on the pairs: p and q are its two sides
pub lt_same : {y z : ℤ} {a b c d : ℕ} → Diff y a b → Diff z c d → (p q : ℕ) → p ≡ a + d → q ≡ c + b → ltb p q ≡ lt_z y z
lt_same {y} {z} {a} {b} {c} {d} h g p q ep eq = by_cases (dec_lt p q)
  where
    by_cases : Dec (p < q) → ltb p q ≡ lt_z y z
    by_cases (yes l) = lt-ltb p q l ∙ sym (lt_yes h g (omega arith))
    by_cases (no l) = le-ltb p q (omega arith) ∙ sym (lt_no h g (omega arith))

-- the range of a width
pub fits-at : {w : Width} {z : ℤ} {a b : ℕ} → Diff z a b → a < b + 2 ^ hbits w → b ≤ a + 2 ^ hbits w → SFits w z
fits-at {z = pos k} h p q = record { sfits = omega arith }
fits-at {z = negsuc k} h p q = record { sfits = omega arith }

pub up_lt : {w : Width} {z : ℤ} → SFits w z → up z < 2 ^ hbits w
up_lt {z = pos k} f = f.sfits
up_lt {w} {z = negsuc k} f = lt_of_le_of_lt zero-le f.sfits

pub down_le : {w : Width} {z : ℤ} → SFits w z → down z ≤ 2 ^ hbits w
down_le {z = pos k} f = zero-le
down_le {z = negsuc k} f = f.sfits

-- rounding down
pub floor-at : (m : ℕ) {z : ℤ} {a : ℕ} (k : ℕ) → 0 < m → Diff z a (k * m) → Diff (floor_div z m) (a / m) k
floor-at m {z = pos n} {a} k p h =
    record { eq = omega (arith, ap (λ (x : ℕ). x / m) e, digits_div (k + n / m) (NatL.mod-lt n p)) }
  where
    e : a ≡ (k + n / m) * m + n % m
    e = omega (arith, NatL.div-add-mod' n m)
floor-at m {z = negsuc n} {a} k p h =
    record { eq = omega (arith, ap (λ (x : ℕ). x / m) e, digits_div (k - suc (n / m)) r, q) }
  where
    q : n / m < k
    q = (NatL.div-lt_iff_lt-mul p).1 (omega arith)

    r : m - suc (n % m) < m
    r = omega arith

    e : a ≡ (k - suc (n / m)) * m + (m - suc (n % m))
    e = omega (arith, NatL.div-add-mod' n m, NatL.mod-lt n p, ap (λ (x : ℕ). x * m) s)
      where
        s : k ≡ (k - suc (n / m)) + suc (n / m)
        s = omega (arith, q)

-- rounding to the nearest, up at a half
pub half_at : (d : ℕ) {z : ℤ} {a : ℕ} (k : ℕ) → 0 < d → Diff z a (k * d) → Diff (half_up z d) ((2 * a + d) / (2 * d)) k
half_at d k p h = floor-at (2 * d) k (omega arith) (shift (add (scale 2 h) (of-pos d)) (omega arith))

-- not negative
pub pos-at : {z : ℤ} {a b : ℕ} → Diff z a b → b ≤ a → z ≡ pos (a - b)
pos-at h p = same h (record { eq = omega arith })

pub sub_at : {z : ℤ} {a b : ℕ} → Diff z a b → (c d : ℕ) → a + d ≡ c + b → z ≡ sub_ℕ c d
sub_at h c d e = same (shift h e) (of-sub c d)

pub of_eq : {z : ℤ} (a b : ℕ) → z ≡ sub_ℕ a b → Diff z a b
of_eq a b e = rw e (of-sub a b)

pub eq-sub : {z : ℤ} {a b : ℕ} → Diff z a b → z ≡ sub_ℕ a b
eq-sub {z} {a} {b} h = same h (of-sub a b)
