-- FORMAT.md, Decode, by gammas in tenths: v satisfies the inequality, no greater number of 0..10000 does, and only v is so; 10000 stays 10000 and 0 stays 0.
-- And a factor that p and 10 share changes nothing.
use mathlib.Core.Path.{◌≡◌, refl, sym, ◌∙◌}
use mathlib.Core.Bool.{Bool, true, false}
use mathlib.Core.Logic.{◌⊎◌, inl, inr, ⊎_elim}
use Prim.Native.Nat.{ℕ, zero, suc, ◌+◌, ◌*◌, ◌^◌, ◌<◌, ◌≤◌}
use native.Mathlib.Nat.{pow-suc, pow-zero, mul-zero, mul-suc, pow-lt-pow_left, mul-le-mul, pow-le-pow_left, mul-le-mul_right, one-le-pow, le_refl, lt_of_lt_of_le}
use native.Mathlib.Omega.{arith}
use borrow.Author.Tests.{leb-true, leb-false, le-leb, lt-leb}
use lib.Dec.{leb}
use lib.Pow.{pow-add}
use Rattle.tenths.specs.Tenths.{reaches, greatest_of, settled, Greatest}
use Rattle.tenths.proofs.Greatest.{greatest-small, greatest-passes, greatest-above, greatest-is, greatest-same}

-- ---- the test: 0 passes it, and above a number that does not, none does
pub reaches-nought : (e p u : ℕ) → 1 ≤ e → reaches e p u 0 ≡ true
unfolding reaches
reaches-nought zero p u h = absurd (omega arith)
reaches-nought (suc e) p u h = none-most (0 ^ suc e) (10000 ^ p) (u ^ p * 10000 ^ suc e) (pow-suc 0 e ∙ omega arith)
  where
    none-most : (o x y : ℕ) → o ≡ 0 → leb (o * x) y ≡ true
    none-most o x y z = let l : o * x ≤ y = rw z (omega arith) in le-leb _ _ l

pub reaches-falls : (e p u v w : ℕ) → v ≤ w → reaches e p u v ≡ false → reaches e p u w ≡ false
unfolding reaches
reaches-falls e p u v w h f = lt-leb _ _ (lt_of_lt_of_le (leb-false _ _ f) (mul-le-mul_right (10000 ^ p) (pow-le-pow_left h e)))

-- ---- v is the greatest, and the only one

pub found : (p u : ℕ) → Greatest p u (settled p u)
unfolding settled reaches
found p u =
    record {
      within = greatest-small (reaches 10 p u) 10000;
      holds = leb-true _ _ (greatest-passes (reaches 10 p u) 10000 (reaches-nought 10 p u (omega arith)));
      most = λ w l h. leb-false _ _ (greatest-above (reaches 10 p u) 10000 w l h);
    }

pub only : (p u v : ℕ) → Greatest p u v → settled p u ≡ v
unfolding settled reaches
only p u v g = greatest-is (reaches 10 p u) v 10000 g.within (le-leb _ _ g.holds) (λ w l h. lt-leb _ _ (g.most w l h))

-- a number that passes, and the next that does not: what a worked example shows, by computing both tests
pub settled_at : (p u v : ℕ) → v ≤ 10000 → reaches 10 p u v ≡ true → reaches 10 p u (v + 1) ≡ false → settled p u ≡ v
unfolding settled
settled_at p u v h y n = greatest-is (reaches 10 p u) v 10000 h y (λ w l b. let a : v + 1 ≤ w = omega arith in reaches-falls 10 p u (v + 1) w a n)

-- a half by 1.8 and by 2.2, and a ten-thousandth by 2.2 and by 0.1
pub worked : (settled 18 5000 ≡ 2871) × (settled 22 5000 ≡ 2176) × (settled 22 1 ≡ 0) × (settled 1 1 ≡ 3981)
unfolding reaches
worked = (
  settled_at 18 5000 2871 (omega arith) refl refl,
  settled_at 22 5000 2176 (omega arith) refl refl,
  settled_at 22 1 0 (omega arith) refl refl,
  settled_at 1 1 3981 (omega arith) refl refl,
)

-- ---- white stays white, and black stays black

pub settled-white : (p : ℕ) → settled p 10000 ≡ 10000
settled-white p = only p 10000 10000 (record { within = le_refl 10000; holds = turned (10000 ^ 10) (10000 ^ p); most = λ w l h. absurd (omega arith) })
  where
    turned : (a b : ℕ) → a * b ≤ b * a
    turned a b = omega arith

pub settled-black : (p : ℕ) → 1 ≤ p → settled p 0 ≡ 0
settled-black zero h = absurd (omega arith)
settled-black (suc p) h =
    only (suc p) 0 0
    (record {
      within = omega arith;
      holds = none (0 ^ suc p) (10000 ^ suc p) (10000 ^ 10) (pow-suc 0 p ∙ omega arith);
      most = λ w l k. some (w ^ 10) (10000 ^ suc p) (0 ^ suc p) (10000 ^ 10) (one-le-pow 10 w l) (one-le-pow (suc p) 10000 (omega arith)) (pow-suc 0 p ∙ omega arith);
    })
  where
    none : (z y k : ℕ) → z ≡ 0 → 0 * y ≤ z * k
    none z y k e = rw e (omega arith)

    some : (x y z k : ℕ) → 1 ≤ x → 1 ≤ y → z ≡ 0 → z * k < x * y
    some x y z k hx hy e = rw e (omega (arith, mul-le-mul hx hy))

-- ---- a factor that both exponents share changes nothing

-- two comparisons agree where each follows from the other
pub leb-same : (a b c d : ℕ) → (a ≤ b → c ≤ d) → (c ≤ d → a ≤ b) → leb a b ≡ leb c d
leb-same a b c d f g = go (leb a b) (leb c d) refl refl
  where
    go : (s t : Bool) → leb a b ≡ s → leb c d ≡ t → leb a b ≡ leb c d
    go true true e h = e ∙ sym h
    go false false e h = e ∙ sym h
    go true false e h = let le = f (leb-true a b e) in absurd (omega (arith, leb-false c d h))
    go false true e h = let le = g (leb-true c d h) in absurd (omega (arith, leb-false a b e))

mul-pow : (a b n : ℕ) → (a * b) ^ n ≡ a ^ n * b ^ n
mul-pow a b zero = simp pow-zero
mul-pow a b (suc n) = let h = mul-pow a b n in simp (pow-suc, h) (omega arith)

pow-mul : (a m n : ℕ) → a ^ (m * n) ≡ (a ^ m) ^ n
pow-mul a m zero = simp (mul-zero, pow-zero)
pow-mul a m (suc n) = let h = pow-mul a m n in simp (mul-suc, pow-add, pow-suc, h)

by_contra : (a b : ℕ) → (b < a → ⊥) → a ≤ b
by_contra a b f = ⊎_elim (λ t. t) (λ l. absurd (f l)) (either a b (leb a b) refl)
  where
    either : (a b : ℕ) (t : Bool) → leb a b ≡ t → (a ≤ b) ⊎ (b < a)
    either a b true e = inl (leb-true a b e)
    either a b false e = inr (leb-false a b e)

reaches-shared : (g e p u v : ℕ) → 1 ≤ g → reaches (e * g) (p * g) u v ≡ reaches e p u v
unfolding reaches
reaches-shared g e p u v h =
    (λ t. leb (side v 10000 e p t) (side u 10000 p e t)) ∙ leb-same _ _ _ _
    (λ l. by_contra (v ^ e * 10000 ^ p) (u ^ p * 10000 ^ e) (λ m. let k = pow-lt-pow_left {n = g} m (λ z. let y : ⊥ = omega arith in y) in let y : ⊥ = omega arith in y))
    (λ l. pow-le-pow_left l g)
  where
    side : (a b m n : ℕ) → a ^ (m * g) * b ^ (n * g) ≡ (a ^ m * b ^ n) ^ g
    side a b m n = simp (pow-mul, mul-pow)

pub settled-shared : (g e q u p : ℕ) → 1 ≤ g → e * g ≡ 10 → q * g ≡ p → greatest_of (reaches e q u) 10000 ≡ settled p u
unfolding settled
settled-shared g e q u p h he hp =
    greatest-same (reaches e q u) (reaches (e * g) (q * g) u) (λ v. sym (reaches-shared g e q u v h)) 10000
    ∙ (λ t. greatest_of (reaches (he t) (hp t) u) 10000)
