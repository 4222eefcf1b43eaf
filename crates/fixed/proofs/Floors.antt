-- `floor_div z m` is the largest whole number that m times is not above z. What is limited to lo..hi lies there, and a number there stays as it is.
use mathlib.Core.Path.{◌≡◌}
use mathlib.Core.Bool.{false}
use Prim.Native.Nat.{ℕ, ◌+◌, ◌/◌, ◌<◌, ◌≤◌}
use native.Mathlib.Nat.{div-add-mod', mod-lt}
use native.Mathlib.Omega.{arith}
use lib.Dec.{le→leb, lt→ltb}
use lib.IntN.{ℤ, pos, negsuc, ◌+ℤ◌, ◌*ℤ◌}
use lib.Signed.{◌≤ℤ◌, ◌<ℤ◌, lt_z}
use Rattle.fixed.specs.Numbers.{floor_div, limited}
use Rattle.fixed.proofs.Diff.{Diff, itself, of-pos, add, scale, lt-false}
use Rattle.fixed.proofs.Decide.{cond_ind}

pub le_yes : {y z : ℤ} {a b c d : ℕ} → Diff y a b → Diff z c d → a + d ≤ c + b → y ≤ℤ z
le_yes {y = pos k} {z = pos l} h g e = record { le = le→leb k l (omega arith) }
le_yes {y = pos k} {z = negsuc l} h g e = absurd (omega arith)
le_yes {y = negsuc k} {z = pos l} h g e = record { le = tt }
le_yes {y = negsuc k} {z = negsuc l} h g e = record { le = le→leb l k (omega arith) }

pub less-yes : {y z : ℤ} {a b c d : ℕ} → Diff y a b → Diff z c d → a + d < c + b → y <ℤ z
less-yes {y = pos k} {z = pos l} h g e = record { lt = lt→ltb k l (omega arith) }
less-yes {y = pos k} {z = negsuc l} h g e = absurd (omega arith)
less-yes {y = negsuc k} {z = pos l} h g e = record { lt = tt }
less-yes {y = negsuc k} {z = negsuc l} h g e = record { lt = lt→ltb l k (omega arith) }

pub floor-below : (m : ℕ) (z : ℤ) → 0 < m → (pos m *ℤ floor_div z m) ≤ℤ z
floor-below m (pos n) p = le_yes (scale m (itself (pos (n / m)))) (itself (pos n)) (omega (arith, div-add-mod' n m))
floor-below m (negsuc n) p = le_yes (scale m (itself (negsuc (n / m)))) (itself (negsuc n)) (omega (arith, div-add-mod' n m, mod-lt n p))

pub floor-above : (m : ℕ) (z : ℤ) → 0 < m → z <ℤ (pos m *ℤ (floor_div z m +ℤ pos 1))
floor-above m (pos n) p = less-yes (itself (pos n)) (scale m (add (itself (pos (n / m))) (of-pos 1))) (omega (arith, div-add-mod' n m, mod-lt n p))
floor-above m (negsuc n) p = less-yes (itself (negsuc n)) (scale m (add (itself (negsuc (n / m))) (of-pos 1))) (omega (arith, div-add-mod' n m))

-- ---- limits

-- where hi is not below lo
not-less : (lo hi : ℤ) → lt_z hi lo ≡ false → lo ≤ℤ hi
not-less lo hi h = le_yes (itself lo) (itself hi) (omega (arith, lt-false (itself hi) (itself lo) h))

module _ (lo hi v : ℤ) where
  pub limited-low : lt_z hi lo ≡ false → lo ≤ℤ limited lo hi v
  unfolding limited
  limited-low h =
      cond_ind (λ z. lo ≤ℤ z) (lt_z v lo) (λ _. le_yes (itself lo) (itself lo) (omega arith)) (λ t.
      cond_ind (λ z. lo ≤ℤ z) (lt_z hi v) (λ _. not-less lo hi h) (λ _. not-less lo v t))

  pub limited-high : lt_z hi lo ≡ false → limited lo hi v ≤ℤ hi
  unfolding limited
  limited-high h =
      cond_ind (λ z. z ≤ℤ hi) (lt_z v lo) (λ _. not-less lo hi h) (λ _.
      cond_ind (λ z. z ≤ℤ hi) (lt_z hi v) (λ _. le_yes (itself hi) (itself hi) (omega arith)) (λ t. not-less v hi t))

  pub limited-inside : lt_z v lo ≡ false → lt_z hi v ≡ false → limited lo hi v ≡ v
  unfolding limited
  limited-inside p q = rw (p, q)
