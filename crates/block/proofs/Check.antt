-- The check looks at the first 508 bytes alone, and its two numbers have two bytes' room.
use mathlib.Core.Path.{◌≡◌, ap}
use mathlib.Core.List.{List}
use Prim.Native.Nat.{ℕ, ◌+◌, ◌-◌, ◌*◌, ◌%◌, ◌<◌}
use native.Mathlib.Nat.{mod-lt}
use native.Mathlib.Omega.{arith}
use lib.ListN.{length, get_or}
use Rattle.fixed.proofs.Totals.{total-same}
use Rattle.layout.proofs.Held.{Holds}
use Rattle.record.specs.Layout.{plain, weighed}

module _ (b s : List ℕ) (e : length s ≡ 508) (h : Holds b 0 s) where
  at : (k : ℕ) → k < 508 → get_or b k 0 ≡ get_or s k 0
  at k p = let q : 0 + k ≡ k = omega arith in rw q at (h.each k (omega arith))

  pub plain-same : plain b ≡ plain s
  unfolding plain
  plain-same = ap (λ (n : ℕ). n % 65535) (total-same _ _ 508 at)

  pub weighed-same : weighed b ≡ weighed s
  unfolding weighed
  weighed-same = ap (λ (n : ℕ). n % 65535) (total-same _ _ 508 (λ k p. ap (λ (x : ℕ). (508 - k) * x) (at k p)))

small : (n : ℕ) → n % 65535 < 65536
small n = let big : 0 < 65535 = omega arith in omega (arith, mod-lt n big)

pub plain-small : (s : List ℕ) → plain s < 65536
unfolding plain
plain-small s = small _

pub weighed-small : (s : List ℕ) → weighed s < 65536
unfolding weighed
weighed-small s = small _
