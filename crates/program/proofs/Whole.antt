-- Counts: what is not whole, or missing, is refused by judging; what is written of a whole one is read as it.
use mathlib.Core.Path.{◌≡◌, refl, ap}
use mathlib.Core.Bool.{Bool, true, false, cond, ◌&&◌}
use mathlib.Core.List.{List}
use Prim.Native.Nat.{ℕ, zero, suc, ◌+◌, ◌*◌, ◌/◌, ◌%◌, ◌<◌}
use native.Mathlib.Omega.{arith}
use lib.IntN.{ℤ, pos, negsuc, neg_ℤ, nat_abs}
use lib.Signed.{lt_z}
use lib.Dec.{eqb, leb}
use lib.ListN.{length}
use borrow.Author.Tests.{leb-true, le-ltb, eq-eqb}
use Rattle.stack.specs.Stack.{most}
use Rattle.stack.specs.Programs.{Code, act}
use Rattle.stack.specs.Judging.{Judged, wrong, typed, fine, judged, then_j}
use Rattle.stack.specs.Operators.{signed_by}
use Rattle.program.specs.Parse.{Count, whole!, broken, count_z, millions, spoiled, rolling, whole, parsed}
use Rattle.program.specs.Spelling.{written, Within}
use Rattle.program.proofs.Spelled.{parsed-spelled}

-- a height is not both past every stack and within the stack
none-so-high : (h : ℕ) (k : Bool) → (leb 4294967295 h && (leb (h + 4294967295) most && k)) ≡ false
none-so-high h k = by (leb 4294967295 h) (leb (h + 4294967295) most) refl
  where
    by : (a b : Bool) → leb (h + 4294967295) most ≡ b → (a && (b && k)) ≡ false
    by false b e = refl
    by true false e = refl
    by true true e = absurd (omega (arith, leb-true (h + 4294967295) most e))

pub spoiled-wrong : (ks : List ℤ) → typed spoiled ks ≡ wrong
unfolding typed fine
spoiled-wrong ks = rw (none-so-high (length ks) true)

-- so roll with a second count that is not whole is refused, whatever the first is; and so is one with a first that is not whole
pub second-wrong : (n : Count) (c : Code) (ks : List ℤ) → judged (act (rolling n broken) c) ks ≡ wrong
unfolding judged
second-wrong (whole! n) c ks = ap (λ (x : Judged). then_j x (judged c)) (spoiled-wrong ks)
second-wrong broken c ks = ap (λ (x : Judged). then_j x (judged c)) (spoiled-wrong ks)

pub first-wrong : (j : Count) (c : Code) (ks : List ℤ) → judged (act (rolling broken j) c) ks ≡ wrong
unfolding judged
first-wrong j c ks = ap (λ (x : Judged). then_j x (judged c)) (spoiled-wrong ks)

-- ---- a count that is written is read

pub count_of : (z : ℤ) (n : ℕ) (minus : Bool) → nat_abs z ≡ n * 1000000 → lt_z z (pos 0) ≡ minus → count_z z ≡ whole! (signed_by minus n)
unfolding count_z
count_of z n minus e f =
    let r : eqb (nat_abs z % 1000000) 0 ≡ true = eq-eqb (nat_abs z % 1000000) 0 (let g : nat_abs z % 1000000 ≡ 0 = omega arith in g) in
    let q : nat_abs z / 1000000 ≡ n = omega arith in
    λ i. cond (r i) (whole! (signed_by (f i) (q i))) broken

abs-negative : (m : ℕ) → nat_abs (neg_ℤ (pos m)) ≡ m
abs-negative zero = refl
abs-negative (suc m) = refl

below-zero : (m : ℕ) → 0 < m → lt_z (neg_ℤ (pos m)) (pos 0) ≡ true
below-zero zero lt = absurd (omega arith)
below-zero (suc m) lt = refl

pub count-millions : (n : ℤ) → count_z (millions n) ≡ whole! n
count-millions (pos n) = count_of (pos (n * 1000000)) n false refl (le-ltb (n * 1000000) 0 (omega arith))
count-millions (negsuc n) = count_of (neg_ℤ (pos (suc n * 1000000))) (suc n) true (abs-negative (suc n * 1000000)) (below-zero (suc n * 1000000) (omega arith))

-- every program can be written, and is read as it is written
pub read-written : (c : Code) → Within 7 c → parsed count_z (written millions c) ≡ whole c
read-written c wi = parsed-spelled count_z millions count-millions c wi
