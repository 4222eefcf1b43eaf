-- What a signed number that went through a local or a call is, and what a test of it says, of the number and not of its bits.
use mathlib.Core.Path.{◌≡◌, refl, sym, ◌∙◌, subst}
use mathlib.Core.Bool.{Bool, true, false, true≢false}
use native.Mathlib.Omega.{arith}
use lib.IntN.{ℤ, pos, negsuc, nat_abs}
use lib.Dec.{T}
use lib.Signed.{mag, lt_z, le_z, non_neg}
use Prim.Native.Nat.{◌<◌, ◌^◌}
use borrow.Author.Tests.{leb-true, le-ltb}
use mir.Syntax.{Width, w32}
use mir.Val.{Fits, SFits, to_z, of_z}
use mir.ValLaws.{to_z-of_z}

-- a signed number that went through a local or into a call is itself: what a callee says of a signed argument, it says of that number
pub signed_back : {w : Width} {z : ℤ} → SFits w z → to_z w (of_z w z) ≡ z
signed_back {w} {z} f = to_z-of_z w z f

-- the same from the bare bound, as a call's `.ok`, a slice's `.v .given` and a struct's `.struct_told .given` have it
pub signed-within : (z : ℤ) → mag z < 2 ^ 31 → to_z w32 (of_z w32 z) ≡ z
signed-within z h = signed_back {w = w32} (record { sfits = h })

-- and of a number that is said to be y
pub signed_is : (z : ℤ) {y : ℤ} → mag z < 2 ^ 31 → z ≡ y → to_z w32 (of_z w32 z) ≡ y
signed_is z h e = signed-within z h ∙ e

-- a number that is not below 0, and its size as an unsigned one
pub sign : (z : ℤ) → lt_z z (pos 0) ≡ false → T (non_neg z)
sign (pos n) e = tt
sign (negsuc n) e = subst (λ (b : Bool). T b) e tt

pub fit : (z : ℤ) → mag z < 2 ^ 31 → T (non_neg z) → Fits w32 (nat_abs z)
fit (pos n) h t = record { fits = omega arith }
fit (negsuc n) h t = absurd t

-- what is at most b has no b below it
pub not-above : (a b : ℤ) → le_z a b ≡ true → lt_z b a ≡ false
not-above (pos a) (pos b) h = le-ltb b a (leb-true a b h)
not-above (pos a) (negsuc b) h = absurd (true≢false (sym h))
not-above (negsuc a) (pos b) h = refl
not-above (negsuc a) (negsuc b) h = le-ltb a b (leb-true b a h)
