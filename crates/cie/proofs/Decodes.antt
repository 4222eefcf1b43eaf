-- `decodes`: what FORMAT.md, Decode, says of every gamma, from the definitions alone.
use mathlib.Core.Path.{◌≡◌, sym, ap, ◌∙◌}
use mathlib.Core.Bool.{true, true≢false}
use Prim.Native.Nat.{ℕ, ◌*◌, ◌/◌, ◌%◌}
use native.Mathlib.Omega.{arith}
use borrow.Author.Tests.{eq-eqb, ne_eqb, eqb-true, leb-true}
use lib.IntN.{ℤ, pos, negsuc}
use lib.Ieee.{binary64, div, of_int}
use lib.Dec.{eqb, leb}
use Rattle.fixed.specs.Numbers.{float, most_tenths, gamma_supported}
use Rattle.fixed.proofs.Decide.{and_left, and_right}
use Rattle.tenths.specs.Tenths.{Greatest, settled, ten_thousandths, ten_thousand, decoded_tenths}
use Rattle.cie.specs.Steps.{tenths_of, decoded_whole, decoded}
use Rattle.cie.specs.Decodes.{Decodes}
use Rattle.tenths.proofs.Settled.{found, only}
use Rattle.cie.proofs.Facts.{decoded-one, decoded-nought}

carried : (gamma : ℤ) → gamma_supported gamma ≡ true → gamma ≡ pos (100000 * tenths_of gamma)
unfolding gamma_supported tenths_of
carried (pos n) e =
    let z : n % 100000 ≡ 0 = eqb-true (n % 100000) 0 (and_left (eqb (n % 100000) 0) _ e) in
    let l = leb-true (n / 100000) most_tenths (and_right (leb 1 (n / 100000)) _ (and_right (eqb (n % 100000) 0) _ e)) in
    ap pos (omega arith)
carried (negsuc n) e = absurd (true≢false (sym e))

whole : (n : ℕ) (a : ℤ) → decoded (10 * n) a ≡ decoded_whole (float a) n
unfolding decoded
whole n a =
    let z : (10 * n) % 10 ≡ 0 = omega arith in
    let d : (10 * n) / 10 ≡ n = omega arith in
    rw (eq-eqb ((10 * n) % 10) 0 z, d)

tenths : (p : ℕ) (a : ℤ) (v : ℕ) → (p % 10 ≡ 0 → ⊥) → Greatest p (ten_thousandths a) v → decoded p a ≡ div binary64 (of_int binary64 (pos v)) ten_thousand
unfolding decoded decoded_tenths
tenths p a v h g = rw (ne_eqb (p % 10) 0 h, only p (ten_thousandths a) v g)

pub decodes : Decodes
decodes =
    record {
      carried = carried;
      whole = whole;
      tenths = tenths;
      found = λ p u. (settled p u, found p u);
      only = λ p u v w g h. sym (only p u v g) ∙ only p u w h;
      white = decoded-one;
      black = decoded-nought;
    }
