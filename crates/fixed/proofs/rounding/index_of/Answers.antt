-- The rounded number, raised by 2148, is the quotient: where that lies says which row it picks, and whether it lies outside.
use mathlib.Core.Path.{◌≡◌, sym, ap, subst, ◌∙◌}
use Prim.Native.Nat.{ℕ, ◌+◌, ◌/◌, ◌^◌}
use native.Mathlib.Omega.{arith}
use lib.Dec.{lit<}
use lib.IntN.{ℤ, sub_ℕ}
use Rattle.fixed.specs.Numbers.{half_up, index_outside}
use Rattle.fixed.proofs.Diff.{Diff, of_eq, shift, half_at}
use Rattle.fixed.proofs.Round.{low, mid, high, halves}
use Rattle.fixed.proofs.Signs.{signed_back}
use Rattle.fixed.proofs.rounding.index_of.Goals as goal

-- u is v raised by 2^31
quotient : (v : ℤ) (u : ℕ) → v ≡ sub_ℕ u (2 ^ 31) → Diff (half_up v 1000000) ((u + 1016352) / 1000000) 2148
quotient v u e =
    let from : u + 516352 + 500000 ≡ u + 1016352 = omega arith in
    subst (λ (n : ℕ). Diff (half_up v 1000000) n 2148) (halves (u + 516352) ∙ ap (λ (n : ℕ). n / 1000000) from)
    (half_at 1000000 2148 (lit< tt) (shift (of_eq u (2 ^ 31) e) (omega arith)))

pub returns-in-None : goal.returns-in-None
unfolding index_outside
returns-in-None c = low c.args.hival (quotient _ c.raised-u.result (sym (signed_back c.ranges.v) ∙ c.raised-u.ensures.1)) (omega (arith, c.in-None.ensures))

pub returns-in-Some : goal.returns-in-Some
unfolding index_outside
returns-in-Some c =
    rw c.in-Some.ensures.1
    (mid c.args.hival (quotient _ c.raised-u.result (sym (signed_back c.ranges.v) ∙ c.raised-u.ensures.1)) (omega (arith, c.in-Some.ensures)) (omega (arith, c.in-Some.ensures)))

pub returns-in-Some-2 : goal.returns-in-Some-2
unfolding index_outside
returns-in-Some-2 c =
    high c.args.hival (quotient _ c.raised-u.result (sym (signed_back c.ranges.v) ∙ c.raised-u.ensures.1)) (omega (arith, c.in-Some.ensures))
