-- `validate`: 1 where the length is refused, and else what the first pass finds, and where that is nothing the second.
use mathlib.Core.Path.{◌≡◌, refl, sym, ◌∙◌}
use Prim.Native.Nat.{ℕ}
use native.Mathlib.Omega.{arith}
use Rattle.std.proofs.lemmas.Result.{err_from_is_err_and}
use Rattle.fixed.proofs.Decide.{is-yes, is-no}
use Rattle.page.specs.Outcomes.{Outcome, accepted, refused, and_then}
use Rattle.page.specs.Validation.{validated}
use Rattle.page.proofs.Sizes.{sized-whole, sized-most}
use Rattle.page.proofs.validating.validate.Goals as goal

-- x is what the first pass comes to, and y the second
goes_on : (y : Outcome) {x r : Outcome} → accepted ≡ x → r ≡ y → r ≡ and_then x y
goes_on y e h = rw (← e) h

stops : (number block : ℕ) (y : Outcome) {x : Outcome} → refused number block ≡ x → refused number block ≡ and_then x y
stops number block y e = rw (← e)

pub returns-then-not-is_well_sized : goal.returns-then-not-is_well_sized
unfolding validated
returns-then-not-is_well_sized c =
    rw (c.of_block.ensures.is, c.of_block.ensures.about) (is-no _ _ _ _ c.is_well_sized.ensures (c.if-not-is_well_sized.true) refl)

pub overflow_cast-n : goal.overflow_cast-n
overflow_cast-n c =
    omega (arith, sized-most _ (sym c.is_well_sized.ensures ∙ c.if-not-is_well_sized.false))

pub pass_one-requires : goal.pass_one-requires
pass_one-requires c =
    (sized-most _ (sym c.is_well_sized.ensures ∙ c.if-not-is_well_sized.false), omega (arith, sized-whole _ (sym c.is_well_sized.ensures ∙ c.if-not-is_well_sized.false)))

pub pass_two-requires : goal.pass_two-requires
pass_two-requires c = sized-most _ (sym c.is_well_sized.ensures ∙ c.if-not-is_well_sized.false)

pub returns-in_err-pass_one : goal.returns-in_err-pass_one
unfolding validated
returns-in_err-pass_one c =
    let p = err_from_is_err_and c.from_residual.result c.from_residual.ensures.1 in
    rw (p.1, p.2) (is-yes _ _ _ _ c.is_well_sized.ensures (c.if-not-is_well_sized.false) (stops _ _ _ c.in_err-pass_one.ensures))

pub returns : goal.returns
unfolding validated
returns c =
    is-yes _ _ _ _ c.is_well_sized.ensures (c.if-not-is_well_sized.false) (goes_on _ c.in_ok-pass_one.ensures c.pass_two.ensures)
