-- Each return is the branch of `fitted` that its test leads to.
use Prim.Native.Nat.{◌-◌}
use mathlib.Core.Path.{◌∙◌}
use native.Mathlib.Omega.{arith}
use Rattle.fixed.proofs.Signs.{signed_is}
use Rattle.stack.proofs.Fits.{fit_low, fit-high, fit_mid}
use Rattle.stack.proofs.numbers.fit.Goals as goal

pub returns-then-q-k : goal.returns-then-q-k
returns-then-q-k c = fit_low c.args.q c.args.k (omega arith)

pub returns-then-u-gt4294967295 : goal.returns-then-u-gt4294967295
returns-then-u-gt4294967295 c = fit-high c.args.q c.args.k (omega arith)

pub returns : goal.returns
returns c =
    signed_is c.lowered.result c.lowered.type_inv (c.lowered.ensures ∙ fit_mid c.args.q c.args.k (omega arith) (omega arith) (c.args.q - (c.args.k - 2147483648)) (omega arith))
