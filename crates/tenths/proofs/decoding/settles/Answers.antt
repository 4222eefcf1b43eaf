-- The three arms compare the product of v with the limbs of x, by one law, `probed`.
use Prim.Native.Nat.{◌+◌, ◌/◌}
use mathlib.Core.Path.{sym, ap, ◌∙◌}
use native.Mathlib.Omega.{arith}
use lib.Seq.{take_all, length-take-le}
use lib.Dec.{leb}
use Prim.Native.Nat.{ℕ}
use Rattle.tenths.specs.Limbs.{value_of}
use Rattle.tenths.proofs.Order.{limbs-zeros, limbs-take}
use Rattle.tenths.proofs.Search.{probed}
use Rattle.tenths.proofs.decoding.settles.Goals as goal

pub product-requires : goal.product-requires
product-requires c = (omega arith, omega arith, limbs-zeros 6)

pub at_most-requires : goal.at_most-requires
at_most-requires c =
    let y = c.product in
    (length-take-le 4 y.new.n (omega (arith, y.auto.n)) ∙ omega arith, limbs-take 4 y.new.n y.ensures.0, c.requires.3)

pub returns-in-5 : goal.returns-in-5
returns-in-5 c =
    let s = c.args in
    probed s.v s.e ((s.e + 1) / 2) 5 3 s.x.now c.product.new.n c.at_most.result (omega arith) (omega arith) (omega arith) c.product.ensures.1
    c.at_most.ensures

pub returns-in-10 : goal.returns-in-10
returns-in-10 c =
    let s = c.args in
    let y = c.product-in-10 in
    let whole = ap value_of (take_all 6 y.new.n (omega (arith, y.auto.n))) in
    probed s.v s.e ((s.e + 1) / 2) 10 5 s.x.now y.new.n c.at_most-in-10.result (omega arith) (omega arith) (omega arith) y.ensures.1
    (c.at_most-in-10.ensures ∙ ap (λ (n : ℕ). leb n (value_of s.x.now)) (sym whole))

pub returns-in_default : goal.returns-in_default
returns-in_default c =
    let s = c.args in
    probed s.v s.e ((s.e + 1) / 2) s.e c.div_ceil-k.result s.x.now c.product-in_default.new.n c.at_most-in_default.result (omega arith) (omega (arith, c.div_ceil-k.ensures)) (omega arith)
    c.product-in_default.ensures.1 c.at_most-in_default.ensures
