-- v is at most 10000, so it is a float exactly; and v / 10000 is `decoded_tenths`.
use native.Mathlib.Omega.{arith}
use lib.IntN.{pos}
use Rattle.fixed.proofs.Signs.{signed_back}
use Rattle.tenths.specs.Tenths.{decoded_tenths}
use Rattle.tenths.proofs.Floats.{in-float}
use Rattle.tenths.proofs.Settled.{found}
use Rattle.tenths.proofs.decoding.decode_tenths.Goals as goal

pub int_to_float-result : goal.int_to_float-result
int_to_float-result c =
    let e = c.settle.ensures in
    let h = (found c.args.p c.ten_thousandths.result).within in
    in-float (pos _) (omega arith)

pub returns : goal.returns
unfolding decoded_tenths
returns c = rw (c.settle.ensures, c.ten_thousandths.ensures.is, signed_back c.ranges.a)
