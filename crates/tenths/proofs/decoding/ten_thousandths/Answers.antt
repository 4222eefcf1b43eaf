-- `ten_thousandths` is `ten_thousandths`: the component's nearer end is what `unit_part` gives.
use native.Mathlib.Omega.{arith}
use Rattle.fixed.proofs.Signs.{signed_back}
use Rattle.tenths.proofs.decoding.ten_thousandths.Goals as goal

pub returns : goal.returns
returns c = record { is = rw (c.unit_part.ensures.is, signed_back c.ranges.a); small = omega arith }
