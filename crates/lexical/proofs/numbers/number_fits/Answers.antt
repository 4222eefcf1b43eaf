-- A raw number past 2³¹ is too large at any scale.
use mathlib.Core.Path.{sym}
use native.Mathlib.Omega.{arith}
use Prim.Native.Nat.{◌<◌}
use Rattle.lexical.specs.Numbers.{fits, millionths}
use Rattle.lexical.proofs.Values.{grows, past, and_no}
use Rattle.lexical.proofs.numbers.number_fits.Goals as goal

pub returns-then-n-gt-LARGEST : goal.returns-then-n-gt-LARGEST
unfolding fits
returns-then-n-gt-LARGEST c =
    let g : 2147483648 < millionths c.args.n = rw (sym c.scale-s.ensures.is) (omega (arith, grows c.args.n.raw c.scale-s.result c.scale-s.ensures.small.0)) in
    simp (past c.args.n.minus (millionths c.args.n) g, and_no)
