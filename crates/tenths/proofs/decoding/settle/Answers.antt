-- Each exit is the search by exponents whose shared factor, 2, 5 or none, is taken out.
use Rattle.tenths.specs.Tenths.{settled}
use Rattle.tenths.proofs.Settled.{settled-shared}
use Prim.Native.Nat.{◌/◌}
use mathlib.Core.Path.{refl, ◌∙◌}
use native.Mathlib.Omega.{arith}
use Rattle.tenths.proofs.decoding.settle.Goals as goal

pub returns-then-p-eq0 : goal.returns-then-p-eq0
returns-then-p-eq0 c =
    let s = c.args in c.bisect.ensures ∙ settled-shared 2 5 (s.p / 2) s.u s.p (omega arith) refl (omega arith)

pub returns-then-p-eq0-2 : goal.returns-then-p-eq0-2
returns-then-p-eq0-2 c =
    let s = c.args in c.bisect-then-p-eq0-2.ensures ∙ settled-shared 5 2 (s.p / 5) s.u s.p (omega arith) refl (omega arith)

pub returns-else-p-eq0-2 : goal.returns-else-p-eq0-2
unfolding settled
returns-else-p-eq0-2 c = c.bisect-else-p-eq0-2.ensures
