-- The table's rule is computed once, over all of its entries, and carried to each.
use mathlib.Core.Path.{◌≡◌, refl}
use mathlib.Core.Bool.{true}
use Prim.Native.Nat.{ℕ}
use lib.IntN.{ℤ, pos}
use Rattle.fixed.specs.Loops.{all_from}
use Rattle.fixed.specs.Numbers.{palette_value, OverOne}
use Rattle.fixed.proofs.OverOne.{over_one}
use Rattle.fixed.proofs.Tables.{right, entry-is}
use Rattle.fixed.proofs.rounding.over_one.Goals as goal

-- what a palette byte is over 0..1
rule : ℕ → ℤ
rule k = palette_value k (pos 0) (pos 1000000)

-- each of the 256 entries is that
all : all_from (right rule over_one) 0 256 ≡ true
unfolding all_from palette_value rule over_one
all = refl

pub returns : goal.returns
unfolding rule over_one OverOne
returns c = entry-is rule over_one 256 all
