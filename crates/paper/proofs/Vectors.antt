-- The worked checks: free block 5 has check 5 and 2525; CalGray block 0, white 0.9505 1 1.089, black 0, gamma 1, has check 1066 and 3030.
use mathlib.Core.Path.{◌≡◌, refl}
use Rattle.fixed.specs.Bytes.{two_bytes, four_bytes}
use Rattle.fixed.specs.Loops.{total}
use Rattle.layout.specs.Field.{padded}
use Rattle.record.specs.Layout.{head_of, plain, weighed}
use Rattle.paper.specs.Paper.{free5, gray0}

pub free-check : (plain (head_of free5) ≡ 5) × (weighed (head_of free5) ≡ 2525)
unfolding head_of plain weighed total two_bytes four_bytes padded
free-check = (refl, refl)

pub gray-check : (plain (head_of gray0) ≡ 1066) × (weighed (head_of gray0) ≡ 3030)
unfolding head_of plain weighed total two_bytes four_bytes padded
gray-check = (refl, refl)
