-- The worked lines that are marked P (FORMAT.md, Worked values): one theorem.
use mathlib.Core.Path.{◌≡◌, refl}
use Prim.Native.Nat.{ℕ, ◌≤◌, zero-le}
use lib.IntN.{pos, negsuc}
use borrow.Author.Tests.{le-ltb}
use Rattle.fixed.specs.Numbers.{limited, palette_value}
use Rattle.fixed.specs.Bytes.{two_at, two_bytes, four_bytes}
use Rattle.fixed.specs.Loops.{total}
use Rattle.fixed.specs.Values.{index_of}
use Rattle.layout.specs.Field.{padded}
use Rattle.record.specs.Layout.{head_of, plain, weighed, block_of}
use Rattle.cie.proofs.Facts.{at_8, below-8}
use Rattle.page.proofs.Empty.{zero-accepted, zero-count}
use Rattle.paper.specs.Paper.{Paper, free5, gray0}
use Rattle.paper.proofs.Vectors.{free-check, gray-check}
use Rattle.paper.proofs.Labs.{lab-100, lab-0}
use Rattle.paper.proofs.Grays.{gray-1, gray-minus-3}
use Rattle.paper.proofs.Tints.{tint-1, tint-0}

-- ---- the bytes of the two checks

free_bytes : (two_at (block_of free5) 508 ≡ 5) × (two_at (block_of free5) 510 ≡ 2525)
unfolding block_of head_of plain weighed total two_bytes four_bytes padded
free_bytes = (refl, refl)

gray-bytes : (two_at (block_of gray0) 508 ≡ 1066) × (two_at (block_of gray0) 510 ≡ 3030)
unfolding block_of head_of plain weighed total two_bytes four_bytes padded
gray-bytes = (refl, refl)

-- ---- an index, rounded half up and then limited, and a palette byte

row-3 : (hival : ℕ) → 3 ≤ hival → index_of (pos 2500000) hival ≡ 3
unfolding index_of limited
row-3 hival le = rw (le-ltb hival 3 le)

row-0 : (hival : ℕ) → index_of (negsuc 499999) hival ≡ 0
unfolding index_of limited
row-0 hival = rw (le-ltb hival 0 zero-le)

b5 : palette_value 0xB5 (pos 0) (pos 1000000) ≡ pos 709804
unfolding palette_value
b5 = refl

-- ---- the theorem

pub paper : Paper
paper =
    record {
      free-check = record { sum = free-check.0; weighted = free-check.1; bytes508 = free_bytes.0; bytes510 = free_bytes.1 };
      zeros-accepted = zero-accepted;
      zeros-no-spaces = zero-count;
      gray-check = record { sum = gray-check.0; weighted = gray-check.1; bytes508 = gray-bytes.0; bytes510 = gray-bytes.1 };
      gray-1 = gray-1;
      gray-minus-3 = gray-minus-3;
      lab-100 = λ k al ah bl bh wa wb. lab-100 k al ah bl bh wa wb;
      lab-0 = λ k al ah bl bh wx wz wa wb. lab-0 k al ah bl bh wa wb wx wz;
      lab-8-branches = record { by_first = refl; by-second = refl; by-third = refl };
      lab-8 = at_8;
      lab-below-8-branches = record { by_first = refl; by-second = refl; by-third = refl };
      lab-below-8 = below-8;
      index-2-5 = row-3;
      index-minus-0-5 = row-0;
      byte-b5 = b5;
      tint-1 = tint-1;
      tint-0 = tint-0;
    }
