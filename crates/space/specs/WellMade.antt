-- FORMAT.md, Operations: a space that is well made: what validation makes sure of, and what a recipe needs.
use Rattle.std.specs.Prelude.{ℕ, ◌+◌, ◌*◌, ◌≤◌, ◌<◌, ◌≡◌, true, false, length}
use Rattle.std.specs.Int.Signed.{lt_z}
use Rattle.fixed.specs.Numbers.{exponent_supported, gamma_supported}
use Rattle.stack.specs.Flat.{flat}
use Rattle.fixed.specs.Values.{widest}
use Rattle.form.specs.Steps.{taken_by, fitting}
use Rattle.fixed.specs.Sizes.{most_flat}
use Rattle.space.specs.Spaces.{Space, none, gray, rgb, cmyk, cal_gray, cal_rgb, lab, no_mark, every_ink, separation, calculated, indexed, count_of}

-- nesting falls: Indexed 2, Separation 1, plain 0
abbrev pub rank_of : Space → ℕ
rank_of none = 0
rank_of gray = 0
rank_of rgb = 0
rank_of cmyk = 0
rank_of (cal_gray k) = 0
rank_of (cal_rgb k) = 0
rank_of (lab k al ah bl bh) = 0
rank_of (no_mark i) = 0
rank_of every_ink = 0
rank_of (separation e c0 c1 s) = 1
rank_of (calculated i c s) = 1
rank_of (indexed h t s) = 2

-- gammas and exponents within the house limit, ranges in order, programs that leave as many numbers as the alternate has components, hival at most 255, lists as
-- long as the inner space's count asks, and nesting that falls
unfoldable pub WellMade : Space → Type 0
WellMade none = ⊥
WellMade gray = Unit {0}
WellMade rgb = Unit {0}
WellMade cmyk = Unit {0}
WellMade (cal_gray k) = gamma_supported k.gamma ≡ true
WellMade (cal_rgb k) = (gamma_supported k.ga ≡ true) × (gamma_supported k.gb ≡ true) × (gamma_supported k.gc ≡ true)
WellMade (lab k al ah bl bh) = (lt_z ah al ≡ false) × (lt_z bh bl ≡ false)
WellMade (no_mark i) = Unit {0}
WellMade every_ink = Unit {0}
WellMade (separation e c0 c1 s) = (exponent_supported e ≡ true) × (count_of s ≤ widest) × (length c0 ≡ count_of s) × (length c1 ≡ count_of s) × (rank_of s < 1) × WellMade s
WellMade (calculated i c s) = (fitting (taken_by i) (count_of s) c ≡ true) × (length (flat c) ≤ most_flat) × (rank_of s < 1) × WellMade s
WellMade (indexed h t s) = (h ≤ 255) × (length t ≡ count_of s * (h + 1)) × (rank_of s < 2) × WellMade s
