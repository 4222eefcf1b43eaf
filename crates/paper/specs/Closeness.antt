-- FORMAT.md, Worked values, White and tints: CalGray 1 and Lab (100, 0, 0) give exactly the white point's floats, and the components that a tint makes are close to the exact ones.
-- One statement, each part under the words of the customer's request.
use Rattle.std.specs.Prelude.{◌≡◌, false, List, [], ◌∷◌, ℕ, ◌*◌, ◌^◌, ◌≤◌, ◌<◌, ℤ, pos, nat_abs, ◌+ℤ◌, ◌-ℤ◌, ◌*ℤ◌, ◌≤ℤ◌}
use Rattle.fixed.specs.Numbers.{float, limited, tint_power, tint_value}
use Rattle.fixed.specs.Values.{places, value, started, tint_step}
use Rattle.cie.specs.declared.GrayClosing.{GrayClosing}
use Rattle.cie.specs.declared.LabClosing.{LabClosing}
use Rattle.cie.specs.Answers.{Reply, answer, in_xyz}
use Rattle.space.specs.Spaces.{Space, cal_gray, lab, separation, count_of}
use Rattle.space.specs.Pages.{space_at}
use Rattle.page.specs.Outcomes.{accepted}
use Rattle.page.specs.Validation.{validated}
use Rattle.colour.specs.Evaluating.{evaluated}
use Rattle.paper.specs.Paper.{Within}

-- the white point's floats, of its X and Z in millionths; nothing was moved
abbrev pub white_reply : ℤ → ℤ → Reply
white_reply xw zw = answer in_xyz (float xw ∷ float (pos 1000000) ∷ float zw ∷ []) false

-- a number of 0..1
pub record InUnit (z : ℤ) : Type 0 where
  pub low : pos 0 ≤ℤ z
  pub high : z ≤ℤ pos 1000000

-- 10^(6e)
abbrev pub scale : ℕ → ℕ
scale e = 1000000 ^ e

-- the exact component, 10^(6e) times: 10^(6e) C0 + x^e (C1 - C0), x being the limited tint in millionths
abbrev pub exact : ℕ → ℕ → ℤ → ℤ → ℤ
exact e x c0 c1 = pos (scale e) *ℤ c0 +ℤ pos (x ^ e) *ℤ (c1 -ℤ c0)

-- r is within two millionths of it: |10^(6e) r - exact| <= 2 × 10^(6e), on either side
pub record WithinTwo (e x : ℕ) (c0 c1 r : ℤ) : Type 0 where
  pub above : (pos (scale e) *ℤ r) ≤ℤ (exact e x c0 c1 +ℤ pos (2 * scale e))
  pub below : exact e x c0 c1 ≤ℤ (pos (scale e) *ℤ r +ℤ pos (2 * scale e))

-- the limited tint of a component, in millionths
abbrev pub limited_tint : ℤ → ℕ
limited_tint z = nat_abs (limited (pos 0) (pos 1000000) z)

pub record WhiteAndTints : Type 0 where
  -- "CalGray 1, under any carried gamma": of every CalGray space of an accepted page
  pub gray-white : (page : List ℕ) (n : ℕ) (k : GrayClosing) → validated page ≡ accepted → space_at page n ≡ cal_gray k
      → evaluated page n (pos 1000000 ∷ []) ≡ white_reply k.xw k.zw
  -- "and Lab (100,0,0) with 0 in both ranges give exactly the white point's floats"
  pub lab-white : (page : List ℕ) (n : ℕ) (k : LabClosing) (al ah bl bh : ℤ) → validated page ≡ accepted → space_at page n ≡ lab k al ah bl bh → Within al ah → Within bl bh
      → evaluated page n (pos 100000000 ∷ pos 0 ∷ pos 0 ∷ []) ≡ white_reply k.xw k.zw
  -- "For exponents 1 to 4, C0 and C1 in 0..1, an alternate component, before its limits, is within two millionths of the exact C0 + x^e (C1 - C0), x the limited
  -- tint, stated over whole numbers"
  pub tint-close : (e x : ℕ) (c0 c1 : ℤ) → 1 ≤ e → e ≤ 4 → x ≤ 1000000 → InUnit c0 → InUnit c1 → WithinTwo e x c0 c1 (tint_value c0 c1 (tint_power x e))
  -- so is what a Separation of an accepted page hands its alternate, in each component, for every tint
  pub handed-close : (page : List ℕ) (n e : ℕ) (c0 c1 : List ℤ) (s : Space) → validated page ≡ accepted → space_at page n ≡ separation e c0 c1 s
      → (tint : ℤ) (k : ℕ) → k < count_of s → InUnit (value c0 k) → InUnit (value c1 k)
      → WithinTwo e (limited_tint tint) (value c0 k) (value c1 k) (value (tint_step e (count_of s) c0 c1 (started places (tint ∷ []))).values k)
