-- FORMAT.md, The recipe of a space: its count, limits in component order (none for a Separation named None), the closing step. Indexed puts step 2 and Separation step 3, or
-- step 12 with its program, in place of their limits, before those of the inner space.
use Rattle.std.specs.Prelude.{ℕ, zero, suc, List, [], ◌∷◌, ◌++◌, ℤ, pos, length}
use Rattle.stack.specs.Flat.{flat}
use Rattle.form.specs.Steps.{head_words}
use Rattle.cie.specs.declared.Closing.{Closing}
use Rattle.cie.specs.declared.Closing.TheVariants.{Nothing, Gray, Rgb, Cmyk, CalGray, CalRgb, Lab, NoMark, EveryInk}
use Rattle.space.specs.Spaces.{Space, none, gray, rgb, cmyk, cal_gray, cal_rgb, lab, no_mark, every_ink, separation, calculated, indexed, count_of, limit_count, low_of, high_of, closing_of}

-- 1 k lo hi
abbrev pub limit_words : ℕ → ℤ → ℤ → List ℤ
limit_words k lo hi = pos 1 ∷ pos k ∷ lo ∷ hi ∷ []

-- the limits of the first m components
unfoldable pub limits_of : Space → ℕ → List ℤ
limits_of s zero = []
limits_of s (suc m) = limits_of s m ++ limit_words m (low_of s m) (high_of s m)

-- 4 Gray, 5 RGB, 6 CMYK; 7 XW ZW gamma; 8 three gammas, nine matrix numbers; 9 XW ZW; 10 no mark, 11 every ink
abbrev pub closing_words : Closing → List ℤ
closing_words Nothing = []
closing_words Gray = pos 4 ∷ []
closing_words Rgb = pos 5 ∷ []
closing_words Cmyk = pos 6 ∷ []
closing_words (CalGray k) = pos 7 ∷ k.xw ∷ k.zw ∷ k.gamma ∷ []
closing_words (CalRgb k) =
    pos 8 ∷ k.ga ∷ k.gb ∷ k.gc ∷ k.xa ∷ k.ya ∷ k.za ∷ k.xb ∷ k.yb ∷ k.zb ∷ k.xc ∷ k.yc ∷ k.zc ∷ []
closing_words (Lab k) = pos 9 ∷ k.xw ∷ k.zw ∷ []
closing_words NoMark = pos 10 ∷ []
closing_words EveryInk = pos 11 ∷ []

-- the steps of a plain space
abbrev pub ends_of : Space → List ℤ
ends_of s = limits_of s (limit_count s) ++ closing_words (closing_of s)

-- 2 m h and the entries; 3 e m, m C0s, m C1s; 12 m n, or 13 t m n, and the n words of a program's flat form
unfoldable pub steps_of : Space → List ℤ
steps_of none = ends_of none
steps_of gray = ends_of gray
steps_of rgb = ends_of rgb
steps_of cmyk = ends_of cmyk
steps_of (cal_gray k) = ends_of (cal_gray k)
steps_of (cal_rgb k) = ends_of (cal_rgb k)
steps_of (lab k al ah bl bh) = ends_of (lab k al ah bl bh)
steps_of (no_mark i) = ends_of (no_mark i)
steps_of every_ink = ends_of every_ink
steps_of (separation e c0 c1 s) = (pos 3 ∷ pos e ∷ pos (count_of s) ∷ (c0 ++ c1)) ++ steps_of s
steps_of (calculated i c s) = (head_words i ++ (pos (count_of s) ∷ pos (length (flat c)) ∷ flat c)) ++ steps_of s
steps_of (indexed h t s) = (pos 2 ∷ pos (count_of s) ∷ pos h ∷ t) ++ steps_of s

-- the whole recipe
unfoldable pub recipe_of : Space → List ℤ
recipe_of s = pos (count_of s) ∷ steps_of s
