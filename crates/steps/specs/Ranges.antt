-- The bounds that FORMAT.md, Recipes, gives a step's small numbers: each step that is read is within them. And where a closing step's numbers stand.
use Rattle.std.specs.Prelude.{◌≡◌, List, ◌<◌, ◌≤◌, ℤ}
use Rattle.fixed.specs.Numbers.{greatest}
use Rattle.fixed.specs.Values.{places, widest}
use Rattle.form.specs.Steps.{most_words}
use Rattle.cie.specs.declared.Closing.{Closing}
use Rattle.cie.specs.declared.Closing.TheVariants.{Nothing, Gray, Rgb, Cmyk, CalGray, CalRgb, Lab, NoMark, EveryInk}
use Rattle.steps.specs.Steps.{gray_words, rgb_words, lab_words}
use Rattle.steps.specs.declared.Step.{Step}
use Rattle.steps.specs.declared.Step.TheVariants.{Limit, Row, Tint, Program, Close}

-- k 0..7; m 1..8 and h 0..255; e and m 1..4; t at most 8, m 1..4 and n at most 2,873 words
abbrev pub Bounded : Step → Type 0
Bounded (Limit k lo hi) = k < places
Bounded (Row m h) = (1 ≤ m) × (m ≤ places) × (h ≤ 255)
Bounded (Tint e m) = (1 ≤ e) × (e ≤ greatest) × (1 ≤ m) × (m ≤ widest)
Bounded (Program t m at n) = (t ≤ places) × (1 ≤ m) × (m ≤ widest) × (n ≤ most_words)
Bounded (Close k) = Unit {0}

-- a closing step's numbers are words of the list that it is read off
abbrev pub Carried : List ℤ → Closing → Type 0
Carried l Nothing = Unit {0}
Carried l Gray = Unit {0}
Carried l Rgb = Unit {0}
Carried l Cmyk = Unit {0}
Carried l (CalGray g) = g ≡ gray_words l
Carried l (CalRgb g) = g ≡ rgb_words l
Carried l (Lab g) = g ≡ lab_words l
Carried l NoMark = Unit {0}
Carried l EveryInk = Unit {0}
