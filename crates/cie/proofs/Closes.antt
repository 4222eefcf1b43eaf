-- A closing step reads the first four values alone; and which closing steps have no numbers.
use mathlib.Core.Path.{◌≡◌, refl, ◌∙◌, subst}
use mathlib.Core.Bool.{Bool}
use Prim.Native.Nat.{ℕ}
use mathlib.Core.List.{List, [], ◌∷◌}
use lib.IntN.{ℤ}
use Rattle.fixed.specs.Values.{value}
use Rattle.cie.specs.declared.GrayClosing.{GrayClosing}
use Rattle.cie.specs.declared.RgbClosing.{RgbClosing}
use Rattle.cie.specs.declared.LabClosing.{LabClosing}
use Rattle.cie.specs.declared.Closing.{Closing}
use Rattle.cie.specs.declared.Closing.TheVariants.{Nothing, Gray, Rgb, Cmyk, CalGray, CalRgb, Lab, NoMark, EveryInk}
use Rattle.cie.specs.Answers.{refusal}
use Rattle.cie.specs.Bare.{bare_of}
use Rattle.cie.specs.Closings.{closed_by}
use types.Run.{OneOf, miss}

pub closed-four : (k : Closing) (v : List ℤ) (m : Bool) → closed_by k (value v 0 ∷ value v 1 ∷ value v 2 ∷ value v 3 ∷ []) m ≡ closed_by k v m
unfolding closed_by
closed-four Nothing v m = refl
closed-four Gray v m = refl
closed-four Rgb v m = refl
closed-four Cmyk v m = refl
closed-four (CalGray g) v m = refl
closed-four (CalRgb g) v m = refl
closed-four (Lab g) v m = refl
closed-four NoMark v m = refl
closed-four EveryInk v m = refl

-- the same of numbers that are those values
pub closes : (k : Closing) (v : List ℤ) (m : Bool) {a b c d : ℤ} → a ≡ value v 0 → b ≡ value v 1 → c ≡ value v 2 → d ≡ value v 3 → closed_by k (a ∷ b ∷ c ∷ d ∷ []) m ≡ closed_by k v m
closes k v m p q r s = (λ i. closed_by k (p i ∷ q i ∷ r i ∷ s i ∷ []) m) ∙ closed-four k v m

-- ---- closing steps without numbers

-- what no closing step with numbers is
pub no_numbers-is : (k : Closing) → ((g : GrayClosing) → k ≡ CalGray g → ⊥) → ((g : RgbClosing) → k ≡ CalRgb g → ⊥) → ((g : LabClosing) → k ≡ Lab g → ⊥) → bare_of k ≡ k
unfolding bare_of
no_numbers-is Nothing p q r = refl
no_numbers-is Gray p q r = refl
no_numbers-is Rgb p q r = refl
no_numbers-is Cmyk p q r = refl
no_numbers-is (CalGray g) p q r = absurd (p g refl)
no_numbers-is (CalRgb g) p q r = absurd (q g refl)
no_numbers-is (Lab g) p q r = absurd (r g refl)
no_numbers-is NoMark p q r = refl
no_numbers-is EveryInk p q r = refl

-- what such a step closes by, of numbers that are the first four values
pub no_numbers-closes : (k : Closing) (v : List ℤ) (m : Bool) {a b c d : ℤ} → ((g : GrayClosing) → k ≡ CalGray g → ⊥) → ((g : RgbClosing) → k ≡ CalRgb g → ⊥) → ((g : LabClosing) → k ≡ Lab g → ⊥) → a ≡ value v 0 → b ≡ value v 1 → c ≡ value v 2 → d ≡ value v 3 → closed_by (bare_of k) (a ∷ b ∷ c ∷ d ∷ []) m ≡ closed_by k v m
no_numbers-closes k v m {a} {b} {c} {d} u w x p q r s = (λ i. closed_by (no_numbers-is k u w x i) (a ∷ b ∷ c ∷ d ∷ []) m) ∙ closes k v m p q r s

-- that of no space, and those with numbers
pub numbers-refused : (k : Closing) (v : List ℤ) (m : Bool) → (k ≡ Gray → ⊥) → (k ≡ Rgb → ⊥) → (k ≡ Cmyk → ⊥) → (k ≡ NoMark → ⊥) → (k ≡ EveryInk → ⊥) → refusal 8 0 ≡ closed_by (bare_of k) v m
unfolding bare_of closed_by
numbers-refused Nothing v m p q r s t = refl
numbers-refused Gray v m p q r s t = absurd (p refl)
numbers-refused Rgb v m p q r s t = absurd (q refl)
numbers-refused Cmyk v m p q r s t = absurd (r refl)
numbers-refused (CalGray g) v m p q r s t = refl
numbers-refused (CalRgb g) v m p q r s t = refl
numbers-refused (Lab g) v m p q r s t = refl
numbers-refused NoMark v m p q r s t = absurd (s refl)
numbers-refused EveryInk v m p q r s t = absurd (t refl)

-- ---- the same by the number of a closing step's variant

abbrev tag : Closing → ℕ
tag Nothing = 0
tag Gray = 1
tag Rgb = 2
tag Cmyk = 3
tag (CalGray g) = 4
tag (CalRgb g) = 5
tag (Lab g) = 6
tag NoMark = 7
tag EveryInk = 8

abbrev bare : List ℕ
bare = 0 ∷ 1 ∷ 2 ∷ 3 ∷ 7 ∷ 8 ∷ []

pub bare-is : (k : Closing) → OneOf bare (tag k) → bare_of k ≡ k
bare-is k h =
    no_numbers-is k
    (λ g e. miss bare 4 tt (subst (λ (c : Closing). OneOf bare (tag c)) e h))
    (λ g e. miss bare 5 tt (subst (λ (c : Closing). OneOf bare (tag c)) e h))
    (λ g e. miss bare 6 tt (subst (λ (c : Closing). OneOf bare (tag c)) e h))

-- and what it closes by
pub bare-closes : (k : Closing) (v : List ℤ) (m : Bool) {a b c d : ℤ} → OneOf bare (tag k) → a ≡ value v 0 → b ≡ value v 1 → c ≡ value v 2 → d ≡ value v 3 → closed_by (bare_of k) (a ∷ b ∷ c ∷ d ∷ []) m ≡ closed_by k v m
bare-closes k v m {a} {b} {c} {d} h p q r s = (λ i. closed_by (bare-is k h i) (a ∷ b ∷ c ∷ d ∷ []) m) ∙ closes k v m p q r s

abbrev others : List ℕ
others = 0 ∷ 4 ∷ 5 ∷ 6 ∷ []

pub others-refused : (k : Closing) (v : List ℤ) (m : Bool) → OneOf others (tag k) → refusal 8 0 ≡ closed_by (bare_of k) v m
unfolding closed_by bare_of
others-refused Nothing v m h = refl
others-refused Gray v m h = absurd (miss others 1 tt h)
others-refused Rgb v m h = absurd (miss others 2 tt h)
others-refused Cmyk v m h = absurd (miss others 3 tt h)
others-refused (CalGray g) v m h = refl
others-refused (CalRgb g) v m h = refl
others-refused (Lab g) v m h = refl
others-refused NoMark v m h = absurd (miss others 7 tt h)
others-refused EveryInk v m h = absurd (miss others 8 tt h)
