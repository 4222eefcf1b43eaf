-- What the tests of a step's small numbers say: they are in range.
use mathlib.Core.Path.{◌≡◌, sym, ◌∙◌}
use mathlib.Core.Bool.{Bool, true, ◌&&◌}
use mathlib.Core.List.{List, [], ◌∷◌}
use Prim.Native.Nat.{ℕ, ◌≤◌}
use native.Mathlib.Omega.{arith}
use lib.IntN.{ℤ}
use lib.Dec.{leb}
use lib.ListN.{length}
use borrow.Author.Tests.{leb-true}
use Rattle.fixed.specs.Numbers.{greatest, exponent_supported}
use Rattle.fixed.specs.Values.{value, small_of, places, widest, fills, makes}
use Rattle.fixed.proofs.Decide.{and_left, and_right}
use Rattle.steps.specs.Ranges.{Bounded}
use Rattle.steps.specs.declared.Step.TheVariants.{Row, Tint}

-- a number of 1 to top
low : (m top : ℕ) → (leb 1 m && leb m top) ≡ true → 1 ≤ m
low m top e = leb-true 1 m (and_left (leb 1 m) (leb m top) e)

high : (m top : ℕ) → (leb 1 m && leb m top) ≡ true → m ≤ top
high m top e = leb-true m top (and_right (leb 1 m) (leb m top) e)

pub row-range : (m h : ℕ) → (fills m && leb h 255) ≡ true → Bounded (Row m h)
row-range m h e =
    let f = and_left (fills m) (leb h 255) e in
    (low m places f, high m places f, leb-true h 255 (and_right (fills m) (leb h 255) e))

pub tint-range : (x m : ℕ) → (exponent_supported x && makes m) ≡ true → Bounded (Tint x m)
tint-range x m e =
    let f = and_left (exponent_supported x) (makes m) e in
    let g = and_right (exponent_supported x) (makes m) e in
    (low x greatest f, high x greatest f, low m widest g, high m widest g)

-- a recipe that begins with a count has a word
pub some_word : (l : List ℤ) {n : ℕ} {t : Bool} → n ≡ small_of (value l 0) → t ≡ fills n → t ≡ true → 1 ≤ length l
some_word [] {n} e f g = let h : 1 ≤ n = low n places (sym f ∙ g) in omega arith
some_word (w ∷ ws) e f g = omega arith
