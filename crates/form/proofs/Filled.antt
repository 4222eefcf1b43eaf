-- The checker and the runner on the words of a program are judging and running the program.
use mathlib.Core.Path.{◌≡◌, refl, ap, ◌∙◌}
use mathlib.Core.Bool.{Bool, ◌&&◌}
use mathlib.Core.List.{List}
use Prim.Native.Nat.{ℕ, zero, suc, ◌≤◌}
use borrow.Author.Tests.{le-leb}
use lib.IntN.{ℤ, pos}
use lib.ListN.{length}
use Rattle.fixed.specs.declared.values.Colour.{Colour}
use Rattle.stack.specs.Programs.{Code}
use Rattle.stack.specs.Flat.{flat}
use Rattle.stack.proofs.Runs.{flat-is-nested}
use Rattle.form.specs.Paths.{formed, leaves_numbers}
use Rattle.fixed.specs.Numbers.{limited}
use Rattle.fixed.specs.Values.{value, fills, makes}
use Rattle.form.specs.Steps.{most_words, well_formed, tints_in, resulting, form_step, program_step, fitting}
use Rattle.form.proofs.Forms.{formed-judged}

-- ---- a program and its words

pub flat-fitting : (c : Code) (t m : ℕ) → length (flat c) ≤ most_words → well_formed (flat c) t m ≡ fitting t m c
unfolding well_formed fitting formed
flat-fitting c t m h =
    ap (λ (b : Bool). (fills t && makes m) && (b && formed (flat c) t m)) (le-leb (length (flat c)) most_words h)
    ∙ ap (λ j. (fills t && makes m) && leaves_numbers m j) (formed-judged t c)

-- the first tint is deepest: as many lie on it as there are others
pub first-deepest : (t : ℕ) (v : List ℤ) → value (tints_in (suc t) v) t ≡ limited (pos 0) (pos 1000000) (value v 0)
unfolding tints_in
first-deepest zero v = refl
first-deepest (suc t) v = first-deepest t v

-- step 12 or 13 with the words of a program is the program
pub form-is-program : (t m : ℕ) (code : Code) (c : Colour) → form_step t m (flat code) c ≡ program_step t m code c
unfolding form_step program_step
form-is-program t m code c = ap (λ (s : List ℤ). resulting t m s c) (flat-is-nested code (tints_in t c.values))
