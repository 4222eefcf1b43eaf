-- Four floats are all that there is room for.
use Rattle.std.proofs.Common.{◌≡◌, ◌≤◌, [], ◌∷◌, List, length, sym, ◌∙◌, arith, ap}
use Rattle.std.proofs.Math.ListN.{drop_of_length-le}
use Rattle.std.specs.Prelude.{Float}
use Rattle.std.proofs.lemmas.List.Edits.{sets}
use Rattle.fixed.proofs.Stores.{sets-front}
use Rattle.sktelbaan_runner.proofs.answers.put_said.Goals as goal

four : (a b c d : Float) (l : List Float) → length l ≡ 4 → (a ∷ b ∷ c ∷ d ∷ []) ≡ sets l 0 (a ∷ b ∷ c ∷ d ∷ [])
four a b c d l e =
    let room : 4 ≤ length l = omega arith in
    let none : length l ≤ 4 = omega arith in
    sym (sets-front (a ∷ b ∷ c ∷ d ∷ []) l room ∙ ap (λ r. a ∷ b ∷ c ∷ d ∷ r) (drop_of_length-le l none))

pub returns-in-Cmyk-clause-floats_after : goal.returns-in-Cmyk-clause-floats_after
returns-in-Cmyk-clause-floats_after c = rw c.in-Cmyk.is (four _ _ _ _ _ c.told-floats)
