-- `put_check`: both sums of the bytes as they stood, one after the other.
use mathlib.Core.Path.{refl, ◌∙◌}
use mathlib.Core.List.{[], ◌∷◌}
use Rattle.layout.specs.Field.{two, puts}
use Rattle.layout.proofs.Puts.{next}
use Rattle.block.proofs.writing.put_check.Goals as goal

pub returns : goal.returns
returns c =
    next c.args.out.now 508 (two _ ∷ []) _ 510 refl c.put_two.ensures
    c.put_two-2.ensures
    ∙ (λ i. puts c.args.out.now 508 (two (c.sum_up-s.ensures.0 i) ∷ two (c.sum_up-s.ensures.1 i) ∷ []))
