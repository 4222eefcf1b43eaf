-- `put_head`: kind, zero and own number, each stored where the one before it ends.
use mathlib.Core.Path.{refl}
use mathlib.Core.List.{[], ◌∷◌}
use Rattle.layout.specs.Field.{one}
use Rattle.layout.proofs.Puts.{next}
use Rattle.block.proofs.writing.put_head.Goals as goal

pub returns : goal.returns
returns c =
    next c.args.out.now 0 (one _ ∷ []) _ 1 refl c.put_one.ensures
    (next _ 1 (one _ ∷ []) _ 2 refl c.put_one-2.ensures
    c.put_two.ensures)
