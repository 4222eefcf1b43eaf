-- The limits, and the closing step after them.
use mathlib.Core.Path.{refl, ◌∙◌}
use Rattle.space.specs.Levels.{plain_in}
use Rattle.space.proofs.Ends.{whatever}
use Rattle.parts.proofs.Words.{ends-room, ends_set}
use Rattle.parts.proofs.Steps.{closing-is}
use Rattle.parts.proofs.parts.put_ends.Goals as goal

pub put_limits-requires : goal.put_limits-requires
put_limits-requires c =
    let m = c.limit_count-m.ensures.is ∙ (whatever c.args.q c.args.c).2 in
    (c.limit_count-m.ensures.small, (ends-room (plain_in c.args.c c.args.q) _ _ m (closing-is c.args.c c.args.q) c.args.at c.args.words.now c.args.words.now c.requires refl).0)

pub put_closing-requires : goal.put_closing-requires
put_closing-requires c =
    let m = c.limit_count-m.ensures.is ∙ (whatever c.args.q c.args.c).2 in
    (ends-room (plain_in c.args.c c.args.q) _ _ m (closing-is c.args.c c.args.q) c.args.at c.args.words.now c.put_limits.new.words c.requires c.put_limits.auto.words).1

pub returns : goal.returns
returns c =
    let m = c.limit_count-m.ensures.is ∙ (whatever c.args.q c.args.c).2 in
    let s = plain_in c.args.c c.args.q in
    ends_set s _ _ m (closing-is c.args.c c.args.q) _ _ _ _ (c.put_limits.ensures s c.plain_bounds.ensures) c.put_closing.ensures
