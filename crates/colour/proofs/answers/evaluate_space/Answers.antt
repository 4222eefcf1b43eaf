-- Refusal 8, then 9, then what the values answer.
use mathlib.Core.Path.{◌∙◌}
use Rattle.space.specs.Spaces.{Space, count_of}
use Rattle.space.specs.Pages.{space_at}
use Rattle.space.proofs.Levels.{space-read}
use Rattle.colour.specs.Colours.{valued}
use Rattle.colour.proofs.Replies.{answered-8, answered-9, answered-as}
use Rattle.colour.proofs.answers.evaluate_space.Goals as goal

pub returns-then-m-eq0 : goal.returns-then-m-eq0
returns-then-m-eq0 c =
    let m = space-read _ _ c.level_at-l.ensures count_of (c.count-m.ensures.is _) in
    rw (c.into.ensures, c.of_block.ensures.is, c.of_block.ensures.about) (answered-8 (space_at c.args.page.now c.args.n) c.args.components.now _ m c.if-m-eq0.true)

pub returns-then-components-m : goal.returns-then-components-m
returns-then-components-m c =
    let m = space-read _ _ c.level_at-l.ensures count_of (c.count-m.ensures.is _) in
    rw (c.into-then-components-m.ensures, c.of_block-then-components-m.ensures.is, c.of_block-then-components-m.ensures.about) (answered-9 (space_at c.args.page.now c.args.n) c.args.components.now _ m c.if-m-eq0.false c.if-components-m.true)

pub returns : goal.returns
returns c =
    let m = space-read _ _ c.level_at-l.ensures count_of (c.count-m.ensures.is _) in
    space-read _ _ c.level_at-l.ensures (λ (s : Space). valued s c.start.result) c.value_in.ensures ∙
    answered-as (space_at c.args.page.now c.args.n) c.args.components.now _ m c.if-m-eq0.false _ c.if-components-m.false c.start.ensures
