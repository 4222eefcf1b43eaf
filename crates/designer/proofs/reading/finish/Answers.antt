-- `finish`: a refusal stays; else what the end of the text ends is handed on.
use mathlib.Core.Path.{◌∙◌}
use Rattle.designer.proofs.Progresses.{end_stays, end_on}
use Rattle.designer.proofs.reading.finish.Goals as goal

pub returns-then-s-ne0 : goal.returns-then-s-ne0
returns-then-s-ne0 c = end_stays c.args.room c.args.s _ _ _ _ _ _ c.if-s-ne0.true

pub hand-requires : goal.hand-requires
hand-requires c = c.requires

pub shape_of-values : goal.shape_of-values
shape_of-values c = c.values-1.given

pub shape_of-marks : goal.shape_of-marks
shape_of-marks c = c.marks-1.given

pub shape_of-names : goal.shape_of-names
shape_of-names c = c.names-1.given

pub shape_of-opens : goal.shape_of-opens
shape_of-opens c = c.opens-1.given

pub shape_of-blocks : goal.shape_of-blocks
shape_of-blocks c = c.blocks-1.given

pub returns : goal.returns
returns c =
    c.hand.ensures.is ∙ end_on c.args.room c.args.s c.args.values.now c.args.word.now c.args.marks.now c.args.names.now c.args.opens.now c.args.blocks.now c.if-s-ne0.false (c.finish-e.ensures.is c.args.word.now) (c.finish-e.ensures.meets c.args.word.now)
