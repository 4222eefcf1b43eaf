use mathlib.Core.Path.{refl, sym, ◌∙◌}
use lib.ListN.{drop}
use Rattle.designer.proofs.Progresses.{part_stays, part-turn, part-last, turn-less}
use Rattle.designer.proofs.reading.read.Goals as goal

pub loop-t-init : goal.loop-t-init
loop-t-init c = (c.requires, refl)

pub find-f-requires : goal.find-f-requires
find-f-requires c = c.loop-t.invariant.0.w

pub hand-t-requires : goal.hand-t-requires
hand-t-requires c =
    record { v = c.loop-t.invariant.0.v; w = c.word-1.given ∙ c.loop-t.invariant.0.w; m = c.loop-t.invariant.0.m; n = c.loop-t.invariant.0.n; o = c.loop-t.invariant.0.o; p = c.loop-t.invariant.0.p }

pub shape_of-values-then-not-is_complete : goal.shape_of-values-then-not-is_complete
shape_of-values-then-not-is_complete c = c.values-1.given ∙ c.loop-t.invariant.0.v ∙ sym c.requires.v

pub shape_of-word-then-not-is_complete : goal.shape_of-word-then-not-is_complete
shape_of-word-then-not-is_complete c = c.word-1.given ∙ c.loop-t.invariant.0.w ∙ sym c.requires.w

pub shape_of-marks-then-not-is_complete : goal.shape_of-marks-then-not-is_complete
shape_of-marks-then-not-is_complete c = c.marks-1.given ∙ c.loop-t.invariant.0.m ∙ sym c.requires.m

pub shape_of-names-then-not-is_complete : goal.shape_of-names-then-not-is_complete
shape_of-names-then-not-is_complete c = c.names-1.given ∙ c.loop-t.invariant.0.n ∙ sym c.requires.n

pub shape_of-opens-then-not-is_complete : goal.shape_of-opens-then-not-is_complete
shape_of-opens-then-not-is_complete c = c.opens-1.given ∙ c.loop-t.invariant.0.o ∙ sym c.requires.o

pub shape_of-blocks-then-not-is_complete : goal.shape_of-blocks-then-not-is_complete
shape_of-blocks-then-not-is_complete c = c.blocks-1.given ∙ c.loop-t.invariant.0.p ∙ sym c.requires.p

pub returns-then-not-is_complete : goal.returns-then-not-is_complete
returns-then-not-is_complete c =
    part-last c.args.room c.loop-t.t c.loop-t.values c.loop-t.word c.loop-t.marks c.loop-t.names c.loop-t.opens c.loop-t.blocks c.args.text.now c.loop-t.i c.find-f.result _ c.loop-t-test.true c.find-f.ensures c.hand-t.ensures.is (sym c.is_complete.ensures ∙ c.if-not-is_complete.true) ∙ c.loop-t.invariant.1

pub loop-t-smaller : goal.loop-t-smaller
loop-t-smaller c =
    turn-less c.loop-t.t.lexer c.loop-t.word _ c.args.text.now c.loop-t.i c.find-f.result _ c.find-f.ensures (sym c.is_complete.ensures ∙ c.if-not-is_complete.false) c.hand-t.ensures.stays

pub loop-t-preserved : goal.loop-t-preserved
loop-t-preserved c = (
  record { v = c.values-1.given ∙ c.loop-t.invariant.0.v; w = c.word-1.given ∙ c.loop-t.invariant.0.w; m = c.marks-1.given ∙ c.loop-t.invariant.0.m; n = c.names-1.given ∙ c.loop-t.invariant.0.n; o = c.opens-1.given ∙ c.loop-t.invariant.0.o; p = c.blocks-1.given ∙ c.loop-t.invariant.0.p },
  part-turn c.args.room c.loop-t.t c.loop-t.values c.loop-t.word c.loop-t.marks c.loop-t.names c.loop-t.opens c.loop-t.blocks c.args.text.now c.loop-t.i c.find-f.result _ c.loop-t-test.true c.find-f.ensures c.hand-t.ensures.is ∙ c.loop-t.invariant.1,
)

pub shape_of-values : goal.shape_of-values
shape_of-values c = c.loop-t.invariant.0.v ∙ sym c.requires.v

pub shape_of-word : goal.shape_of-word
shape_of-word c = c.loop-t.invariant.0.w ∙ sym c.requires.w

pub shape_of-marks : goal.shape_of-marks
shape_of-marks c = c.loop-t.invariant.0.m ∙ sym c.requires.m

pub shape_of-names : goal.shape_of-names
shape_of-names c = c.loop-t.invariant.0.n ∙ sym c.requires.n

pub shape_of-opens : goal.shape_of-opens
shape_of-opens c = c.loop-t.invariant.0.o ∙ sym c.requires.o

pub shape_of-blocks : goal.shape_of-blocks
shape_of-blocks c = c.loop-t.invariant.0.p ∙ sym c.requires.p

pub returns : goal.returns
returns c =
    part_stays c.args.room c.loop-t.t _ _ _ _ _ _ (drop c.loop-t.i c.args.text.now) c.loop-t-test.false ∙ c.loop-t.invariant.1
