-- `part`: of the right lengths the state is loaded, reads on and is saved; of others nothing is altered.
use mathlib.Core.Path.{sym, ◌∙◌}
use Rattle.designer.specs.Lent.{memory}
use Rattle.designer.proofs.Lending.{sized-words, sized-lists, fault-foreign, part-foreign, fault-stands, part-stands}
use Rattle.designer.proofs.lent.part.Goals as goal

pub returns-then-not-is_sized : goal.returns-then-not-is_sized
returns-then-not-is_sized c =
    let m = memory c.args.words.now c.args.values.now c.args.word.now c.args.marks.now c.args.names.now c.args.opens.now c.args.blocks.now in (record { replies = fault-foreign m (sym c.is_sized.ensures ∙ c.if-not-is_sized.true); leaves = part-foreign m (sym c.is_sized.ensures ∙ c.if-not-is_sized.true) c.args.room c.args.text.now })

pub read-t-requires : goal.read-t-requires
read-t-requires c = sized-lists _ _ _ _ _ _ _ (sym c.is_sized.ensures ∙ c.if-not-is_sized.false)

pub save-requires : goal.save-requires
save-requires c = sized-words _ _ _ _ _ _ _ (sym c.is_sized.ensures ∙ c.if-not-is_sized.false)

pub shape_of-words : goal.shape_of-words
shape_of-words c = c.words-1.given

pub shape_of-values : goal.shape_of-values
shape_of-values c = c.values-1.given

pub shape_of-word : goal.shape_of-word
shape_of-word c = c.word-1.given

pub shape_of-marks : goal.shape_of-marks
shape_of-marks c = c.marks-1.given

pub shape_of-names : goal.shape_of-names
shape_of-names c = c.names-1.given

pub shape_of-opens : goal.shape_of-opens
shape_of-opens c = c.opens-1.given

pub shape_of-blocks : goal.shape_of-blocks
shape_of-blocks c = c.blocks-1.given

pub returns : goal.returns
returns c =
    let values = c.args.values.now in
    let word = c.args.word.now in
    let marks = c.args.marks.now in
    let names = c.args.names.now in
    let opens = c.args.opens.now in
    let blocks = c.args.blocks.now in
    let text = c.args.text.now in
    let m = memory c.args.words.now values word marks names opens blocks in
    let ok = sym c.is_sized.ensures ∙ c.if-not-is_sized.false in (record {
      replies = fault-stands m ok;
      leaves = part-stands m ok _
          (record { words = c.words-1.given; values = c.values-1.given; word = c.word-1.given; marks = c.marks-1.given; names = c.names-1.given; opens = c.opens-1.given; page = c.blocks-1.given })
          c.args.room c.load-s.ensures c.save.ensures text c.read-t.ensures;
    })
