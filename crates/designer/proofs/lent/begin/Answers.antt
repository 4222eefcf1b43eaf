-- `begin`: of the right lengths every value is at its default and the words say that nothing is read; of others nothing is altered.
use mathlib.Core.Path.{refl, sym, ◌∙◌}
use Rattle.designer.specs.Lent.{memory}
use Rattle.designer.proofs.Lending.{sized-words, sized-lists, fault-foreign, begun-foreign, fault-stands, begun-stands}
use Rattle.designer.proofs.lent.begin.Goals as goal

pub returns-then-not-is_sized : goal.returns-then-not-is_sized
returns-then-not-is_sized c =
    let m = memory c.args.words.now c.args.values.now c.args.word.now c.args.marks.now c.args.names.now c.args.opens.now c.args.blocks.now in (record { replies = fault-foreign m (sym c.is_sized.ensures ∙ c.if-not-is_sized.true); leaves = begun-foreign m (sym c.is_sized.ensures ∙ c.if-not-is_sized.true) })

pub reset-requires : goal.reset-requires
reset-requires c =
    (sized-lists _ _ _ _ _ _ _ (sym c.is_sized.ensures ∙ c.if-not-is_sized.false)).v

pub save-requires : goal.save-requires
save-requires c = sized-words _ _ _ _ _ _ _ (sym c.is_sized.ensures ∙ c.if-not-is_sized.false)

pub returns : goal.returns
returns c =
    let word = c.args.word.now in
    let marks = c.args.marks.now in
    let names = c.args.names.now in
    let opens = c.args.opens.now in
    let blocks = c.args.blocks.now in
    let m = memory c.args.words.now c.args.values.now word marks names opens blocks in
    let ok = sym c.is_sized.ensures ∙ c.if-not-is_sized.false in (record {
      replies = fault-stands m ok;
      leaves = begun-stands m ok _
          (record { words = c.words-1.given; values = c.values-1.given; word = refl; marks = refl; names = refl; opens = refl; page = refl })
          c.save.ensures c.reset.ensures (c.fresh.ensures word marks names opens blocks);
    })
