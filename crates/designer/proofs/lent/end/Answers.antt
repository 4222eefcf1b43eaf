-- `end`: of the right lengths the last token is ended, the state saved and the text judged; of others it is 10, and nothing is altered.
use mathlib.Core.Path.{refl, sym, ap, ◌∙◌}
use Prim.Native.Nat.{ℕ}
use Rattle.std.specs.Prelude.{Err}
use lib.ListN.{length}
use Rattle.designer.specs.Lent.{memory}
use Rattle.designer.proofs.Lending.{sized-words, sized-lists, end-foreign, ends_foreign, end-stands, ends-stands}
use Rattle.designer.proofs.lent.end.Goals as goal

pub returns-then-not-is_sized : goal.returns-then-not-is_sized
returns-then-not-is_sized c =
    let m = memory c.args.words.now c.args.values.now c.args.word.now c.args.marks.now c.args.names.now c.args.opens.now c.args.blocks.now in
    let room = c.args.room.now in
    let other = sym c.is_sized.ensures ∙ c.if-not-is_sized.true in (record { replies = ap (λ (n : ℕ). Err (record { number = n; at = 0 })) c.number-number.ensures ∙ (ends_foreign m other (length room) room).0; writes = (ends_foreign m other (length room) room).1; leaves = end-foreign m other (length room) })

pub finish-t-requires : goal.finish-t-requires
finish-t-requires c = sized-lists _ _ _ _ _ _ _ (sym c.is_sized.ensures ∙ c.if-not-is_sized.false)

pub save-requires : goal.save-requires
save-requires c = sized-words _ _ _ _ _ _ _ (sym c.is_sized.ensures ∙ c.if-not-is_sized.false)

pub conclude-requires : goal.conclude-requires
conclude-requires c =
    c.blocks-1.given ∙ (sized-lists _ _ _ _ _ _ _ (sym c.is_sized.ensures ∙ c.if-not-is_sized.false)).p

pub shape_of-room : goal.shape_of-room
shape_of-room c = c.room-1.given

pub shape_of-words : goal.shape_of-words
shape_of-words c = c.words-1.given

pub shape_of-values : goal.shape_of-values
shape_of-values c = c.values-1.given

pub shape_of-marks : goal.shape_of-marks
shape_of-marks c = c.marks-1.given

pub shape_of-names : goal.shape_of-names
shape_of-names c = c.names-1.given

pub shape_of-opens : goal.shape_of-opens
shape_of-opens c = c.opens-1.given

pub shape_of-blocks : goal.shape_of-blocks
shape_of-blocks c = c.blocks-1.given

pub returns : goal.returns
returns c =
    let values = c.args.values.now in
    let word = c.args.word.now in
    let marks = c.args.marks.now in
    let names = c.args.names.now in
    let opens = c.args.opens.now in
    let blocks = c.args.blocks.now in
    let room = c.args.room.now in
    let m = memory c.args.words.now values word marks names opens blocks in
    let ok = sym c.is_sized.ensures ∙ c.if-not-is_sized.false in
    let ends = ends-stands m ok (length room) _ room _ c.load-s.ensures c.finish-t.ensures (c.conclude.ensures _ _ _ _) in (record {
      replies = ends.0;
      writes = ends.1;
      leaves = end-stands m ok _
          (record { words = c.words-1.given; values = c.values-1.given; word = refl; marks = c.marks-1.given; names = c.names-1.given; opens = c.opens-1.given; page = c.blocks-1.given })
          (length room) c.load-s.ensures c.save.ensures c.finish-t.ensures;
    })
