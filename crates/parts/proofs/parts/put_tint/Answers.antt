-- 3 e m, the C0s and the C1s; the place after them.
use mathlib.Core.Path.{◌≡◌}
use native.Mathlib.Omega.{arith}
use lib.ListN.{length}
use Rattle.fixed.proofs.Signs.{signed_is}
use Rattle.parts.proofs.Words.{tint-fits, tint-set}
use Rattle.parts.proofs.parts.put_tint.Goals as goal

pub put-requires : goal.put-requires
put-requires c =
    let r = tint-fits c.args.p c.args.m c.requires.0 c.args.at c.args.words.now c.requires.1 in omega arith

pub put_entries-requires : goal.put_entries-requires
put_entries-requires c =
    let r = tint-fits c.args.p c.args.m c.requires.0 c.args.at c.args.words.now c.requires.1 in
    let e : length c.put.new.words ≡ length c.args.words.now = c.put.auto.words in
    (c.requires.0, omega arith)

pub put_entries-requires-2 : goal.put_entries-requires-2
put_entries-requires-2 c =
    let r = tint-fits c.args.p c.args.m c.requires.0 c.args.at c.args.words.now c.requires.1 in
    let e : length c.put.new.words ≡ length c.args.words.now = c.put.auto.words in
    (c.requires.0, omega (arith, c.put_entries.auto.words))

pub returns : goal.returns
returns c =
    record {
      stores = (tint-set c.args.p c.args.m c.requires.0 _ _ _ _ _ _ _ _ _ (signed_is _ c.word_of.type_inv c.word_of.ensures) (signed_is _ c.word_of-2.type_inv c.word_of-2.ensures)
          c.entries_of.ensures c.entries_of-2.ensures c.put.ensures c.put_entries.ensures c.put_entries-2.ensures).0;
      next = (tint-set c.args.p c.args.m c.requires.0 _ _ _ _ _ _ _ _ _ (signed_is _ c.word_of.type_inv c.word_of.ensures) (signed_is _ c.word_of-2.type_inv c.word_of-2.ensures)
          c.entries_of.ensures c.entries_of-2.ensures c.put.ensures c.put_entries.ensures c.put_entries-2.ensures).1;
    }
