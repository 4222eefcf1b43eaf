-- `make`: the space's own block, its palette's and their brackets are what the definition makes.
use mathlib.Core.Path.{refl, sym}
use native.Mathlib.Omega.{arith}
use borrow.Author.Rules.{rules}
use Rattle.lexer.specs.Scans.{scan_at}
use Rattle.reader.specs.Kept.{parser_at}
use Rattle.reader.proofs.Makings.{made-start}
use Rattle.tokens.proofs.Runs.{made}
use Rattle.tokens.proofs.making.make.Goals as goal

pub put_block-requires : goal.put_block-requires
put_block-requires c = omega (arith, c.requires.opens_len.1.0, c.requires.opens_len.1.1)

pub overflow_add-next : goal.overflow_add-next
overflow_add-next c = omega (arith, c.requires.opens_len.1.1)

pub put_run-requires : goal.put_run-requires
put_run-requires c = (omega (arith, c.requires.opens_len.1.1), search rules)

pub overflow_add-k : goal.overflow_add-k
overflow_add-k c = omega (arith, c.requires.opens_len.1.1)

pub put_opens-requires : goal.put_opens-requires
put_opens-requires c = omega (arith, c.requires.opens_len.1.1, c.requires.opens_len.0)

pub returns : goal.returns
returns c =
    let h = c.args.h in
    let values = c.args.values.now in
    let word = c.args.word.now in
    let marks = c.args.marks.now in
    let names = c.args.names.now in
    let opens = c.args.opens.now in
    let blocks = c.args.blocks.now in
    made (parser_at h values marks names opens blocks) (scan_at c.args.l word).word opens blocks c.held-palette.result.now h.next c.args.k c.start_of-at.result c.record_of-r.result
    refl (sym c.held-palette.ensures) c.requires.k_value (c.record_of-r.ensures marks opens blocks)
    (made-start h marks names c.slot.result c.depth.result c.slot.ensures.is c.depth.ensures.is c.start_of-at.result (c.start_of-at.ensures names))
    (omega (arith, c.requires.opens_len.1.1, c.requires.opens_len.0)) (omega (arith, c.requires.opens_len.1.1, c.requires.opens_len.1.0))
    c.put_block.ensures c.put_run.ensures c.put_opens.ensures
