-- A byte goes to the word by `noted`.
use mathlib.Core.Path.{ap, ◌∙◌}
use Rattle.lexer.specs.Scans.{Word, scan_at, moved, after}
use Rattle.lexer.proofs.Findings.{noted}
use Rattle.lexer.proofs.scans.hand.Goals as goal

pub returns-in-Byte-clause-is : goal.returns-in-Byte-clause-is
unfolding after
returns-in-Byte-clause-is c =
    let args = c.args in
    ap (λ (w : Word). moved (scan_at args.l args.word.now) args.v.mode args.l.number w)
    (noted args.word.now args.l.size _ c.requires c.note.ensures c.deeper-size.ensures) ∙ rw c.in-Byte.is
