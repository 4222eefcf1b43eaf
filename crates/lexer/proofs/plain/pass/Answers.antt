-- `pass`: a byte of a name or string goes to the word.
use mathlib.Core.Path.{sym, ◌∙◌}
use Rattle.lexer.specs.Scans.{scan_at}
use Rattle.lexer.proofs.Findings.{noted}
use Rattle.lexer.proofs.Passing.{pass-spelled}
use Rattle.lexer.proofs.plain.pass.Goals as goal

pub returns-then-is_spelled-clause-is : goal.returns-then-is_spelled-clause-is
returns-then-is_spelled-clause-is c =
    let l = c.args.l in
    let w = noted c.args.word.now l.size _ c.requires c.note.ensures c.deeper.ensures in
    (λ i. record { mode = l.mode; number = l.number; word = w i; seen = c.deeper-seen.ensures i; first = l.first })
    ∙ pass-spelled (scan_at l c.args.word.now) c.args.b (sym c.is_gap.ensures ∙ c.if-is_gap.false) (sym c.is_figures.ensures ∙ c.if-is_figures.false)
    (sym c.is_spelled.ensures ∙ c.if-is_spelled.true)
