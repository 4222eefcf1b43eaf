-- The end of the text hands on no byte, so the word and the number stay.
use Rattle.lexer.specs.Scans.{scan_at}
use Rattle.lexer.proofs.Findings.{last-plain}
use Rattle.lexer.proofs.scans.finish.Goals as goal

pub returns-clause-is : goal.returns-clause-is
returns-clause-is c = λ word. last-plain (scan_at c.args.l word) c.last_mode-v.ensures
