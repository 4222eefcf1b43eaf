use mathlib.Core.Path.{◌∙◌}
use lib.ListN.{set}
use lib.Seq.{take-set-lt}
use Rattle.fixed.proofs.Signs.{signed_back}
use Rattle.program.proofs.words.Words.patch.Goals as goal

pub returns-then-i-self : goal.returns-then-i-self
returns-then-i-self c =
    take-set-lt c.self.inside.count c.self.inside.room c.args.i _ c.if-i-self.true
    ∙ (λ i. set (c.self.view_is i) c.args.i (signed_back c.ranges.v i))
