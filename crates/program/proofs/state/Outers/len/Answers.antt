use mathlib.Core.Path.{sym, ap, ◌∙◌}
use lib.ListN.{length}
use Rattle.program.proofs.Open.{outers-length}
use Rattle.program.proofs.state.Outers.len.Goals as goal

pub returns : goal.returns
returns c = sym (ap length (sym c.self.view_is) ∙ outers-length c.self.inside.pairs c.self.inside.depth)
