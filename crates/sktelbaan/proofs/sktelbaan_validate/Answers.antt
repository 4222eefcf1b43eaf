-- What validating comes to, as C has it.
use mathlib.Core.Path.{ap, ◌∙◌}
use Rattle.c_layout.specs.Replies.{verdict_of}
use Rattle.sktelbaan.proofs.sktelbaan_validate.Goals as goal

pub returns : goal.returns
returns c = c.verdict.ensures ∙ ap verdict_of c.validate.ensures
