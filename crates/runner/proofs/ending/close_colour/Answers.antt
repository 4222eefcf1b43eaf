-- What is no CIE space replies what `close_bare` promises of the first four values.
use mathlib.Core.Path.{◌∙◌}
use borrow.Author.Rules.{rules}
use Rattle.cie.proofs.Closes.{no_numbers-closes}
use Rattle.runner.proofs.ending.close_colour.Goals as goal

pub returns-in_default : goal.returns-in_default
returns-in_default c =
    let d = c.in_default in
    c.close_bare.ensures _ ∙ no_numbers-closes _ _ _ d.not-CalGray d.not-CalRgb d.not-Lab (search rules) (search rules) (search rules) (search rules)
