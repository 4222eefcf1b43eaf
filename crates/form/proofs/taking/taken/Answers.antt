-- One, or the count of names.
use mathlib.Core.Path.{sym, ap, ◌∙◌}
use Rattle.form.specs.Steps.{taken_by}
use Rattle.form.proofs.taking.taken.Goals as goal

pub returns-in-Inks : goal.returns-in-Inks
returns-in-Inks c =
    record { is = c.nearest_count.ensures.is ∙ sym (ap taken_by c.in-Inks.is); small = c.nearest_count.ensures.small }
