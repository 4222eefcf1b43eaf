-- The words from `at` on, where there are n of them.
use mathlib.Core.Path.{◌∙◌}
use native.Mathlib.Omega.{arith}
use Rattle.form.proofs.Parts.{form-past, form-in}
use Rattle.form.proofs.placed.is_form_at.Goals as goal

pub returns-then-words-at : goal.returns-then-words-at
returns-then-words-at c = form-past c.args.words.now c.args.at c.args.n c.args.taken c.args.count (omega arith)

pub returns : goal.returns
returns c = c.is_form.ensures ∙ form-in c.args.words.now c.args.at c.args.n c.args.taken c.args.count (omega arith)
