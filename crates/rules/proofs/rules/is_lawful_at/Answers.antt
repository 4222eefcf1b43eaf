-- A body without names has none to look at.
use mathlib.Core.Path.{◌≡◌, sym, ◌∙◌}
use mathlib.Core.Bool.{true, ◌&&◌}
use mathlib.Core.List.{List}
use Prim.Native.Nat.{ℕ, ◌*◌}
use lib.ListN.{drop}
use borrow.Author.Tests.{eq-eqb}
use Rattle.fixed.specs.Loops.{all_from}
use Rattle.record.specs.Reading.{names_at}
use Rattle.record.specs.Rules.{names_lawful, lawful_in}
use Rattle.rules.proofs.rules.is_lawful_at.Goals as goal

no_names : (s : List ℕ) {n : ℕ} → n ≡ 0 → true ≡ names_lawful s n
unfolding names_lawful all_from
no_names s e = rw e

pub returns-then-count-eq0 : goal.returns-then-count-eq0
unfolding lawful_in
returns-then-count-eq0 c =
    eq-eqb _ _ c.if-count-eq0.true ∙ (λ i. (sym c.if-is_lawful.true ∙ c.is_lawful.ensures) i && no_names (names_at (drop (512 * c.args.n) c.args.page.now)) (sym c.name_count-count.ensures.is ∙ c.if-count-eq0.true) i)
