-- All bytes from the first zero on are zero.
use mathlib.Core.Path.{ap, ◌∙◌}
use Prim.Native.Nat.{ℕ}
use borrow.Author.Rules.{rules}
use lib.Dec.{eqb}
use lib.ListN.{drop}
use Rattle.std.proofs.Common.{tests}
use Rattle.std.specs.List.{list_all}
use Rattle.std.proofs.lemmas.List.{take_rest}
use Rattle.std.proofs.lemmas.Iterator.{YieldsList-from_slice}
use Rattle.std.proofs.lemmas.Iterator.Search.{all_from_yields_List}
use Rattle.calculator.proofs.Turns.{tidy-end}
use Rattle.calculator.proofs.filling.is_tidy.Goals as goal

pub returns : goal.returns
returns c =
    let l = drop c.text_end.result c.args.text.now in
    let rest = take_rest c.args.text.now c.text_end.result in
    all_from_yields_List (λ b. eqb b 0) _ _ c.all.result c.all.ensures.ran (YieldsList-from_slice l cc) (λ x b q k. search (rules, tests))
    ∙ (ap (λ (n : ℕ). list_all (λ b. eqb b 0) (drop n c.args.text.now)) c.text_end.ensures.is ∙ tidy-end c.args.text.now)
