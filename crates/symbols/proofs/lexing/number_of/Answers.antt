use mathlib.Core.Path.{ap, ◌∙◌}
use mathlib.Core.List.{foldl}
use borrow.Author.Rules.{rules}
use Rattle.std.proofs.Common.{tests}
use Rattle.std.proofs.lemmas.Iterator.{YieldsList-from_slice}
use Rattle.std.proofs.lemmas.Iterator.Consumers.{fold_from_yields_List}
use Rattle.lexical.specs.Numbers.{with_figure, number_of}
use Rattle.lexical.specs.declared.types.Number.{Number}
use Rattle.symbols.proofs.Names.{fold_is}
use Rattle.symbols.proofs.lexing.number_of.Goals as goal

pub returns : goal.returns
unfolding number_of
returns c =
    let f = fold_from_yields_List _ with_figure c.no_number.result c.fold.result c.fold.ensures.ran (YieldsList-from_slice c.args.word.now cc) (λ a x b q k. search (rules, tests)) in
    f ∙ (fold_is with_figure c.no_number.result c.args.word.now ∙ ap (λ (n : Number). foldl with_figure n c.args.word.now) c.no_number.ensures)
