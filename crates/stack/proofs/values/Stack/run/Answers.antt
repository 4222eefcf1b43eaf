-- Each turn is one item; where there is none, or its words go on past the end, the run is over.
use mathlib.Core.Path.{◌∙◌, refl}
use native.Mathlib.Omega.{arith}
use Rattle.stack.proofs.Runs.{turn-stops, turn-goes, turn-ends, meant_there}
use Rattle.stack.proofs.values.Stack.run.Goals as goal

pub returns-then-words-at : goal.returns-then-words-at
returns-then-words-at c =
    turn-ends c.args.words.now c.items.at c.items.self c.in-Some.ensures (meant_there c.in-Some.item) c.moves-moves.ensures c.top_holds.ensures c.step.ensures c.if-words-at.true ∙ c.items.invariant.1

pub items-preserved : goal.items-preserved
items-preserved c =
    (omega arith, turn-goes c.args.words.now c.items.at c.items.self c.in-Some.ensures (meant_there c.in-Some.item) c.moves-moves.ensures c.top_holds.ensures c.step.ensures ∙ c.items.invariant.1)

pub returns : goal.returns
returns c = turn-stops c.args.words.now c.items.at c.items.self c.in_default.ensures refl ∙ c.items.invariant.1
