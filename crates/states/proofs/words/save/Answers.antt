-- `save`: the three runs of words stored one after the other are those of the state, which its types keep in range.
use mathlib.Core.Path.{◌∙◌}
use native.Mathlib.Omega.{arith}
use lib.Seq.{sets}
use mathlib.Core.List.{[], ◌∷◌}
use Rattle.states.proofs.Saved.{saved}
use Rattle.states.proofs.words.save.Goals as goal

pub returns : goal.returns
returns c =
    saved c.args.s c.args.w.now c.requires c.lexer_words-a.ensures.is c.head_words-b.ensures.is c.put_words.ensures c.put_words-2.ensures
    (c.put_words-3.ensures ∙ (λ i. sets c.put_words-2.new.w 23 (c.from.ensures i ∷ c.from-2.ensures i ∷ [])))
    c.lexer_words-a.ensures.fit c.head_words-b.ensures.fit (omega arith) (omega arith)
