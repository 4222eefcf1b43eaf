use mathlib.Core.Path.{◌∙◌}
use mathlib.Core.Bool.{not}
use Prim.Native.Nat.{ℕ}
use borrow.Author.Rules.{rules}
use Rattle.std.proofs.Common.{tests}
use Rattle.std.proofs.lemmas.Iterator.{YieldsList-from_slice}
use Rattle.std.proofs.lemmas.Iterator.Search.{position_from_yields_List}
use Rattle.std.proofs.lemmas.List.Sums.{prefix_len-le-length}
use Rattle.symbols.proofs.Lexed.{or_length}
use lib.Dec.{eqb}
use Rattle.program.proofs.compiling.text_end.Goals as goal

pub returns-clause-is : goal.returns-clause-is
returns-clause-is c =
    let p = position_from_yields_List (λ b. eqb b 0) _ _ c.position.result c.position.ensures.ran (YieldsList-from_slice c.args.bytes.now cc) (λ x b q k. search (rules, tests)) in
    c.unwrap_or.ensures ∙ (rw p (or_length _ _ (prefix_len-le-length {X = ℕ} (λ b. not (eqb b 0)) c.args.bytes.now)))
