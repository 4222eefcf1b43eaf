-- A run that begins as no number does is a name, and so is one that is no number.
use mathlib.Core.Path.{◌≡◌, sym, ap, ◌∙◌}
use mathlib.Core.Bool.{false}
use mathlib.Core.List.{List}
use Prim.Native.Nat.{ℕ}
use Rattle.lexical.specs.Numbers.{numeric, number_of}
use Rattle.symbols.specs.Tokens.{word_token}
use Rattle.symbols.proofs.Names.{named_only, named_none}
use Rattle.symbols.proofs.Lexed.{empty}
use Rattle.symbols.proofs.lexing.word_token.Goals as goal
use Rattle.symbols.proofs.lexing.word_token.Goals.{in-Some+then-begins_number+else-is_number, in-Some+else-begins_number, in_default}

pub returns : goal.returns
unfolding word_token
returns c =
    let e : numeric (number_of c.args.word.now).part ≡ false = elim c.match-split_first.branch [
      | in-Some+then-begins_number+else-is_number w ↦ rw w.number_of-n.ensures at (sym w.is_number.ensures ∙ w.if-is_number.false)
      | in-Some+else-begins_number w ↦ ap (λ (l : List ℕ). numeric (number_of l).part) w.in-Some.ensures.cases.0 ∙ named_only _ _ (sym w.begins_number.ensures ∙ w.if-begins_number.false)
      | in_default w ↦ ap (λ (l : List ℕ). numeric (number_of l).part) (empty _ w.in_default.ensures.cases) ∙ named_none
    ] in
    rw e c.named.ensures
