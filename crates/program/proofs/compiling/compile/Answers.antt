-- The text goes to its first zero byte.
use mathlib.Core.Path.{ap, ◌∙◌}
use mathlib.Core.List.{List}
use Prim.Native.Nat.{ℕ}
use lib.ListN.{take}
use Rattle.symbols.specs.Tokens.{gap, lexed}
use Rattle.program.specs.Texts.{read_tokens}
use Rattle.program.specs.Kept.{wanted}
use Rattle.program.proofs.Zero.{take-zero}
use Rattle.program.proofs.compiling.compile.Goals as goal

pub returns : goal.returns
returns c =
    c.compile_text.ensures
    ∙ ap (λ (l : List ℕ). wanted (read_tokens (lexed gap l))) (ap (λ (n : ℕ). take n c.args.bytes.now) c.text_end.ensures.is ∙ take-zero c.args.bytes.now)
