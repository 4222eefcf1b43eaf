-- What is kept, with the tokens of the text that is left, comes to what all tokens come to; they gave at most two words each.
use Prim.Native.Nat.{◌+◌, ◌*◌, ◌≤◌}
use lib.ListN.{length}
use Rattle.symbols.specs.Tokens.{gap, lexed}
use Rattle.program.specs.Kept.{keeps, held_in}
use Rattle.program.proofs.Taken.{Compiling}
use Rattle.program.proofs.compiling.compile_text.Given as goal

abbrev pub invariant-loop-symbol : goal.invariant-loop-symbol
invariant-loop-symbol l =
    record {
      few : l.count ≤ 400;
      room : length l.words + 2 * held_in l.state ≤ 2 * l.count;
      compiling : Compiling (lexed gap l.fn.text) (keeps l.state l.words l.outers) (lexed gap l.text) l.count;
    }

abbrev pub decreases-loop-symbol : goal.decreases-loop-symbol
decreases-loop-symbol l = length l.text
