-- `read`: what is left to read from the state in hand comes to what the whole part comes to from the first one.
use Prim.Native.Nat.{◌+◌, ◌-◌, ◌*◌}
use mathlib.Core.Path.{◌≡◌}
use lib.ListN.{length, drop}
use Rattle.lexer.proofs.Texts.{pending}
use Rattle.reader.specs.Texts.{part_of}
use Rattle.tokens.specs.Sizes.{Sizes}
use Rattle.designer.specs.State.{progress_at}
use Rattle.designer.proofs.reading.read.Given as goal

abbrev pub invariant-loop-t : goal.invariant-loop-t
invariant-loop-t l = Sizes (length l.values) (length l.word) (length l.marks) (length l.names) (length l.opens) (length l.blocks)
    × (part_of l.room (progress_at l.t l.values l.word l.marks l.names l.opens l.blocks) (drop l.i l.text) ≡ part_of l.room (progress_at l.initial.t l.initial.values l.initial.word l.initial.marks l.initial.names l.initial.opens l.initial.blocks) l.text)

abbrev pub decreases-loop-t : goal.decreases-loop-t
decreases-loop-t l = 2 * (length l.text - l.i) + pending l.t.lexer.mode
