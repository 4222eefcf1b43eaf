-- A part that is copied is so many words stored.
use native.Mathlib.Omega.{arith}
use Prim.Native.Nat.{◌+◌, ◌-◌}
use lib.ListN.{length}
use Rattle.reader.proofs.Rooms.{put-sets}
use Rattle.states.proofs.words.put_words.Goals as goal

pub returns : goal.returns
returns c =
    let a = c.args in
    put-sets a.w.now a.at (a.at + length a.from.now - a.at) c.copy_from_slice.ensures.after (omega arith) (omega (arith, c.requires))
