-- The place after x gets the bracket and no name: `opens-slot` of Rings.
use Rattle.reader.proofs.Rings.{opens-slot}
use Rattle.reader.proofs.frames.open_slot.Goals as goal

pub returns : goal.returns
returns c =
    let args = c.args in
    let pre = c.requires in
    let o = opens-slot args.marks.now args.names.now args.at args.x c.after_slot-s.result pre.0 c.after_slot-s.ensures.small
    pre.1.0 pre.1.1 c.after_slot-s.ensures.is in
    record { grows = o.0; stays = o.1 }
