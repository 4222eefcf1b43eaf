-- The name, the body and the room, put together by `made-record`.
use mathlib.Core.Path.{ap, ◌∙◌}
use Prim.Native.Nat.{◌+◌, ◌*◌}
use Rattle.std.proofs.lemmas.Slice.{between_is}
use Rattle.layout.specs.Field.{padded}
use Rattle.reader.proofs.Makings.{made-record}
use Rattle.reader.proofs.making.record_of.Goals as goal

pub returns : goal.returns
returns c =
    let a = c.args in
    let x = c.slot-x in
    let n = c.depth-n in
    let len = c.name_length-len in
    let from = 128 * x.result + 1 in
    λ marks opens page. made-record a.h marks a.names.now x.result n.result x.ensures.is n.ensures.is a.values.now opens page len.result
    (len.ensures.is marks) (len.ensures.room marks) c.body_of-body.ensures
    (c.room_of-bytes.ensures ∙ ap (padded 504) (between_is a.names.now from (from + len.result)))
