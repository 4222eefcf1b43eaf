use Rattle.std.proofs.Common.{◌≡◌, ◌∙◌, ◌-◌, ◌≤◌, length, arith}
use Rattle.std.proofs.lemmas.List.{length-take-le, length-drop}
use borrow.Rule.Slice.PartMut.{same_len_mid}
use Rattle.text.proofs.Consumed.{consumes-more, take-put_some}
use Rattle.text.proofs.input.read_full.Goals as goal

pub loop-n-preserved : goal.loop-n-preserved
loop-n-preserved g c =
    let e = take-put_some c.loop-n.n (length c.loop-n.out - c.loop-n.n) c.loop-n.out c.read.new.buf c.in_ok-got.got c.in_ok-got.ensures.bound.0 c.loop-n.invariant.room in
    let most : c.in_ok-got.got ≤ length c.read.new.buf = c.in_ok-got.ensures.bound.0 in
    let same = same_len_mid c.loop-n.n (length c.loop-n.out - c.loop-n.n) c.loop-n.out c.read.new.buf c.read.auto.buf in
    let part : length c.read.new.buf ≡ length c.loop-n.out - c.loop-n.n = c.read.auto.buf ∙ length-take-le _ _ (omega (arith, length-drop c.loop-n.n c.loop-n.out)) in
    record {
      room = omega (arith, same);
      bytes = rw e (consumes-more _ _ _ _ _ c.loop-n.invariant.bytes c.in_ok-got.ensures.bytes.0);
    }
