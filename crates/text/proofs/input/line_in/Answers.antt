use Rattle.std.proofs.Common.{◌≡◌, ◌∙◌, ◌≢◌, ◌+◌, ◌≤◌, ◌<◌, ◌++◌, [], ◌∷◌, length, take, slice_index_or, slice_set, arith}
use Rattle.std.proofs.Math.ListN.{length-set}
use Rattle.std.proofs.lemmas.List.{take_more_set}
use Rattle.std.proofs.lemmas.List.Elements.{All-append}
use Rattle.text.proofs.Consumed.{consumes-more, take-one, all-one}
use Rattle.text.proofs.input.line_in.Goals as goal

pub loop-n-preserved : goal.loop-n-preserved
loop-n-preserved g c =
    let x = slice_index_or c.read.new.buf 0 0 in
    let room : c.loop-n.n < length c.loop-n.out = omega (arith, c.loop-n.invariant.room) in
    let e : take (c.loop-n.n + 1) (slice_set c.loop-n.out c.loop-n.n x) ≡ take c.loop-n.n c.loop-n.out ++ (x ∷ []) = take_more_set c.loop-n.out c.loop-n.n x room in
    let one : c.in_ok-got.got ≤ length c.read.new.buf = c.in_ok-got.ensures.bound.0 in
    let got : take c.in_ok-got.got c.read.new.buf ≡ x ∷ [] = take-one c.read.new.buf c.in_ok-got.got c.read.auto.buf (omega arith) in
    let new = rw got at c.in_ok-got.ensures.bytes.0 in
    record {
      room = length-set c.loop-n.out c.loop-n.n x ∙ c.loop-n.invariant.room;
      bytes = rw e (consumes-more _ _ _ _ _ c.loop-n.invariant.bytes new);
      line = rw e (All-append (λ y. y ≢ 10) _ _ c.loop-n.invariant.line (all-one (λ y. y ≢ 10) x c.if-c-eq10.false));
    }
