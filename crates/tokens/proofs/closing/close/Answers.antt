-- `close`: the spaces around the one that closes are those that the ring has before it, and the first of them says how it goes on.
use mathlib.Core.Path.{◌≡◌, ap, ◌∙◌}
use Prim.Native.Nat.{ℕ}
use borrow.Author.Tests.{eq-eqb, ne_eqb}
use Rattle.reader.specs.Spaces.{name_of, around}
use Rattle.reader.specs.Kept.{frames_at, top_of, deep_of}
use Rattle.reader.specs.Tokens.{outside, resumes, closed}
use Rattle.tokens.proofs.Shutting.{ring-popped, left-around, name-around}
use Rattle.tokens.proofs.closing.close.Goals as goal
use Rattle.tokens.proofs.closing.close.Goals.{then-m-eq0, else-m-eq0}

pub returns : goal.returns
unfolding outside closed
returns c =
    λ values marks opens page opens' page'.
    let h = c.args.h in
    let names = c.args.names.now in
    let x = c.slot.result in
    let n = c.depth-n.result in
    let m = c.saturating_sub-m.result in
    let y = c.before_slot-top.result in
    let ex = c.slot.ensures.is in
    let en = c.depth-n.ensures.is in
    let em = c.saturating_sub-m.ensures in
    let ey = c.before_slot-top.ensures.is in
    let outer = name_of (around (frames_at marks names (top_of h) (deep_of h))) in
    let len = name-around h marks names x n m y ex en em ey c.name_length-name.result (c.name_length-name.ensures.is marks) in
    let want : c.if-m-eq0.result ≡ outside m (resumes outer) = elim c.if-m-eq0.branch [
      | then-m-eq0 w ↦ w.result-is ∙ rw (eq-eqb m 0 w.if-m-eq0.true)
      | else-m-eq0 w ↦ w.result-is ∙ w.resume_with.ensures outer len ∙ rw (ne_eqb m 0 w.if-m-eq0.false)
    ] in
    simp (
      ring-popped h marks names x n m y ex en em ey c.depth-n.ensures.small c.before_slot-top.ensures.small,
      want ∙ ap (λ (k : ℕ). outside k (resumes outer)) (left-around h marks names x n m y ex en em ey),
      c.resume_kind.ensures outer len,
      c.count_of.ensures,
      c.from.ensures,
      c.from-2.ensures,
    )
