-- The part that is filled holds so many of the bracket.
use mathlib.Core.Path.{◌≡◌, sym, ap, ◌∙◌}
use native.Mathlib.Omega.{arith}
use Prim.Native.Nat.{ℕ, ◌+◌, ◌-◌}
use lib.ListN.{length, take, drop, length-drop, length-replicate, replicate}
use lib.Seq.{length-take-le}
use Rattle.reader.proofs.Rooms.{put-sets}
use Rattle.reader.proofs.making.put_opens.Goals as goal

pub returns : goal.returns
returns c =
    let a = c.args in
    let opens = a.opens.now in
    let k = a.own + a.k - a.own in
    let rest = length-drop a.own opens in
    let size : length (take k (drop a.own opens)) ≡ a.k = length-take-le k (drop a.own opens) (omega (arith, rest, c.requires)) ∙ (let e : k ≡ a.k = omega arith in e) in
    put-sets opens a.own k (c.fill.ensures.after (λ y e. e) ∙ ap (λ (n : ℕ). replicate n a.at) size) (omega (arith, length-replicate {A = ℕ} a.k a.at)) (omega (arith, c.requires))
