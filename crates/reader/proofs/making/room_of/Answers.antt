-- As many bytes as there are, or as there is room for: `room_filled` of Rooms.
use mathlib.Core.Path.{ap, ◌∙◌}
use mathlib.Core.List.{List, ◌++◌}
use mathlib.Core.Logic.{inl, inr, ⊎_elim}
use native.Mathlib.Omega.{arith}
use Prim.Native.Nat.{ℕ, ◌≤◌, ◌<◌}
use lib.ListN.{length, drop, replicate}
use Rattle.keys.proofs.Masks.{split}
use Rattle.reader.proofs.Rooms.{room_filled}
use Rattle.reader.proofs.making.room_of.Goals as goal

pub returns : goal.returns
returns c =
    let s = c.args.s.now in
    let n = c.min-n.result in
    let m = c.min-n.ensures in
    ap (λ (l : List ℕ). l ++ drop n (replicate 504 0)) c.copy_from_slice.ensures.after
    ∙ room_filled 504 n s (omega (arith, m)) (omega (arith, m))
    (⊎_elim (λ (h : 504 < length s). inr (omega (arith, m))) (λ (h : length s ≤ 504). inl (omega (arith, m))) (split 504 (length s)))
