-- `put_zeros`: zeros that are filled in are stored.
use mathlib.Core.Path.{◌≡◌, ap, ◌∙◌}
use mathlib.Core.List.{List}
use Prim.Native.Nat.{ℕ, ◌-◌}
use native.Mathlib.Omega.{arith}
use lib.ListN.{length, drop, replicate, length-replicate, length-drop}
use lib.Seq.{sets, length-take-le}
use Rattle.fixed.proofs.Stores.{copied}
use Rattle.layout.specs.Field.{puts}
use Rattle.layout.proofs.store.put_zeros.Goals as goal

pub returns : goal.returns
unfolding puts
returns c =
    let s = c.args in
    let n = s.to - s.at in
    let e : c.fill.new.self ≡ replicate n 0 = c.fill.ensures.after (λ y h. h) ∙ ap (λ (k : ℕ). replicate k 0) (length-take-le n (drop s.at s.out.now) (simp length-drop (omega arith))) in
    let long : length c.fill.new.self ≡ n = ap (λ (l : List ℕ). length l) e ∙ length-replicate n 0 in
    copied c.fill.new.self s.out.now s.at s.to (omega arith) c.requires.1 ∙ ap (sets s.out.now s.at) e
