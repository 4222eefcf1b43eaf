-- `put_run`: a run that is copied is stored.
use mathlib.Core.Path.{◌≡◌, sym, ap, ◌∙◌}
use mathlib.Core.List.{List}
use Prim.Native.Nat.{ℕ, ◌+◌}
use lib.ListN.{length}
use lib.Seq.{sets}
use Rattle.fixed.proofs.Stores.{copied}
use Rattle.layout.specs.Field.{puts, padded}
use Rattle.layout.proofs.Held.{length-padded}
use Rattle.layout.proofs.Puts.{padded-take}
use Rattle.layout.proofs.store.put_run.Goals as goal

pub returns : goal.returns
unfolding puts
returns c =
    let s = c.args in
    let e : c.copy_from_slice.new.self ≡ padded s.n s.s.now = c.copy_from_slice.ensures.after ∙ sym (padded-take s.n s.s.now c.requires.0) in
    let long : s.at + length c.copy_from_slice.new.self ≡ s.at + s.n = ap (λ (l : List ℕ). s.at + length l) e ∙ ap (λ (k : ℕ). s.at + k) (length-padded s.n s.s.now) in
    copied c.copy_from_slice.new.self s.out.now s.at (s.at + s.n) long c.requires.1 ∙ ap (sets s.out.now s.at) e
