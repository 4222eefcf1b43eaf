use mathlib.Core.Path.{◌≡◌, refl, ap, ◌∙◌}
use Prim.Native.Nat.{ℕ, suc, ◌+◌, ◌*◌, ◌≤◌}
use native.Mathlib.Omega.{arith}
use mathlib.Core.List.{List}
use lib.ListN.{length, length-set, take, set}
use lib.Seq.{sets, length-take-le}
use borrow.Author.Rules.{rules}
use Rattle.reader.specs.Kept.{frames_at}
use Rattle.reader.proofs.Rings.{name-turn, name-put}
use Rattle.reader.proofs.frames.name_slot.Goals as goal

pub loop-i-init : goal.loop-i-init
loop-i-init c = (length-set c.args.names.now _ _ ∙ c.requires.1.0, refl)

pub loop-i-preserved : goal.loop-i-preserved
loop-i-preserved c = (search rules, name-turn _ _ c.args.word.now c.loop-i.i (omega arith) c.loop-i.invariant.1)

pub returns : goal.returns
returns c = λ marks k h.
    let a = c.args in
    let e : c.loop-i.i ≡ a.n = omega arith in
    ap (λ (l : List ℕ). frames_at marks l a.x (suc k))
    (c.loop-i.invariant.1 ∙ ap (λ (j : ℕ). sets (set a.names.now (128 * a.x) a.n) (128 * a.x + 1) (take j a.word.now)) e)
    ∙ name-put a.names.now (take a.n a.word.now) a.x a.n (omega arith) (length-take-le a.n a.word.now (omega arith)) c.requires.1.0 c.requires.0 marks k h
