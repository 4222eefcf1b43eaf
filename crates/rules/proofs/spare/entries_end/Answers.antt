use mathlib.Core.Path.{◌≡◌, sym, ap, ◌∙◌}
use mathlib.Core.Bool.{Bool}
use mathlib.Core.List.{List}
use Prim.Native.Nat.{ℕ}
use lib.IntN.{ℤ}
use Rattle.fixed.specs.Loops.{all_between}
use Rattle.fixed.specs.Values.{value}
use Rattle.fixed.proofs.Scans.{passing-start, passing-turn, passing-stop, passing-end}
use Rattle.fixed.proofs.Signs.{signed-within}
use Rattle.record.specs.Layout.{entries_of}
use Rattle.record.specs.Rules.{is_zero, entries_end}
use Rattle.record.specs.declared.types.Four.{Four}
use Rattle.rules.proofs.spare.entries_end.Invariants.{Zero}
use Rattle.rules.proofs.spare.entries_end.Goals as goal

ends : (q : Four) (m : ℕ) {a : List ℤ} {r : Bool} → a ≡ entries_of q → r ≡ all_between (Zero a) m 4 → r ≡ entries_end q m
unfolding entries_end
ends q m {r = r} e h = h ∙ ap (λ (l : List ℤ). all_between (Zero l) m 4) e

pub loop-k-init : goal.loop-k-init
loop-k-init c = passing-start _ _ _

pub returns-then-not-is_zero : goal.returns-then-not-is_zero
returns-then-not-is_zero c =
    let loop = c.loop-k in
    let a = c.entries_of-entries.result in
    ends _ _ c.entries_of-entries.ensures
    (passing-stop (Zero a) _ _ loop.k loop.invariant c.loop-k-test.true
    (ap is_zero (sym (signed-within (value a loop.k) c.is_zero-arg-1.given)) ∙ sym c.is_zero.ensures ∙ c.if-not-is_zero.true))

pub loop-k-preserved : goal.loop-k-preserved
loop-k-preserved c =
    let loop = c.loop-k in
    let a = c.entries_of-entries.result in
    passing-turn (Zero a) _ _ loop.k loop.invariant c.loop-k-test.true
    (ap is_zero (sym (signed-within (value a loop.k) c.is_zero-arg-1.given)) ∙ sym c.is_zero.ensures ∙ c.if-not-is_zero.false)

pub returns : goal.returns
returns c =
    ends _ _ c.entries_of-entries.ensures (passing-end (Zero c.entries_of-entries.result) _ _ _ c.loop-k.invariant c.loop-k-test.false)
