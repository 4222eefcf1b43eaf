use mathlib.Core.Path.{◌≡◌, sym, ap, ◌∙◌}
use mathlib.Core.Bool.{Bool}
use mathlib.Core.List.{List}
use Prim.Native.Nat.{ℕ}
use Rattle.fixed.proofs.Scans.{passing-turn, passing-stop, passing-end}
use Rattle.record.specs.Reading.{the_none, name_is, name_place, all_none}
use Rattle.record.proofs.names.are_none.Invariants.{IsNone}
use Rattle.record.proofs.names.are_none.Goals as goal

named : (s : List ℕ) (k : ℕ) {at : ℕ} {t : Bool} → at ≡ name_place s k → t ≡ name_is s at the_none → t ≡ IsNone s k
named s k e f = f ∙ ap (λ (n : ℕ). name_is s n the_none) e

pub returns-then-not-is_name : goal.returns-then-not-is_name
unfolding all_none
returns-then-not-is_name c =
    passing-stop _ _ _ _ c.loop-k.invariant c.loop-k-test.true (sym (named c.args.s.now c.loop-k.k c.name_place.ensures.is c.is_name.ensures) ∙ c.if-not-is_name.true)

pub loop-k-preserved : goal.loop-k-preserved
loop-k-preserved c =
    passing-turn _ _ _ _ c.loop-k.invariant c.loop-k-test.true (sym (named c.args.s.now c.loop-k.k c.name_place.ensures.is c.is_name.ensures) ∙ c.if-not-is_name.false)

pub returns : goal.returns
unfolding all_none
returns c = passing-end _ _ _ _ c.loop-k.invariant c.loop-k-test.false
