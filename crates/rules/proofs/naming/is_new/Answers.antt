use mathlib.Core.Path.{◌≡◌, refl, sym, ap, ◌∙◌}
use mathlib.Core.Bool.{not}
use Prim.Native.Nat.{ℕ, ◌+◌}
use native.Mathlib.Omega.{arith}
use native.Mathlib.Numerals.{add-one}
use lib.ListN.{get_or}
use mathlib.Core.List.{List}
use Rattle.fixed.proofs.Scans.{passing-start, passing-turn, passing-stop, passing-end}
use Rattle.record.specs.Reading.{same_names, name_place}
use Rattle.rules.proofs.naming.is_new.Goals as goal

pub loop-init : goal.loop-init
unfolding name_place
loop-init c = (refl, omega arith, passing-start _ _ _)

pub is_same_name-requires : goal.is_same_name-requires
is_same_name-requires c = (omega (arith, c.loop.invariant.1), c.requires.1)

pub returns-then-is_same_name : goal.returns-then-is_same_name
returns-then-is_same_name c =
    passing-stop _ _ _ _ c.loop.invariant.2 c.loop-test.true (ap not (sym (c.is_same_name.ensures ∙ ap (λ (n : ℕ). same_names c.args.s.now n c.args.q) c.loop.invariant.0) ∙ c.if-is_same_name.true))

-- where the next name stands
after : (s : List ℕ) (j : ℕ) {at x : ℕ} → at ≡ name_place s j → x ≡ get_or s at 0 → at + (1 + x) ≡ name_place s (j + 1)
unfolding name_place
after s j {at} {x} e f =
    let g : x ≡ get_or s (name_place s j) 0 = f ∙ ap (λ (n : ℕ). get_or s n 0) e in rw add-one (omega arith)

pub loop-preserved : goal.loop-preserved
loop-preserved c =
    (after c.args.s.now c.loop.counter c.loop.invariant.0 c.byte_at.ensures.is, omega (arith, c.loop.invariant.1, c.byte_at.ensures.small), passing-turn _ _ _ _ c.loop.invariant.2 c.loop-test.true (ap not (sym (c.is_same_name.ensures ∙ ap (λ (n : ℕ). same_names c.args.s.now n c.args.q) c.loop.invariant.0) ∙ c.if-is_same_name.false)))

pub returns : goal.returns
returns c = passing-end _ _ _ _ c.loop.invariant.2 c.loop-test.false
