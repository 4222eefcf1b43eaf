use mathlib.Core.Path.{refl, sym, ◌∙◌}
use native.Mathlib.Omega.{arith}
use Rattle.fixed.proofs.Scans.{clean-start, clean-turn, clean-stop, clean_end}
use Rattle.page.proofs.Sizes.{sized-most}
use Rattle.page.proofs.Accepted.{well-sized}
use Rattle.ink_names.specs.Search.{lowest}
use Rattle.ink_names.proofs.Found.{mark-yes, mark-no}
use Rattle.ink_names.proofs.search.lowest.Goals as goal

pub overflow_cast-n : goal.overflow_cast-n
overflow_cast-n c = omega (arith, sized-most _ (well-sized _ c.requires))

pub loop-i-init : goal.loop-i-init
loop-i-init c = clean-start _ _ _ _

pub is_ink-requires : goal.is_ink-requires
is_ink-requires c = (c.requires, c.loop-i-test.true)

pub returns-then-is_ink : goal.returns-then-is_ink
unfolding lowest
returns-then-is_ink c =
    let yes = sym (mark-yes _ (sym c.is_ink.ensures ∙ c.if-is_ink.true)) in
    clean-stop _ _ _ _ _ 1 c.loop-i.invariant c.loop-i-test.true yes (λ z. omega arith)

pub loop-i-preserved : goal.loop-i-preserved
loop-i-preserved c =
    let no = sym (mark-no _ (sym c.is_ink.ensures ∙ c.if-is_ink.false)) in
    clean-turn _ _ _ _ _ 0 c.loop-i.invariant c.loop-i-test.true no refl

pub returns : goal.returns
unfolding lowest
returns c = clean_end _ _ _ _ _ c.loop-i.invariant c.loop-i-test.false
