use mathlib.Core.Path.{◌≡◌, refl, sym, ◌∙◌, ap}
use mathlib.Core.List.{List}
use native.Mathlib.Numerals.{add-one}
use Prim.Native.Nat.{ℕ, ◌+◌}
use Rattle.fixed.specs.Bytes.{block_at}
use Rattle.fixed.proofs.Numbered.{some_number}
use Rattle.fixed.proofs.Scans.{clean-start, clean-turn, clean-stop, clean_end}
use Rattle.record.specs.Reading.{body_at}
use Rattle.record.specs.declared.types.Body.{Body}
use Rattle.runs.specs.Runs.{claimed_at, claimed_after}
use Rattle.page.specs.Validation.{fault_claimed, fault_two}
use Rattle.page.proofs.second.pass_two.Goals as goal

-- y is the body of block i
module _ (page : List ℕ) (i claimed r : ℕ) {y : Body} (g : y ≡ body_at (block_at page i)) (q : claimed ≡ claimed_at page i) where
  fault-is : r ≡ fault_claimed page i claimed y → r ≡ fault_two page i
  unfolding fault_two
  fault-is e = e ∙ (λ j. fault_claimed page i (q j) (g j))

  claimed-next : r ≡ claimed_after page i y claimed → r ≡ claimed_at page (i + 1)
  unfolding claimed_at
  claimed-next e = e ∙ (λ j. claimed_after page i (g j) (q j)) ∙ sym (ap (claimed_at page) (add-one i))

pub loop-i-init : goal.loop-i-init
unfolding claimed_at
loop-i-init c = record { clean = clean-start _ _ _ _; claimed-is = refl }

pub returns-in-Err : goal.returns-in-Err
returns-in-Err c =
    let fault = fault-is _ _ _ _ c.body_at-y.ensures c.loop-i.invariant.claimed-is c.in-Err.ensures in
    rw (c.of_block.ensures.is, c.of_block.ensures.about) (clean-stop _ _ _ _ _ _ c.loop-i.invariant.clean c.loop-i-test.true fault (some_number c.in-Err.refusal))

pub loop-i-preserved : goal.loop-i-preserved
loop-i-preserved c =
    record {
      clean = clean-turn _ _ _ _ _ _ c.loop-i.invariant.clean c.loop-i-test.true (fault-is _ _ _ _ c.body_at-y.ensures c.loop-i.invariant.claimed-is c.in_default.ensures) refl;
      claimed-is = claimed-next _ _ _ _ c.body_at-y.ensures c.loop-i.invariant.claimed-is c.claimed_after-claimed.ensures;
    }

pub returns : goal.returns
returns c = clean_end _ _ _ _ _ c.loop-i.invariant.clean c.loop-i-test.false
