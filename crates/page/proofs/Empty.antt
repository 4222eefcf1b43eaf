-- A block 0 of 512 zero bytes is an accepted page of no spaces.
use mathlib.Core.Path.{◌≡◌, refl, ap, ◌∙◌}
use mathlib.Core.List.{List}
use Prim.Native.Nat.{ℕ, ◌+◌, ◌*◌, ◌<◌}
use borrow.Author.Tests.{lt-ltb}
use lib.ListN.{replicate}
use lib.Seq.{get_or-drop}
use Rattle.fixed.specs.Bytes.{blocks, block_at}
use Rattle.fixed.specs.Loops.{total, all_from, zero_between, first_from}
use Rattle.fixed.proofs.Listed.{zeros-at}
use Rattle.record.specs.Layout.{plain, weighed, checked}
use Rattle.record.specs.Reading.{body_by, body_at}
use Rattle.record.specs.Rules.{well_laid, name_shown, well_formed, lawful, lawful_in, names_lawful, supported}
use Rattle.record.specs.declared.types.Body.TheVariants.{Free}
use Rattle.space.specs.Spaces.{count_of, none}
use Rattle.space.specs.Pages.{plain_of, tinted_of, space_of, space_at}
use Rattle.page.specs.Outcomes.{accepted}
use Rattle.runs.specs.Runs.{permitted, claimed_at, program_fault, well_filled}
use Rattle.page.specs.Validation.{well_sized, fault_one, fault_claimed, fault_two, validated}

abbrev pub zero_page : List ℕ
zero_page = replicate 512 0

-- by computing
pub zero-accepted : validated zero_page ≡ accepted
unfolding validated well_sized fault_one fault_two fault_claimed claimed_at permitted program_fault well_filled checked plain weighed body_by well_laid name_shown well_formed lawful lawful_in names_lawful supported total all_from zero_between first_from
zero-accepted = refl

-- every block is free
zero-free : (n : ℕ) → body_at (block_at zero_page n) ≡ Free
unfolding body_by
zero-free n = ap (λ (k : ℕ). body_by k (block_at zero_page n)) (get_or-drop (512 * n) zero_page 0 0 ∙ zeros-at 512 (512 * n + 0))

-- no block number is a space's
pub zero-none : (n : ℕ) → n < blocks → space_at zero_page n ≡ none
unfolding space_of tinted_of plain_of
zero-none n l = rw (lt-ltb n blocks l, zero-free n)

pub zero-count : (n : ℕ) → n < blocks → count_of (space_at zero_page n) ≡ 0
zero-count n l = ap count_of (zero-none n l)
