-- A page that is refused names a block number: one of its blocks, or 0.
use mathlib.Core.Path.{◌≡◌}
use mathlib.Core.Logic.{◌⊎◌, inl, inr, ⊎_elim}
use mathlib.Core.Bool.{true}
use mathlib.Core.List.{List}
use Prim.Native.Nat.{ℕ, ◌/◌, ◌≤◌, ◌<◌}
use native.Mathlib.Omega.{arith}
use lib.ListN.{length}
use Rattle.fixed.specs.Bytes.{blocks}
use Rattle.fixed.specs.Loops.{first_from}
use Rattle.fixed.proofs.Decide.{cond_ind}
use Rattle.page.specs.Outcomes.{Outcome, accepted, refused, and_then}
use Rattle.page.specs.Validation.{well_sized, fault_one, fault_two, passes, validated}
use Rattle.page.proofs.Sizes.{sized-most}
use Rattle.ink_names.proofs.Firsts.{First, first-ways}

module _ (number block : ℕ) where
  -- what two passes refuse, the first refuses or the second
  pass-ways : (x y : Outcome) → and_then x y ≡ refused number block → (x ≡ refused number block) ⊎ (y ≡ refused number block)
  pass-ways accepted y e = inr e
  pass-ways (refused k i) y e = inl e

  -- a pass over n blocks names one of them
  pass_below : (f : ℕ → ℕ) (n : ℕ) → n ≤ blocks → first_from accepted refused f 0 n ≡ refused number block → block < blocks
  pass_below f n most e = ⊎_elim never named (first-ways accepted refused f 0 n (refused number block) e)
    where
      never : accepted ≡ refused number block → block < blocks
      never z = absurd (let w : ◌≡◌ {A = ℕ} 0 1 = cc in omega arith)

      named : First accepted refused f 0 n (refused number block) → block < blocks
      named r = let b : r.at ≡ block = cc r.gives in omega (arith, r.below)

  pub refused-below : (page : List ℕ) → validated page ≡ refused number block → block < blocks
  unfolding validated
  refused-below page = cond_ind P (well_sized (length page)) by-passes (λ _ e. let b : 0 ≡ block = cc in omega arith)
    where
      P : Outcome → Type 0
      P x = x ≡ refused number block → block < blocks

      by-passes : well_sized (length page) ≡ true → P (passes page (length page / 512))
      by-passes t e =
          let n = length page / 512 in
          let most = sized-most (length page) t in
          ⊎_elim (pass_below (fault_one page) n most) (pass_below (fault_two page) n most) (pass-ways _ _ e)
