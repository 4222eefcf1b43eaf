-- What `find` replied, as C has it: a block number fits beside the page, and each case gives its reply and its place.
use mathlib.Core.Path.{◌≡◌, sym, ap, subst, ◌∙◌}
use mathlib.Core.List.{List, [], ◌∷◌}
use Prim.Native.Nat.{ℕ, ◌≤◌, ◌<◌}
use lib.ListN.{length}
use Rattle.std.specs.Prelude.{Result, Err}
use Rattle.fixed.specs.Bytes.{blocks}
use Rattle.ink_names.specs.Replies.{Reply, found, block_in, said, meaning}
use Rattle.ink_names.specs.Names.{name_start}
use Rattle.ink_names.specs.Search.{found_ink}
use Rattle.ink_names.specs.declared.asked.Place.{Place}
use Rattle.ink_names.specs.declared.asked.AskError.{AskError}
use Rattle.ink_names.specs.declared.asked.AskError.TheVariants.{JobRefused, HouseRefused, NoSuchInk}
use Rattle.ink_names.proofs.Laws.{found-short, block-below}
use Rattle.sktelbaan_runner.specs.Replies.{in_halves}
use Rattle.c_layout.specs.Inks.{on_page, ink_of, place_of}

module _ (job house name : List ℕ) where
  -- the block that a reply names is a block number
  pub below : (r : Result Place AskError) → meaning r ≡ found_ink job house name → block_in (meaning r) < blocks
  below r e = subst (λ (y : Reply). block_in y < blocks) (sym e) (block-below job house name)

  module _ (f : Place) (e : found (said f.page) f.block ≡ found_ink job house name) where
    pub short : length name ≤ 127
    short = found-short job house name (said f.page) f.block (sym e)

    pub given-found : (d : List ℕ) {reply-is high from : ℕ} → from ≡ name_start f.block → high ≡ on_page (said f.page) f.block → reply-is ≡ in_halves 0 high
        → (reply-is ≡ ink_of (found_ink job house name)) × (from ∷ length name ∷ [] ≡ place_of (found_ink job house name) name d)
    given-found d p q h = (
      h ∙ ap (in_halves 0) q ∙ ap ink_of e,
      ap (λ (k : ℕ). k ∷ length name ∷ []) p ∙ ap (λ (y : Reply). place_of y name d) e,
    )

  -- on a refusal the place stays as it was
  kept : (k : AskError) (d : List ℕ) → meaning (Err k) ≡ found_ink job house name → d ≡ place_of (found_ink job house name) name d
  kept (JobRefused x) d e = ap (λ (y : Reply). place_of y name d) e
  kept (HouseRefused x) d e = ap (λ (y : Reply). place_of y name d) e
  kept NoSuchInk d e = ap (λ (y : Reply). place_of y name d) e

  pub given-refused : (k : AskError) (d : List ℕ) → meaning (Err k) ≡ found_ink job house name → {reply-is : ℕ} → reply-is ≡ ink_of (meaning (Err k))
      → (reply-is ≡ ink_of (found_ink job house name)) × (d ≡ place_of (found_ink job house name) name d)
  given-refused k d e h = (h ∙ ap ink_of e, kept k d e)
