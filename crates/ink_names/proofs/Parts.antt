-- The part that answers what `find` replied: where it was found, the name there is on the page and as long as the one asked for; where not, it is empty.
use mathlib.Core.Path.{◌≡◌, sym, ap, subst, ◌∙◌}
use mathlib.Core.List.{List}
use Prim.Native.Nat.{ℕ, ◌+◌, ◌≤◌}
use lib.ListN.{length}
use Rattle.std.specs.Prelude.{Err}
use Rattle.page.specs.Outcomes.{accepted}
use Rattle.page.specs.Validation.{validated}
use Rattle.ink_names.specs.Replies.{Reply, found, said, meaning}
use Rattle.ink_names.specs.Names.{name_start, name_size}
use Rattle.ink_names.specs.Search.{found_ink}
use Rattle.ink_names.specs.Laws.{Lowest}
use Rattle.ink_names.specs.Parts.{Slice, PartOf, NamePart}
use Rattle.ink_names.specs.declared.asked.Side.{Side}
use Rattle.ink_names.specs.declared.asked.Side.TheVariants.{Job, House}
use Rattle.ink_names.specs.declared.asked.Place.{Place}
use Rattle.ink_names.specs.declared.asked.AskError.{AskError}
use Rattle.ink_names.specs.declared.asked.AskError.TheVariants.{JobRefused, HouseRefused, NoSuchInk}
use Rattle.ink_names.proofs.Laws.{inks-by-name, lowest-size, lowest-room}

-- a part as long as the name asked for is as long as the name of the block that was found
sized-part : (page : Slice) (name : List ℕ) → validated page.now ≡ accepted → (n : ℕ) → Lowest page.now name n → {part : Slice}
    → PartOf page (name_start n) (length name) part → PartOf page (name_start n) (name_size page.now n) part
sized-part page name ok n h {part} p = subst (λ (k : ℕ). PartOf page (name_start n) k part) (sym (lowest-size page.now name ok n h)) p

module _ (job house : Slice) (name : List ℕ) where
  module _ {f : Place} (e : found (said f.page) f.block ≡ found_ink job.now house.now name) where
    -- the reply, where the ink is on the page w
    reply : {w : Side} → f.page ≡ w → found (said w) f.block ≡ found_ink job.now house.now name
    reply g = ap (λ (x : Side). found (said x) f.block) (sym g) ∙ e

    pub job-room : f.page ≡ Job → name_start f.block + length name ≤ length job.now
    job-room g =
        let h = inks-by-name.in-job job.now house.now name f.block (sym (reply g)) in
        lowest-room job.now name h.0.job-accepted f.block h.1

    pub job-part : f.page ≡ Job → (part : Slice) → PartOf job (name_start f.block) (length name) part → NamePart job house (found_ink job.now house.now name) part
    job-part g part p =
        let h = inks-by-name.in-job job.now house.now name f.block (sym (reply g)) in
        subst (λ (x : Reply). NamePart job house x part) (reply g) (sized-part job name h.0.job-accepted f.block h.1 p)

    pub house-room : f.page ≡ House → name_start f.block + length name ≤ length house.now
    house-room g =
        let h = inks-by-name.in-house job.now house.now name f.block (sym (reply g)) in
        lowest-room house.now name h.0.house-accepted f.block h.1

    pub house-part : f.page ≡ House → (part : Slice) → PartOf house (name_start f.block) (length name) part
        → NamePart job house (found_ink job.now house.now name) part
    house-part g part p =
        let h = inks-by-name.in-house job.now house.now name f.block (sym (reply g)) in
        subst (λ (x : Reply). NamePart job house x part) (reply g) (sized-part house name h.0.house-accepted f.block h.1 p)

  -- on a refusal
  pub no_part : (k : AskError) → meaning (Err k) ≡ found_ink job.now house.now name → (part : Slice) → PartOf job 0 0 part
      → NamePart job house (found_ink job.now house.now name) part
  no_part (JobRefused x) e part p = subst (λ (y : Reply). NamePart job house y part) e p
  no_part (HouseRefused x) e part p = subst (λ (y : Reply). NamePart job house y part) e p
  no_part NoSuchInk e part p = subst (λ (y : Reply). NamePart job house y part) e p
