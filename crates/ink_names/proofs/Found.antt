-- What the search finds, and what a reply tells of the two pages.
use mathlib.Core.Path.{◌≡◌, refl, ap, ◌∙◌}
use mathlib.Core.Logic.{◌⊎◌, inl, inr, ⊎_elim}
use mathlib.Core.Bool.{Bool, true, false, cond}
use mathlib.Core.List.{List}
use Prim.Native.Nat.{ℕ, ◌/◌, ◌<◌}
use native.Mathlib.Omega.{arith}
use lib.ListN.{length}
use Rattle.std.specs.Prelude.{Option, Some, None}
use Rattle.fixed.proofs.Scans.{first-none}
use Rattle.page.specs.Outcomes.{Outcome, accepted, refused}
use Rattle.page.specs.Validation.{validated}
use Rattle.ink_names.specs.Replies.{Page, jobs, houses, neither, Reply, found, refusal}
use Rattle.ink_names.specs.Names.{ink_at}
use Rattle.ink_names.specs.Search.{lowest, either, on_accepted, found_ink}
use Rattle.ink_names.specs.Laws.{Accepted}
use Rattle.ink_names.proofs.Firsts.{First, first-ways}

-- the number that stands for a block in the search: 0 where it is no ink of that name
abbrev pub mark : List ℕ → List ℕ → ℕ → ℕ
mark page name n = cond (ink_at page name n) 1 0

pub mark-yes : (t : Bool) → t ≡ true → cond {A = ℕ} t 1 0 ≡ 1
mark-yes t e = rw e

pub mark-no : (t : Bool) → t ≡ false → cond {A = ℕ} t 1 0 ≡ 0
mark-no t e = rw e

said-yes : (t : Bool) → (cond {A = ℕ} t 1 0 ≡ 0 → ⊥) → t ≡ true
said-yes true h = refl
said-yes false h = absurd (h refl)

said-no : (t : Bool) → cond {A = ℕ} t 1 0 ≡ 0 → t ≡ false
said-no true e = absurd (omega arith)
said-no false e = refl

module _ (page name : List ℕ) where
  -- the lowest block that was found is an ink, and none below it is
  pub lowest-at : (n : ℕ) → lowest page name ≡ Some n
      → (n < length page / 512) × (ink_at page name n ≡ true) × ((m : ℕ) → m < n → ink_at page name m ≡ false)
  unfolding lowest
  lowest-at n e = ⊎_elim (λ z. absurd (apart z)) by_first (first-ways {A = Option ℕ} None (λ _ k. Some k) (mark page name) 0 (length page / 512) (Some n) e)
    where
      apart : None ≡ Some n → ⊥
      apart z = let w : ◌≡◌ {A = ℕ} 0 1 = cc in omega arith

      by_first : First None (λ _ k. Some k) (mark page name) 0 (length page / 512) (Some n)
          → (n < length page / 512) × (ink_at page name n ≡ true) × ((m : ℕ) → m < n → ink_at page name m ≡ false)
      by_first r =
          let here : r.at ≡ n = cc r.gives in (
            omega (arith, r.below),
            said-yes _ (λ z. r.fault (ap (mark page name) here ∙ z)),
            λ m l. said-no _ (r.clean m (omega arith) (omega arith)),
          )

  -- where none was found, no block is
  pub lowest-none : lowest page name ≡ None → (m : ℕ) → m < length page / 512 → ink_at page name m ≡ false
  unfolding lowest
  lowest-none e m l = said-no _ ((first-none {A = Option ℕ} None (λ _ k. Some k) (mark page name) None (λ _ k z. let w : ◌≡◌ {A = ℕ} 0 1 = cc in omega arith) (length page / 512) e).1 m l)

-- ---- through the validation of a page

pub past-accepted : (p : Page) (o : Outcome) (r : Reply) {s : Reply} → accepted ≡ o → s ≡ r → s ≡ on_accepted p o r
past-accepted p o r e q = q ∙ ap (λ (x : Outcome). on_accepted p x r) e

pub at-refused : (p : Page) (o : Outcome) (r : Reply) {number block : ℕ} → refused number block ≡ o → refusal number p block ≡ on_accepted p o r
at-refused p o r e = ap (λ (x : Outcome). on_accepted p x r) e

module _ (p : Page) (o : Outcome) (r : Reply) where
  found-through : (w : Page) (n : ℕ) → on_accepted p o r ≡ found w n → (o ≡ accepted) × (r ≡ found w n)
  found-through w n = by-outcome o
    where
      by-outcome : (o : Outcome) → on_accepted p o r ≡ found w n → (o ≡ accepted) × (r ≡ found w n)
      by-outcome accepted e = (refl, e)
      by-outcome (refused number block) e = absurd (let z : ◌≡◌ {A = ℕ} 0 1 = cc in omega arith)

  refused-through : (number : ℕ) (w : Page) (block : ℕ) → on_accepted p o r ≡ refusal number w block
      → ((w ≡ p) × (o ≡ refused number block)) ⊎ ((o ≡ accepted) × (r ≡ refusal number w block))
  refused-through number w block = by-outcome o
    where
      by-outcome : (o : Outcome) → on_accepted p o r ≡ refusal number w block
          → ((w ≡ p) × (o ≡ refused number block)) ⊎ ((o ≡ accepted) × (r ≡ refusal number w block))
      by-outcome accepted e = inr (refl, e)
      by-outcome (refused k b) e = let x : k ≡ number = cc in let y : b ≡ block = cc in inl (cc, cc)

-- ---- what a reply tells

-- of the two places
pub at_first : (a b : Option ℕ) (n : ℕ) → Some n ≡ a → found jobs n ≡ either a b
at_first a b n e = ap (λ (x : Option ℕ). either x b) e

pub past_first : (a b : Option ℕ) {s : Reply} → None ≡ a → s ≡ either None b → s ≡ either a b
past_first a b e q = q ∙ ap (λ (x : Option ℕ). either x b) e

pub either-jobs : (a b : Option ℕ) (n : ℕ) → either a b ≡ found jobs n → a ≡ Some n
either-jobs (Some k) b n e = cc
either-jobs None (Some k) n e = absurd (let z : ◌≡◌ {A = ℕ} 0 1 = cc in omega arith)
either-jobs None None n e = absurd (let z : ◌≡◌ {A = ℕ} 0 1 = cc in omega arith)

pub either-houses : (a b : Option ℕ) (n : ℕ) → either a b ≡ found houses n → (a ≡ None) × (b ≡ Some n)
either-houses (Some k) b n e = absurd (let z : ◌≡◌ {A = ℕ} 0 1 = cc in omega arith)
either-houses None (Some k) n e = (refl, cc)
either-houses None None n e = absurd (let z : ◌≡◌ {A = ℕ} 0 1 = cc in omega arith)

pub either-neither : (a b : Option ℕ) (n : ℕ) → either a b ≡ found neither n → ⊥
either-neither (Some k) b n e = let z : ◌≡◌ {A = ℕ} 0 1 = cc in omega arith
either-neither None (Some k) n e = let z : ◌≡◌ {A = ℕ} 0 1 = cc in omega arith
either-neither None None n e = let z : ◌≡◌ {A = ℕ} 0 1 = cc in omega arith

either-refused : (a b : Option ℕ) (number : ℕ) (w : Page) (block : ℕ) → either a b ≡ refusal number w block
    → (a ≡ None) × (b ≡ None) × (number ≡ 8) × (w ≡ neither) × (block ≡ 0)
either-refused (Some k) b number w block e = absurd (let z : ◌≡◌ {A = ℕ} 0 1 = cc in omega arith)
either-refused None (Some k) number w block e = absurd (let z : ◌≡◌ {A = ℕ} 0 1 = cc in omega arith)
either-refused None None number w block e = (refl, refl, cc, cc, cc)

module _ (job house name : List ℕ) where
  -- both pages are accepted, and the search on them found it
  pub found-both : (w : Page) (n : ℕ) → found_ink job house name ≡ found w n → Accepted job house × (either (lowest job name) (lowest house name) ≡ found w n)
  unfolding found_ink
  found-both w n e =
      let j = found-through jobs (validated job) _ w n e in
      let h = found-through houses (validated house) _ w n j.1 in
      (record { job-accepted = j.0; house-accepted = h.0 }, h.1)

  -- a page is refused, or the search found nothing
  pub refused-ways : (number : ℕ) (w : Page) (block : ℕ) → found_ink job house name ≡ refusal number w block
      → ((w ≡ jobs) × (validated job ≡ refused number block))
      ⊎ (((w ≡ houses) × (validated job ≡ accepted) × (validated house ≡ refused number block))
      ⊎ ((w ≡ neither) × (number ≡ 8) × (block ≡ 0) × Accepted job house × (lowest job name ≡ None) × (lowest house name ≡ None)))
  unfolding found_ink
  refused-ways number w block e =
      ⊎_elim inl (λ j.
      ⊎_elim (λ h. inr (inl (h.0, j.0, h.1))) (λ h.
      let n = either-refused _ _ number w block h.1 in
      inr (inr (n.3, n.2, n.4, record { job-accepted = j.0; house-accepted = h.0 }, n.0, n.1)))
      (refused-through houses (validated house) _ number w block j.1))
      (refused-through jobs (validated job) _ number w block e)

  -- where both are accepted, the reply is the search's
  pub on_both : Accepted job house → found_ink job house name ≡ either (lowest job name) (lowest house name)
  unfolding found_ink
  on_both a = rw (a.job-accepted, a.house-accepted)
