-- The laws of inks by name, and what a caller of `find` knows of the block that it names.
use mathlib.Core.Path.{◌≡◌, refl, sym, ◌∙◌}
use mathlib.Core.Logic.{⊎_elim}
use mathlib.Core.Bool.{true≢false}
use mathlib.Core.List.{List}
use Prim.Native.Nat.{ℕ, ◌+◌, ◌≤◌, ◌<◌}
use native.Mathlib.Omega.{arith}
use lib.ListN.{length}
use Rattle.std.specs.Prelude.{Option, Some, None}
use Rattle.fixed.specs.Bytes.{blocks}
use Rattle.page.specs.Outcomes.{accepted, refused}
use Rattle.page.specs.Validation.{validated}
use Rattle.page.proofs.Accepted.{below-most}
use Rattle.ink_names.specs.Replies.{Page, jobs, houses, neither, Reply, found, refusal, block_in}
use Rattle.ink_names.specs.Names.{name_start, name_size}
use Rattle.ink_names.specs.Search.{lowest, found_ink}
use Rattle.ink_names.specs.Laws.{IsInk, None as NoInk, Lowest, Accepted, InksByName}
use Rattle.ink_names.proofs.Refused.{refused-below}
use Rattle.ink_names.proofs.Named.{test-is, is-test, ink-size, ink-short, ink-room, ink-there}
use Rattle.ink_names.proofs.Found.{lowest-at, lowest-none, past-accepted, at-refused, either-jobs, either-houses, either-neither, found-both, refused-ways, on_both}

-- two pages are told apart
apart : {C : Type 0} → (p q : Page) → p ≡ q → (p ≡ q → ◌≡◌ {A = ℕ} 0 1) → C
apart p q e h = absurd (let z = h e in omega arith)

module _ (page name : List ℕ) where
  -- what the search found, and what it tells where it found nothing
  lowest-is : validated page ≡ accepted → (n : ℕ) → lowest page name ≡ Some n → Lowest page name n
  lowest-is ok n e =
      let r = lowest-at page name n e in
      let i = test-is page name n r.0 r.1 in
      record {
        ink = i;
        none_below = λ m l j. true≢false (sym (is-test page name m j) ∙ r.2 m l);
        stands = ink-there page ok n r.0 name i;
      }

  none_is : lowest page name ≡ None → NoInk page name
  none_is e n i = true≢false (sym (is-test page name n i) ∙ lowest-none page name e n i.on-page)

  -- a page that has the name has a lowest block of it, and one that has it not has none
  some_at : (m : ℕ) → IsInk page name m → (n : ℕ) × (lowest page name ≡ Some n)
  some_at m i = by_place (lowest page name) refl
    where
      by_place : (p : Option ℕ) → lowest page name ≡ p → (n : ℕ) × (lowest page name ≡ Some n)
      by_place (Some n) e = (n, e)
      by_place None e = absurd (none_is e m i)

  none-nowhere : NoInk page name → lowest page name ≡ None
  none-nowhere h = by_place (lowest page name) refl
    where
      by_place : (p : Option ℕ) → lowest page name ≡ p → lowest page name ≡ None
      by_place (Some n) e = let r = lowest-at page name n e in absurd (h n (test-is page name n r.0 r.1))
      by_place None e = e

module _ (job house name : List ℕ) where
  in-job-at : (n : ℕ) → found_ink job house name ≡ found jobs n → Accepted job house × Lowest job name n
  in-job-at n e =
      let f = found-both job house name jobs n e in
      (f.0, lowest-is job name f.0.job-accepted n (either-jobs _ _ n f.1))

  in-house-at : (n : ℕ) → found_ink job house name ≡ found houses n → Accepted job house × Lowest house name n × NoInk job name
  in-house-at n e =
      let f = found-both job house name houses n e in
      let h = either-houses _ _ n f.1 in
      (f.0, lowest-is house name f.0.house-accepted n h.1, none_is job name h.0)

  of-job-at : (number block : ℕ) → found_ink job house name ≡ refusal number jobs block → validated job ≡ refused number block
  of-job-at number block e =
      ⊎_elim (λ r. r.1) (⊎_elim (λ r. apart jobs houses r.0 (λ z. cc)) (λ r. apart jobs neither r.0 (λ z. cc)))
      (refused-ways job house name number jobs block e)

  of-house-at : (number block : ℕ) → found_ink job house name ≡ refusal number houses block
      → (validated job ≡ accepted) × (validated house ≡ refused number block)
  of-house-at number block e =
      ⊎_elim (λ r. apart houses jobs r.0 (λ z. cc)) (⊎_elim (λ r. (r.1, r.2)) (λ r. apart houses neither r.0 (λ z. cc)))
      (refused-ways job house name number houses block e)

  of-neither-at : (number block : ℕ) → found_ink job house name ≡ refusal number neither block
      → (number ≡ 8) × (block ≡ 0) × Accepted job house × NoInk job name × NoInk house name
  of-neither-at number block e =
      ⊎_elim (λ r. apart neither jobs r.0 (λ z. cc)) (⊎_elim (λ r. apart neither houses r.0 (λ z. cc)) (λ r.
      (r.1, r.2, r.3, none_is job name r.4, none_is house name r.5)))
      (refused-ways job house name number neither block e)

  job-refused-is : (number block : ℕ) → validated job ≡ refused number block → found_ink job house name ≡ refusal number jobs block
  unfolding found_ink
  job-refused-is number block e = sym (at-refused jobs _ _ (sym e))

  house-refused-is : (number block : ℕ) → validated job ≡ accepted → validated house ≡ refused number block
      → found_ink job house name ≡ refusal number houses block
  unfolding found_ink
  house-refused-is number block a e = sym (past-accepted jobs _ _ (sym a) (at-refused houses _ _ (sym e)))

  module _ (a : Accepted job house) where
    job-first-at : (m : ℕ) → IsInk job name m → (n : ℕ) × (found_ink job house name ≡ found jobs n)
    job-first-at m i = let s = some_at job name m i in (s.0, on_both job house name a ∙ rw s.1)

    else-house-at : (m : ℕ) → NoInk job name → IsInk house name m → (n : ℕ) × (found_ink job house name ≡ found houses n)
    else-house-at m h i = let s = some_at house name m i in (s.0, on_both job house name a ∙ rw (none-nowhere job name h, s.1))

    else-eight-is : NoInk job name → NoInk house name → found_ink job house name ≡ refusal 8 neither 0
    else-eight-is j h = on_both job house name a ∙ rw (none-nowhere job name j, none-nowhere house name h)

pub inks-by-name : InksByName
inks-by-name =
    record {
      in-job = in-job-at;
      in-house = in-house-at;
      in-neither = λ job house name n e. either-neither (lowest job name) (lowest house name) n (found-both job house name neither n e).1;
      of-job = of-job-at;
      of-house = of-house-at;
      of-neither = of-neither-at;
      job-refused = job-refused-is;
      house-refused = house-refused-is;
      job-first = λ job house name m a. job-first-at job house name a m;
      else-house = λ job house name m a. else-house-at job house name a m;
      else-eight = else-eight-is;
    }

-- ---- for callers: the place of a name that was found, and block numbers

module _ (page name : List ℕ) (ok : validated page ≡ accepted) (n : ℕ) (h : Lowest page name n) where
  pub lowest-size : name_size page n ≡ length name
  lowest-size = ink-size page ok n h.ink.on-page name h.ink

  pub lowest-room : name_start n + length name ≤ length page
  lowest-room = ink-room page ok n h.ink.on-page name h.ink

  -- a block number, and a length that a name has
  lowest-small : (n < blocks) × (length name ≤ 127)
  lowest-small = (below-most page ok n h.ink.on-page, ink-short page ok n h.ink.on-page name h.ink)

module _ (job house name : List ℕ) where
  found-small : (p : Page) (n : ℕ) → found_ink job house name ≡ found p n → (n < blocks) × (length name ≤ 127)
  found-small jobs n e = let f = in-job-at job house name n e in lowest-small job name f.0.job-accepted n f.1
  found-small houses n e = let f = in-house-at job house name n e in lowest-small house name f.0.house-accepted n f.1
  found-small neither n e = absurd (inks-by-name.in-neither job house name n e)

  -- a name that is found has at most 127 bytes
  pub found-short : (p : Page) (n : ℕ) → found_ink job house name ≡ found p n → length name ≤ 127
  found-short p n e = (found-small p n e).1

  -- every reply names a block number
  pub block-below : block_in (found_ink job house name) < blocks
  block-below = by-reply (found_ink job house name) refl
    where
      by-reply : (r : Reply) → found_ink job house name ≡ r → block_in r < blocks
      by-reply (found p n) e = (found-small p n e).0
      by-reply (refusal number p block) e =
          ⊎_elim (λ r. refused-below number block job r.1) (⊎_elim (λ r. refused-below number block house r.2) (λ r. omega (arith, r.2)))
          (refused-ways job house name number p block e)
