-- An accepted page: no refusal is due of its length, nor of any of its blocks.
use mathlib.Core.Path.{◌≡◌, refl, sym, subst, ◌∙◌}
use mathlib.Core.Bool.{true, true≢false, ◌&&◌}
use mathlib.Core.List.{List}
use Prim.Native.Nat.{ℕ, ◌+◌, ◌*◌, ◌/◌, ◌≤◌, ◌<◌}
use native.Mathlib.Decide.{dec_lt}
use native.Mathlib.Omega.{arith}
use borrow.Author.Tests.{eqb-true, eq-eqb, leb-true}
use lib.Dec.{eqb}
use lib.ListN.{length, get_or-eq_default}
use lib.Seq.{get_or-drop}
use Rattle.fixed.specs.Bytes.{blocks, block_at, byte_at}
use Rattle.fixed.specs.Loops.{first_from}
use Rattle.fixed.proofs.Decide.{cond_ind, passed, and_left, and_right}
use Rattle.fixed.proofs.Scans.{first-none, first-all}
use Rattle.record.specs.Layout.{checked}
use Rattle.record.specs.Reading.{kind_at, own_at, body_by, body_at, names_at}
use Rattle.record.specs.Rules.{well_laid, well_formed, lawful, lawful_in, supported}
use Rattle.record.specs.declared.types.Body.{Body}
use Rattle.record.specs.declared.types.Body.TheVariants.{Free}
use Rattle.page.specs.Outcomes.{Outcome, accepted, refused, and_then}
use Rattle.runs.specs.Runs.{claimed_at, permitted, program_fault, well_filled}
use Rattle.page.specs.Validation.{well_sized, fault_one, fault_two, fault_claimed, or_else, passes, validated}
use Rattle.page.proofs.Sizes.{sized-whole, sized-most}

-- a refusal is no acceptance
never : (k i : ℕ) → refused k i ≡ accepted → ⊥
never k i e = let z : ◌≡◌ {A = ℕ} 0 1 = cc in omega arith

-- where two passes refuse nothing, neither does
both : (x y : Outcome) → and_then x y ≡ accepted → (x ≡ accepted) × (y ≡ accepted)
both accepted y e = (refl, e)
both (refused k i) y e = absurd (never k i e)

-- block n, whose body is y: its numbers are lawful and supported, its reference permitted, and its program, if it has one, is not refused
pub record Fair (page : List ℕ) (n : ℕ) (y : Body) : Type 0 where
  pub lawful-is : lawful y ≡ true
  pub supported-is : supported y ≡ true
  pub permitted-is : permitted page y ≡ true
  pub program-is : program_fault page n y ≡ 0

free-fair : (page : List ℕ) (n : ℕ) → Fair page n Free
unfolding lawful supported permitted program_fault
free-fair page n = record { lawful-is = refl; supported-is = refl; permitted-is = refl; program-is = refl }

-- where neither a refusal nor what comes after it is due
none-else : (number after : ℕ) → or_else number after ≡ 0 → (number ≡ 0) × (after ≡ 0)
none-else number after =
    cond_ind (λ (k : ℕ). k ≡ 0 → (number ≡ 0) × (after ≡ 0)) (eqb number 0) (λ t e. (eqb-true number 0 t, e)) (λ f e. absurd (true≢false (sym (eq-eqb number 0 e) ∙ f)))

module _ (page : List ℕ) (ok : validated page ≡ accepted) where
  -- 1 is not due, and neither pass finds a fault
  both-pass : (well_sized (length page) ≡ true) × (passes page (length page / 512) ≡ accepted)
  unfolding validated
  both-pass = cond_ind P (well_sized (length page)) (λ t e. (t, e)) (λ _ e. absurd (never _ _ e)) ok
    where
      P : Outcome → Type 0
      P x = x ≡ accepted → (well_sized (length page) ≡ true) × (passes page (length page / 512) ≡ accepted)

  -- its length is 512 x (1..blocks)
  pub well-sized : well_sized (length page) ≡ true
  well-sized = both-pass.0

  first-pass : first_from accepted refused (fault_one page) 0 (length page / 512) ≡ accepted
  first-pass = (both (first_from accepted refused (fault_one page) 0 (length page / 512)) (first_from accepted refused (fault_two page) 0 (length page / 512)) both-pass.1).0

  second-pass : first_from accepted refused (fault_two page) 0 (length page / 512) ≡ accepted
  second-pass = (both (first_from accepted refused (fault_one page) 0 (length page / 512)) (first_from accepted refused (fault_two page) 0 (length page / 512)) both-pass.1).1

  -- no block has a fault of the first pass, nor of the second
  pub none-one : (i : ℕ) → i < length page / 512 → fault_one page i ≡ 0
  none-one = (first-none accepted refused (fault_one page) accepted never (length page / 512) first-pass).1

  pub none-two : (i : ℕ) → i < length page / 512 → fault_two page i ≡ 0
  none-two = (first-none accepted refused (fault_two page) accepted never (length page / 512) second-pass).1

  -- what holds of each block of the page
  module _ (i : ℕ) (l : i < length page / 512) where
    one : (checked (block_at page i) ≡ true) × ((well_formed (block_at page i) && eqb (own_at (block_at page i)) i) ≡ true)
    unfolding fault_one
    one =
        let a = passed (checked (block_at page i)) _ 2 (λ e. omega arith) (none-one i l) in
        (a.0, (passed (well_formed (block_at page i) && eqb (own_at (block_at page i)) i) 0 3 (λ e. omega arith) a.1).0)

    -- 2 and 3 are not due: its check is right, its kind known and its bytes in form, and it has its own number
    pub checked-at : checked (block_at page i) ≡ true
    checked-at = one.0

    pub formed-at : well_formed (block_at page i) ≡ true
    formed-at = and_left _ _ one.1

    pub own-at : own_at (block_at page i) ≡ i
    own-at = eqb-true _ _ (and_right (well_formed (block_at page i)) _ one.1)

    -- its number is one that a block can have
    pub below-most : i < blocks
    below-most = omega (arith, sized-most _ well-sized)

    two : (lawful_in (names_at (block_at page i)) (body_at (block_at page i)) ≡ true) × (supported (body_at (block_at page i)) ≡ true)
        × (permitted page (body_at (block_at page i)) ≡ true) × (program_fault page i (body_at (block_at page i)) ≡ 0)
        × (well_filled page i (claimed_at page i) (body_at (block_at page i)) ≡ true)
    unfolding fault_two fault_claimed
    two =
        let a = passed (lawful_in (names_at (block_at page i)) (body_at (block_at page i))) _ 4 (λ e. omega arith) (none-two i l) in
        let b = passed (supported (body_at (block_at page i))) _ 5 (λ e. omega arith) a.1 in
        let c = passed (permitted page (body_at (block_at page i))) _ 6 (λ e. omega arith) b.1 in
        let p = none-else (program_fault page i (body_at (block_at page i))) _ c.1 in
        let d = passed (well_filled page i (claimed_at page i) (body_at (block_at page i))) _ 7 (λ e. omega arith) p.1 in
        (a.0, b.0, c.0, p.0, d.0)

    -- 4 to 7, 16 and 17 are not due: its numbers are lawful and supported, its reference permitted, its program in order, and what it holds
    pub lawful-in-at : lawful_in (names_at (block_at page i)) (body_at (block_at page i)) ≡ true
    lawful-in-at = two.0

    pub lawful-at : lawful (body_at (block_at page i)) ≡ true
    unfolding lawful_in
    lawful-at = and_left (lawful (body_at (block_at page i))) _ two.0

    pub supported-at : supported (body_at (block_at page i)) ≡ true
    supported-at = two.1

    pub permitted-at : permitted page (body_at (block_at page i)) ≡ true
    permitted-at = two.2

    pub program-at : program_fault page i (body_at (block_at page i)) ≡ 0
    program-at = two.3

    pub held_at : well_filled page i (claimed_at page i) (body_at (block_at page i)) ≡ true
    held_at = two.4

  -- the kind past the last block is 0
  past : (n : ℕ) → length page / 512 ≤ n → kind_at (block_at page n) ≡ 0
  past n l =
      let o : length page ≤ 512 * n + 0 = omega (arith, sized-whole _ well-sized) in
      get_or-drop (512 * n) page 0 0 ∙ get_or-eq_default page 0 o

  -- byte 0 of each block is a known kind, and 0 past the page
  pub kind-known : (n : ℕ) → byte_at (block_at page n) 0 ≤ 8
  unfolding well_formed well_laid
  kind-known n = within (dec_lt n (length page / 512))
    where
      within : Dec (n < length page / 512) → byte_at (block_at page n) 0 ≤ 8
      within (yes w) = leb-true _ 8 (and_left _ _ (and_left (well_laid (block_at page n)) _ (formed-at n w)))
      within (no w) = omega (arith, past n (omega arith))

  -- 4 to 6, 16 and 17 are due of no block, nor of one that the page does not have, which is free
  pub fair-at : (n : ℕ) → Fair page n (body_at (block_at page n))
  unfolding body_by
  fair-at n = within (dec_lt n (length page / 512))
    where
      within : Dec (n < length page / 512) → Fair page n (body_at (block_at page n))
      within (yes w) = record { lawful-is = lawful-at n w; supported-is = supported-at n w; permitted-is = permitted-at n w; program-is = program-at n w }
      within (no w) = subst (λ (k : ℕ). Fair page n (body_by k (block_at page n))) (sym (past n (omega arith))) (free-fair page n)

-- accepted is every page of a right length with no fault in its blocks
pub accepted-where : (page : List ℕ) → well_sized (length page) ≡ true → ((i : ℕ) → i < length page / 512 → fault_one page i ≡ 0)
    → ((i : ℕ) → i < length page / 512 → fault_two page i ≡ 0) → validated page ≡ accepted
unfolding validated
accepted-where page s f g = rw (s, first-all accepted refused (fault_one page) (length page / 512) f) (first-all accepted refused (fault_two page) (length page / 512) g)
