-- The text of a listing from its parts: the columns of a line, the lines of the blocks, and the listing that is promised.
use mathlib.Core.Path.{◌≡◌, sym, ap, ◌∙◌}
use mathlib.Core.Bool.{Bool, true, false}
use mathlib.Core.List.{List, [], ◌∷◌, ◌++◌, append_assoc}
use Prim.Native.Nat.{ℕ, ◌+◌, ◌*◌, ◌≤◌}
use native.Mathlib.Numerals.{add-one}
use native.Mathlib.Omega.{arith}
use borrow.Author.Tests.{ne_eqb}
use lib.ListN.{length}
use Rattle.space.specs.Numbers.{kind_numbered}
use Rattle.space.specs.Spaces.{Space, count_of, words_of}
use Rattle.space.specs.Pages.{space_at}
use Rattle.page.specs.Outcomes.{Outcome}
use Rattle.page.specs.Validation.{validated}
use Rattle.digits.specs.Texts.{text, over}
use Rattle.digits.specs.Digits.{digits}
use Rattle.lines.specs.Listing.{is_space, family_of, line_of, line_at, lines_of, listing_by, listing, longest}
use Rattle.digits.specs.Puts.{Put}
use Rattle.digits.proofs.Putting.{then, same, wider, sets_over}

-- what is no other family is Separation
pub last-family : (k : ℕ) → (k ≡ 1 → ⊥) → (k ≡ 2 → ⊥) → (k ≡ 3 → ⊥) → (k ≡ 4 → ⊥) → (k ≡ 8 → ⊥) → family_of k ≡ text "Separation"
unfolding family_of
last-family k a b c d e = rw (ne_eqb k 1 a, ne_eqb k 2 b, ne_eqb k 3 c, ne_eqb k 4 d, ne_eqb k 8 e)

-- a line is its columns
pub columns : {at a b c r : ℕ} {d e f g h : List ℕ} (i k m w kind : ℕ) (s : Space) → k ≡ kind → m ≡ count_of s → w ≡ words_of s
    → Put 11 d at (digits i ++ (32 ∷ [])) e a → Put 11 e a (family_of k ++ text " ") f b → Put 11 f b (digits m ++ (32 ∷ [])) g c → Put 11 g c (digits w ++ (10 ∷ [])) h r
    → Put 44 d at (line_of i kind s) h r
unfolding line_of
columns i k m w kind s x y z p q t u = rw (← x, ← y, ← z) (same (simp append_assoc) (then (then (then p q) t) u))

-- what a block adds, by the test of its kind
module _ (page : List ℕ) (i : ℕ) {k : ℕ} {t : Bool} (e : k ≡ kind_numbered page i) (f : t ≡ is_space k) where
  is-kind : is_space (kind_numbered page i) ≡ t
  is-kind = sym (f ∙ ap is_space e)

  pub space-line : t ≡ true → line_of i (kind_numbered page i) (space_at page i) ≡ line_at page i
  unfolding line_at
  space-line h = rw (is-kind, h)

  pub no_line : t ≡ false → [] ≡ line_at page i
  unfolding line_at
  no_line h = rw (is-kind, h)

-- the line of one block more
pub next-line : {at r s : ℕ} {d e f : List ℕ} (page : List ℕ) (i : ℕ) → Put (44 * i) d at (lines_of page i) e r → Put 44 e r (line_at page i) f s
    → Put (44 * (i + 1)) d at (lines_of page (i + 1)) f s
unfolding lines_of
next-line page i p q = wider (44 * (i + 1)) (omega arith) (same (sym (ap (lines_of page) (add-one i))) (then p q))

-- what is promised of the whole
pub listed : {r : ℕ} {d e : List ℕ} (page : List ℕ) (o : Outcome) → o ≡ validated page → Put longest d 0 (listing_by o page) e r
    → (r ≡ length (listing page)) × ((e ≡ over (listing page) d) × (r ≤ longest))
unfolding listing
listed {d = d} page o h p = let q = rw h at p in (omega arith, (q.stored ∙ sets_over _ d, omega arith))
