-- Document 01's two examples: the listing of a page that is one CalGray space, and that of a page refused with 2 at block 0.
use mathlib.Core.Path.{◌≡◌}
use mathlib.Core.List.{List}
use Prim.Native.Nat.{ℕ, ◌/◌}
use lib.ListN.{length}
use Rattle.space.specs.Numbers.{kind_numbered}
use Rattle.space.specs.Spaces.{count_of, words_of}
use Rattle.space.specs.Pages.{space_at}
use Rattle.page.specs.Outcomes.{accepted, refused}
use Rattle.page.specs.Validation.{validated}
use Rattle.digits.specs.Texts.{text}
use Rattle.digits.specs.Digits.{digits, digits_in}
use Rattle.lines.specs.Listing.{is_space, family_of, line_of, line_at, lines_of, accepted_text, refused_text, listing}

pub one-gray : (page : List ℕ) → validated page ≡ accepted → length page / 512 ≡ 1 → count_of (space_at page 0) ≡ 1 → words_of (space_at page 0) ≡ 9 → kind_numbered page 0 ≡ 1
    → listing page ≡ text "blocks 1\n0 CalGray 1 9\n"
unfolding listing accepted_text lines_of line_at is_space line_of family_of digits digits_in
one-gray page a n m w k = rw (a, n, m, w, k)

pub one-refused : (page : List ℕ) → validated page ≡ refused 2 0 → listing page ≡ text "refused 2 block 0\n"
unfolding listing refused_text digits digits_in
one-refused page r = rw r
