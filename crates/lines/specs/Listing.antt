-- FORMAT.md, The listing: the count of blocks, then number, family, component count and recipe words of each space; a refused page has one line, as
-- `refused 2 block 0`. A space between two columns, and a newline after every line.
use Rattle.std.specs.Prelude.{ℕ, zero, suc, ◌+◌, ◌*◌, ◌/◌, Bool, cond, List, [], ◌++◌, eqb, length}
use Rattle.fixed.specs.Bytes.{blocks}
use Rattle.space.specs.Numbers.{space_kind, kind_numbered}
use Rattle.space.specs.Spaces.{Space, count_of, words_of}
use Rattle.space.specs.Pages.{space_at}
use Rattle.page.specs.Outcomes.{Outcome, accepted, refused}
use Rattle.page.specs.Validation.{validated}
use Rattle.digits.specs.Texts.{text}
use Rattle.digits.specs.Digits.{digits}

-- kinds 1 to 5 and 8 are spaces; 0 is a free block, 6 a palette's and 7 a program's
unfoldable pub is_space : ℕ → Bool
is_space kind = space_kind kind

-- the family of a space, by its kind
unfoldable pub family_of : ℕ → List ℕ
family_of kind =
    cond (eqb kind 1) (text "CalGray")
    (cond (eqb kind 2) (text "CalRGB")
    (cond (eqb kind 3) (text "Lab")
    (cond (eqb kind 4) (text "Indexed")
    (cond (eqb kind 8) (text "DeviceN")
    (text "Separation")))))

-- the line of block i, of this kind and with this space: number, family, components and recipe words
unfoldable pub line_of : ℕ → ℕ → Space → List ℕ
line_of i kind s = digits i ++ text " " ++ family_of kind ++ text " " ++ digits (count_of s) ++ text " " ++ digits (words_of s) ++ text "\n"

-- what block i adds: its line where it is a space, and else nothing
unfoldable pub line_at : List ℕ → ℕ → List ℕ
line_at page i = cond (is_space (kind_numbered page i)) (line_of i (kind_numbered page i) (space_at page i)) []

-- the lines of the first n blocks, in their order
unfoldable pub lines_of : List ℕ → ℕ → List ℕ
lines_of page zero = []
lines_of page (suc n) = lines_of page n ++ line_at page n

-- a page that is accepted: how many blocks it has, and their lines
unfoldable pub accepted_text : List ℕ → List ℕ
accepted_text page = text "blocks " ++ digits (length page / 512) ++ text "\n" ++ lines_of page (length page / 512)

-- a page that is refused
unfoldable pub refused_text : ℕ → ℕ → List ℕ
refused_text number block = text "refused " ++ digits number ++ text " block " ++ digits block ++ text "\n"

abbrev pub listing_by : Outcome → List ℕ → List ℕ
listing_by accepted page = accepted_text page
listing_by (refused number block) page = refused_text number block

-- the listing of a page, whatever its bytes
unfoldable pub listing : List ℕ → List ℕ
listing page = listing_by (validated page) page

-- no listing is longer: 18 bytes for the count, being a word of seven, a number of at most ten digits and a newline; and 44 for the line of a block, being three
-- numbers of at most ten digits, a family's name of at most ten letters, and a byte after each
abbrev pub longest : ℕ
longest = 18 + 44 * blocks
