-- FORMAT.md, Refusals and Operations: validating a page. 1; then blocks upward, 2 before 3; then blocks upward again, 4, 5, 6, those of a program, 7. The first
-- found is given.
use Rattle.std.specs.Prelude.{ℕ, ◌/◌, ◌%◌, Bool, ◌&&◌, cond, List, eqb, leb, length}
use Rattle.fixed.specs.Bytes.{blocks, block_at}
use Rattle.fixed.specs.Loops.{unless, first_from}
use Rattle.record.specs.Layout.{checked}
use Rattle.record.specs.Reading.{own_at, body_at, names_at}
use Rattle.record.specs.Rules.{well_formed, lawful_in, supported}
use Rattle.record.specs.declared.types.Body.{Body}
use Rattle.runs.specs.Runs.{permitted, program_fault, claimed_at, well_filled}
use Rattle.page.specs.Outcomes.{Outcome, accepted, refused, and_then}

-- ---- 1: the page's length is not 512 x (1..blocks)

unfoldable pub well_sized : ℕ → Bool
well_sized n = eqb (n % 512) 0 && (leb 1 (n / 512) && leb (n / 512) blocks)

-- ---- the first pass

-- 2: its check differs. 3: unknown kind, a byte not zero that must be, a name that does not fit; a wrong own number
unfoldable pub fault_one : List ℕ → ℕ → ℕ
fault_one page i = unless (checked (block_at page i)) 2 (unless (well_formed (block_at page i) && eqb (own_at (block_at page i)) i) 3 0)

-- ---- the second pass: 4 and 5 are those of a single block; 6 is of its reference, and 7, 16 and 17 are of the blocks after it (`runs` Runs)

-- a refusal, and where it is none what is refused after it
abbrev pub or_else : ℕ → ℕ → ℕ
or_else number after = cond (eqb number 0) after number

-- the second pass on block i, whose body is y, with so many blocks still claimed
unfoldable pub fault_claimed : List ℕ → ℕ → ℕ → Body → ℕ
fault_claimed page i claimed y =
    unless (lawful_in (names_at (block_at page i)) y) 4
    (unless (supported y) 5
    (unless (permitted page y) 6
    (or_else (program_fault page i y)
    (unless (well_filled page i claimed y) 7 0))))

unfoldable pub fault_two : List ℕ → ℕ → ℕ
fault_two page i = fault_claimed page i (claimed_at page i) (body_at (block_at page i))

-- ---- the whole page, of n blocks

abbrev pub passes : List ℕ → ℕ → Outcome
passes page n = and_then (first_from accepted refused (fault_one page) 0 n) (first_from accepted refused (fault_two page) 0 n)

unfoldable pub validated : List ℕ → Outcome
validated page = cond (well_sized (length page)) (passes page (length page / 512)) (refused 1 0)
