-- FORMAT.md, Programs and Program runs: what a calculator text is refused with, the words of its program, and where it lies on a page.
use Rattle.std.specs.Prelude.{ℕ, zero, suc, ◌+◌, ◌-◌, ◌*◌, ◌/◌, ◌%◌, Bool, true, false, cond, not, ◌&&◌, List, [], ◌∷◌, ◌++◌, ℤ, eqb, leb, length, get_or}
use Rattle.std.proofs.lemmas.List.Edits.{sets}
use Rattle.fixed.specs.Bytes.{block_at}
use Rattle.record.specs.Layout.{room}
use Rattle.record.specs.Reading.{body_at, palette_at}
use Rattle.record.specs.Rules.{is_program}
use Rattle.stack.specs.Programs.{Code, done}
use Rattle.stack.specs.Flat.{flat}
use Rattle.program.specs.Texts.{Read, program, unread, read_of}
use Rattle.form.specs.Steps.{fitting}

-- the refusal of a text whose program is to take t values and leave m numbers: 16, then 17; 0 where it is accepted
abbrev pub refusal_by : ℕ → ℕ → Read → ℕ
refusal_by t m (program c) = cond (fitting t m c) 0 17
refusal_by t m unread = 16

-- and so of its bytes
unfoldable pub refusal_of : ℕ → ℕ → List ℕ → ℕ
refusal_of t m l = refusal_by t m (read_of l)

-- the program of a text; where it has none, the one that leaves all as it is
abbrev pub code_in : Read → Code
code_in (program c) = c
code_in unread = done

-- the words of a text's program, none where it has none
abbrev pub words_by : Read → List ℤ
words_by (program c) = flat c
words_by unread = []

-- words put from a place on, where there is room for them all
unfoldable pub put_at : List ℤ → ℕ → List ℤ → List ℤ
put_at out at ws = cond (leb (at + length ws) (length out)) (sets out at ws) out

-- ---- a text on a page

-- the most blocks that a text lies in
abbrev pub most_blocks : ℕ
most_blocks = 4

-- how many of the blocks from i on, k of them at most, are blocks of a program's text, one straight after the other
unfoldable pub programs_from : List ℕ → ℕ → ℕ → ℕ
programs_from page i zero = 0
programs_from page i (suc k) = cond (is_program (body_at (block_at page i))) (1 + programs_from page (i + 1) k) 0

-- the run of a program: how many such blocks stand straight after block n, four at most
abbrev pub program_run : List ℕ → ℕ → ℕ
program_run page n = programs_from page (n + 1) most_blocks

-- byte j of the text after block n, in the bodies of the blocks straight after it
unfoldable pub text_byte : List ℕ → ℕ → ℕ → ℕ
text_byte page n j = palette_at (block_at page (n + 1 + j / room)) (j % room)

-- its first bytes
unfoldable pub text_of : List ℕ → ℕ → ℕ → List ℕ
text_of page n zero = []
text_of page n (suc k) = text_of page n k ++ (text_byte page n k ∷ [])

-- how many bytes a run of b blocks has, which is four blocks at most
unfoldable pub run_size : ℕ → ℕ
run_size b = room * cond (leb b most_blocks) b most_blocks

-- what stands in the b blocks after block n
unfoldable pub run_text : List ℕ → ℕ → ℕ → List ℕ
run_text page n b = text_of page n (run_size b)

-- the program after block n
unfoldable pub code_after : List ℕ → ℕ → Code
code_after page n = code_in (read_of (run_text page n (program_run page n)))

-- only zeros follow a zero byte; `met`: the byte before was one
unfoldable pub tidy : Bool → List ℕ → Bool
tidy met [] = true
tidy met (b ∷ l) = cond (met && not (eqb b 0)) false (tidy (eqb b 0) l)

-- 7 unless: one to four blocks, the last of which has at least one byte of text, so that the others are full of it, and after the text only zeros
unfoldable pub filled_run : ℕ → List ℕ → Bool
filled_run b l = (leb 1 b && leb b most_blocks) && (not (eqb (get_or l (room * (b - 1)) 0) 0) && tidy false l)
