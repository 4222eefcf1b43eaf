-- FORMAT.md, Inks in C: asking for an ink by its name, as C has it: a reply of 64 bits, and two numbers that say where the name stands.
use Rattle.std.specs.Prelude.{ℕ, ◌+◌, ◌*◌, List, [], ◌∷◌, length}
use Rattle.ink_names.specs.Replies.{Page, jobs, houses, neither, Reply, found, refusal}
use Rattle.ink_names.specs.Names.{name_start}
use Rattle.c_layout.specs.Replies.{in_halves}

-- 0 neither page, 1 the job's page, 2 the house page
abbrev pub page_code : Page → ℕ
page_code neither = 0
page_code jobs = 1
page_code houses = 2

-- a high half that says a page and a block: the block in its low 16 bits, and the page above them
abbrev pub on_page : Page → ℕ → ℕ
on_page p block = page_code p * 65536 + block

-- found: no refusal, with the page and the block; a refusal: its number, with the page and the block that it is about
abbrev pub ink_of : Reply → ℕ
ink_of (found p block) = in_halves 0 (on_page p block)
ink_of (refusal number p block) = in_halves number (on_page p block)

-- the two numbers afterwards: how many bytes stand before the name on its page, and how many it has; on a refusal what they were
abbrev pub place_of : Reply → List ℕ → List ℕ → List ℕ
place_of (found p block) name d = name_start block ∷ length name ∷ []
place_of (refusal number p block) name d = d
