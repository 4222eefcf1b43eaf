-- FORMAT.md, Inks by name: the job's page is validated, then the house page; the ink is the lowest block of the job's page that has the name, else of the
-- house page; 8 where neither has it.
use Rattle.std.specs.Prelude.{ℕ, ◌/◌, cond, List, length, Option, Some, None}
use Rattle.fixed.specs.Loops.{first_from}
use Rattle.page.specs.Outcomes.{Outcome, accepted, refused}
use Rattle.page.specs.Validation.{validated}
use Rattle.ink_names.specs.Replies.{Page, jobs, houses, neither, Reply, found, refusal}
use Rattle.ink_names.specs.Names.{ink_at}

-- the lowest block of a page that is an ink of that name
unfoldable pub lowest : List ℕ → List ℕ → Option ℕ
lowest page name = first_from None (λ _ n. Some n) (λ n. cond (ink_at page name n) 1 0) 0 (length page / 512)

-- on two accepted pages: in the job's page, else in the house page, else nowhere, which is 8
abbrev pub either : Option ℕ → Option ℕ → Reply
either (Some n) h = found jobs n
either None (Some n) = found houses n
either None None = refusal 8 neither 0

abbrev pub ink_on : List ℕ → List ℕ → List ℕ → Reply
ink_on job house name = either (lowest job name) (lowest house name)

-- the refusal of a page that is not accepted, or else the reply r
abbrev pub on_accepted : Page → Outcome → Reply → Reply
on_accepted p accepted r = r
on_accepted p (refused number block) r = refusal number p block

-- asking for an ink by its name, whatever the pages and the name
unfoldable pub found_ink : List ℕ → List ℕ → List ℕ → Reply
found_ink job house name = on_accepted jobs (validated job) (on_accepted houses (validated house) (ink_on job house name))
