-- FORMAT.md, Inks by name, in its sentences, as one statement: what asking for an ink by its name finds, and when it is refused.
use Rattle.std.specs.Prelude.{◌≡◌, List, ℕ, ◌/◌, ◌<◌, length, take, drop}
use Rattle.fixed.specs.Bytes.{block_at}
use Rattle.record.specs.Reading.{record_at}
use Rattle.record.specs.declared.types.Separation.{Separation as InkRecord}
use Rattle.record.specs.declared.types.Body.TheVariants.{Separation}
use Rattle.page.specs.Outcomes.{accepted, refused}
use Rattle.page.specs.Validation.{validated}
use Rattle.ink_names.specs.Replies.{jobs, houses, neither, found, refusal}
use Rattle.ink_names.specs.Names.{name_start, name_size}
use Rattle.ink_names.specs.Search.{found_ink}

-- block n of a page is a Separation of that name: as long, and the same bytes
pub record IsInk (page name : List ℕ) (n : ℕ) : Type 0 where
  pub on-page : n < length page / 512
  pub separation : InkRecord
  pub body : (record_at (block_at page n)).body ≡ Separation separation
  pub named : take separation.name_len (record_at (block_at page n)).bytes ≡ name

-- no block of a page is
abbrev pub None : List ℕ → List ℕ → Type 0
None page name = (n : ℕ) → IsInk page name n → ⊥

-- block n is the lowest that is, and what stands at the place of its name is the name
pub record Lowest (page name : List ℕ) (n : ℕ) : Type 0 where
  pub ink : IsInk page name n
  pub none_below : (m : ℕ) → m < n → IsInk page name m → ⊥
  pub stands : take (name_size page n) (drop (name_start n) page) ≡ name

-- the two pages are accepted
pub record Accepted (job house : List ℕ) : Type 0 where
  pub job-accepted : validated job ≡ accepted
  pub house-accepted : validated house ≡ accepted

pub record InksByName : Type 0 where
  -- what is found in the job's page is its lowest block of that name
  pub in-job : (job house name : List ℕ) (n : ℕ) → found_ink job house name ≡ found jobs n → Accepted job house × Lowest job name n
  -- what is found in the house page is its lowest block of that name, and no block of the job's page has it
  pub in-house : (job house name : List ℕ) (n : ℕ) → found_ink job house name ≡ found houses n → Accepted job house × Lowest house name n × None job name
  -- nothing is found in neither
  pub in-neither : (job house name : List ℕ) (n : ℕ) → found_ink job house name ≡ found neither n → ⊥
  -- a refusal of the job's page is that of its validation, and so is one of the house page, the job's being accepted
  pub of-job : (job house name : List ℕ) (number block : ℕ) → found_ink job house name ≡ refusal number jobs block → validated job ≡ refused number block
  pub of-house : (job house name : List ℕ) (number block : ℕ) → found_ink job house name ≡ refusal number houses block
      → (validated job ≡ accepted) × (validated house ≡ refused number block)
  -- a refusal of neither page is 8, with block 0, and neither has the name
  pub of-neither : (job house name : List ℕ) (number block : ℕ) → found_ink job house name ≡ refusal number neither block
      → (number ≡ 8) × (block ≡ 0) × Accepted job house × None job name × None house name
  -- and the other way round: the job's page is validated before the house page, and both before the name is looked for
  pub job-refused : (job house name : List ℕ) (number block : ℕ) → validated job ≡ refused number block → found_ink job house name ≡ refusal number jobs block
  pub house-refused : (job house name : List ℕ) (number block : ℕ) → validated job ≡ accepted → validated house ≡ refused number block
      → found_ink job house name ≡ refusal number houses block
  -- on accepted pages a name that the job's page has is found there, else one that the house page has there, and else it is 8
  pub job-first : (job house name : List ℕ) (m : ℕ) → Accepted job house → IsInk job name m → (n : ℕ) × (found_ink job house name ≡ found jobs n)
  pub else-house : (job house name : List ℕ) (m : ℕ) → Accepted job house → None job name → IsInk house name m
      → (n : ℕ) × (found_ink job house name ≡ found houses n)
  pub else-eight : (job house name : List ℕ) → Accepted job house → None job name → None house name → found_ink job house name ≡ refusal 8 neither 0
