-- A text that is spelled out reads back as its records: `reads-back : ReadsBack`.
use mathlib.Core.Path.{◌≡◌, refl, sym, ap, ◌∙◌}
use mathlib.Core.List.{List, [], ◌∷◌, ◌++◌, foldl}
use Prim.Native.Nat.{ℕ, zero, suc, ◌+◌, ◌*◌, ◌≤◌}
use native.Mathlib.Omega.{arith}
use borrow.Author.Tests.{le-leb, le-ltb}
use lib.ListN.{length, length-append}
use Rattle.fixed.specs.Bytes.{blocks}
use Rattle.layout.specs.Field.{written as laid_out}
use Rattle.layout.proofs.Fields.{written-length}
use Rattle.record.specs.Layout.{check, head_of, block_of}
use Rattle.record.specs.declared.types.Record.{Record}
use Rattle.block.proofs.Blocks.{head-length}
use Rattle.page.specs.Outcomes.{accepted}
use Rattle.runs.specs.Runs.{run_length}
use Rattle.page.specs.Validation.{validated}
use Rattle.page.proofs.Accepted.{well-sized}
use Rattle.page.proofs.Sizes.{sized-some, sized-most}
use Rattle.lexer.specs.Scans.{Progress, going, bound, after, handed, fed, finished}
use Rattle.lexer.specs.Scans as scans
use Rattle.lexer.specs.declared.types.Mode.TheVariants.{Gap}
use Rattle.objects.specs.Objects.{each}
use Rattle.objects.proofs.Steps.{scan}
use Rattle.objects.proofs.Written.{objects-read, objects-seen}
use Rattle.reader.specs.declared.types.Want.TheVariants.{Top}
use Rattle.reader.specs.Spaces.{Parser, with}
use Rattle.reader.specs.Tokens.{took}
use Rattle.reader.specs.Texts.{page, begun, start, part_of, judged, concluded, settled, text_of}
use Rattle.spelling.specs.Spaces.{Space, device, cal_gray, cal_rgb, lab, indexed, separation, blocks_of, records_of, palettes, all_blocks, all_records, all_objects, AllFitting, spelled, page_of}
use Rattle.spelling.specs.ReadsBack.{Outermost, ReadsBack}
use Rattle.spelling.proofs.Onward.{step}
use Rattle.spelling.proofs.Arrays.{made}
use Rattle.spelling.proofs.Spaces.{spaces-read, all-writable}
use Rattle.spelling.proofs.Lengths.{spelled-long}

-- ---- how long a page is

block-length : (r : Record) → length (block_of r) ≡ 512
unfolding block_of
block-length r =
    let n : length (laid_out (check (head_of r))) ≡ 4 = written-length (check (head_of r)) in
    omega (arith, length-append (head_of r) (laid_out (check (head_of r))), head-length r)

blocks-length : (rs : List Record) → length (each block_of rs) ≡ 512 * length rs
blocks-length [] = refl
blocks-length (r ∷ rs) = omega (arith, length-append (block_of r) (each block_of rs), block-length r, blocks-length rs)

run-length : (k own : ℕ) (p : List ℕ) → length (palettes own k p) ≡ k
run-length zero own p = refl
run-length (suc k) own p = ap suc (run-length k (own + 1) _)

records-length : (t : Space) (n : ℕ) → length (records_of n t) ≡ blocks_of t
records-length (device d) n = refl
records-length (cal_gray g) n = refl
records-length (cal_rgb g) n = refl
records-length (lab g) n = refl
records-length (indexed base hival palette) n =
    let run = run-length (run_length (length palette)) (n + blocks_of base + 1) palette in
    length-append (records_of n base) _ ∙ (λ j. records-length base n j + suc (run j)) ∙ omega arith
records-length (separation ink alternate ex c₀ c₁) n = length-append (records_of n alternate) _ ∙ ap (λ (l : ℕ). l + 1) (records-length alternate n)

all-length : (ts : List Space) (n : ℕ) → length (all_records n ts) ≡ all_blocks ts
all-length [] n = refl
all-length (t ∷ ts) n = length-append (records_of n t) _ ∙ (λ j. records-length t n j + all-length ts (n + blocks_of t) j)

pub page-length : (ts : List Space) → length (page_of ts) ≡ 512 * all_blocks ts
unfolding page_of
page-length ts = blocks-length (all_records 0 ts) ∙ ap (λ (l : ℕ). 512 * l) (all-length ts 0)

-- ---- after any text that left no space open

module _ (ts : List Space) (room seen next : ℕ) (bytes : List ℕ) (p : Progress Parser) (o : Outermost p seen next bytes) (fits : AllFitting ts)
    (few : next + all_blocks ts ≤ blocks) (holds : 512 * (next + all_blocks ts) ≤ room) (short : seen + length (spelled ts) ≤ bound) where
  abbrev parser : Parser
  parser = with Top o.kind o.entry o.values o.inner [] (made next bytes o.brackets)

  reached : part_of room p (spelled ts) ≡ foldl (step room) (going (scan Gap o.number o.word seen o.first) parser) (all_objects ts)
  unfolding part_of spelled
  reached =
      ap (λ (q : Progress Parser). fed (took room) q (spelled ts)) o.is
      ∙ objects-read (took room) (all_objects ts) (all-writable ts fits) parser o.number o.word seen o.first short

  appends-so : Outermost (part_of room p (spelled ts)) (seen + length (spelled ts)) (next + all_blocks ts) (bytes ++ each block_of (all_records next ts))
  unfolding spelled
  appends-so =
      let y = spaces-read ts fits room o.kind o.entry o.values o.inner next bytes o.brackets o.number o.word seen o.first few holds in
      let parser' = with Top y.kind y.entry y.values y.inner [] (made (next + all_blocks ts) (bytes ++ each block_of (all_records next ts)) y.opened) in
      let count = objects-seen (took room) (all_objects ts) (going (scan Gap o.number o.word seen o.first) parser) (scan Gap y.number y.last y.seen y.first) parser' y.is in
      record {
        number = y.number;
        word = y.last;
        first = y.first;
        kind = y.kind;
        entry = y.entry;
        values = y.values;
        inner = y.inner;
        brackets = y.opened;
        is = reached ∙ y.is ∙ (λ j. going (scan Gap y.number y.last (sym count j) y.first) parser');
      }

-- ---- and by themselves

-- the end of a text at the outermost level, with a page that is accepted
ends_so : (room seen made : ℕ) (bytes : List ℕ) (p : Progress Parser) (o : Outermost p seen made bytes)
    → 1 ≤ made → 512 * made ≤ room → validated bytes ≡ accepted → settled room p ≡ page bytes
unfolding settled finished handed after concluded judged
ends_so room seen made bytes p o some holds ok = ap (settled room) o.is ∙ rw (le-leb 1 made some, le-ltb room (512 * made) holds, ok)

begins-so : Outermost start 0 0 []
unfolding begun scans.start
begins-so =
    record { number = _; word = _; first = _; kind = _; entry = _; values = _; inner = _; brackets = _; is = refl }

module _ (ts : List Space) (room : ℕ) (fits : AllFitting ts) (ok : validated (page_of ts) ≡ accepted) (holds : length (page_of ts) ≤ room) where
  back-so : text_of room (spelled ts) ≡ page (page_of ts)
  unfolding text_of page_of
  back-so =
      let size = page-length ts in
      let short = spelled-long ts fits in
      let some = sized-some (length (page_of ts)) (well-sized (page_of ts) ok) in
      let most = sized-most (length (page_of ts)) (well-sized (page_of ts) ok) in
      ends_so room _ _ _ _ (appends-so ts room 0 0 [] start begins-so fits (omega arith) (omega arith) (omega arith)) (omega arith) (omega arith) ok

pub reads-back : ReadsBack
reads-back = record { appends = appends-so; back = back-so }
