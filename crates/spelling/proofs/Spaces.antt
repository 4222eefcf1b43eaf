-- Any space, with whatever is inside it, and several one after the other.
use mathlib.Core.Path.{◌≡◌, refl, sym, ◌∙◌}
use mathlib.Core.Bool.{true, true≢false}
use mathlib.Core.List.{List, [], ◌∷◌, ◌++◌, foldl, append-nil}
use Prim.Native.Nat.{ℕ, suc, ◌+◌, ◌*◌, ◌≤◌}
use native.Mathlib.Omega.{arith}
use native.Mathlib.Nat.{mul-le-mul}
use borrow.Author.Tests.{ne_eqb, le-leb}
use lib.IntN.{ℤ}
use lib.ListN.{length}
use Rattle.fixed.specs.Bytes.{blocks}
use Rattle.fixed.proofs.Decide.{both}
use Rattle.record.specs.Layout.{block_of}
use Rattle.record.specs.declared.types.Triple.{Triple}
use Rattle.lexical.specs.Numbers.{none}
use Rattle.lexer.specs.Scans.{Word, Progress, going, takes}
use Rattle.lexer.specs.declared.types.Mode.TheVariants.{Gap}
use Rattle.lexical.specs.declared.types.Number.{Number}
use Rattle.lexer.specs.declared.types.Token.TheVariants.{NameToken}
use Rattle.objects.specs.Objects.{Object, name, closes, each, writable}
use Rattle.objects.proofs.Steps.{scan}
use Rattle.objects.proofs.Written.{read_scan, AllWritable, no_more, ◌&◌}
use Rattle.reader.specs.declared.types.Want.TheVariants.{Top, Space as Inside}
use Rattle.reader.specs.declared.types.Entry.{Entry}
use Rattle.reader.specs.declared.types.Inner.{Inner}
use Rattle.lexical.specs.Names.{same}
use Rattle.keys.specs.Names.{device_named}
use Rattle.reader.specs.Spaces.{Parser, Frame, Made, with, name_of}
use Rattle.reader.specs.Tokens.{took, took_by, sort_of, took_space, resumes, resumed, outside}
use Rattle.reader.specs.Tokens as tokens
use Rattle.spelling.specs.Names.{the_white_point, the_black_point, the_gamma, the_matrix, the_range, the_c0, the_c1}
use Rattle.spelling.specs.Spaces.{Device, device_gray, device_rgb, device_cmyk, Space, device, cal_gray, cal_rgb, lab, indexed, separation, device_name, three, four, nine, numbers, entry, components_of, blocks_of, code_of, records_of, all_records, all_blocks, objects, all_objects, AllSmall, Fitting, AllFitting, is_array}
use Rattle.spelling.proofs.Onward.{stands, step, taking, told}
use Rattle.spelling.proofs.Arrays.{Level, outer, within, want_at, kind_at, frames_of, made, SpaceRead, read-so}
use Rattle.spelling.proofs.Plain.{gray-read, rgb-read, lab-read}
use Rattle.spelling.proofs.Nested.{page-more, components}
use Rattle.spelling.proofs.Indexed.{indexed-read}
use Rattle.spelling.proofs.Inks.{ink-read}

-- ---- a device space, inside another

module _ (room : ℕ) (e : Entry) (v : List ℤ) (i : Inner) (n : ℕ) (page opened : List ℕ) (w : Word) (k f : ℕ) (fr : Frame) (fs : List Frame) where
  device-took : (d : Device) → took room (with Inside (resumed fr.name) e v i (fr ∷ fs) (made n page opened)) (read_scan (name (device_name d)) w k) NameToken
      ≡ takes (with (resumes fr.name) (resumed fr.name) e v (record { count = components_of (device d); code = code_of n (device d); hival = i.hival }) (fr ∷ fs) (made n page opened))
  unfolding took took_by took_space sort_of device_named same tokens.device name_of
  device-took device_gray = refl
  device-took device_rgb = refl
  device-took device_cmyk = refl

  inside-still : outside (suc (length fs)) (resumes fr.name) ≡ resumes fr.name
  unfolding outside
  inside-still = rw (ne_eqb (suc (length fs)) 0 (λ q. omega arith))

  device-read : (d : Device) → SpaceRead room (within fr fs) (device d) (with Inside (resumed fr.name) e v i (fr ∷ fs) (made n page opened)) w k f
  unfolding name_of
  device-read d =
      let same_count : n ≡ n + 0 = omega arith in
      let i₀ : Inner = record { count = components_of (device d); code = code_of n (device d); hival = i.hival } in
      read-so
      (told (taking room _ _ w k f (name (device_name d)) (device-took d))
      (λ j. with (sym inside-still j) (resumed fr.name) e v i₀ (fr ∷ fs) (made n page opened)))
      same_count (sym (append-nil page))

-- ---- any space

-- a device space stands inside another
abbrev Placed : Space → Level → Type 0
Placed t (outer kind) = is_array t ≡ true
Placed t (within fr fs) = Unit

pub space-read : (t : Space) → Fitting t → (room : ℕ) (x : Level) → Placed t x → (e : Entry) (v : List ℤ) (i : Inner) (n : ℕ) (page opened : List ℕ) (w : Word) (k f : ℕ)
    → length (frames_of x) + blocks_of t ≤ blocks → n + blocks_of t ≤ blocks → 512 * (n + blocks_of t) ≤ room
    → SpaceRead room x t (with (want_at x) (kind_at x) e v i (frames_of x) (made n page opened)) w k f
space-read (device d) ok room (outer kind) placed e v i n page opened w k f deep few holds = absurd (true≢false (sym placed))
space-read (device d) ok room (within fr fs) placed e v i n page opened w k f deep few holds = device-read room e v i n page opened w k f fr fs d
space-read (cal_gray g) ok room x placed e v i n page opened w k f deep few holds = gray-read room x e v i n page opened w k f (omega arith) few holds g ok
space-read (cal_rgb g) ok room x placed e v i n page opened w k f deep few holds = rgb-read room x e v i n page opened w k f (omega arith) few holds g ok
space-read (lab g) ok room x placed e v i n page opened w k f deep few holds = lab-read room x e v i n page opened w k f (omega arith) few holds g ok
space-read (indexed base hival palette) ok room x placed e v i n page opened w k f deep few holds =
    indexed-read room x e v i n page opened w k f (omega arith) base hival palette ok.1 few holds
    (λ w' k' f'.
    space-read base ok.0 room (within (record { start = k; name = [] }) (frames_of x)) tt e v i n page opened w' k' f' (omega arith) (omega arith) (omega arith))
space-read (separation ink alternate ex c₀ c₁) ok room x placed e v i n page opened w k f deep few holds =
    ink-read room x e v i n page opened w k f (omega arith) ink alternate ex c₀ c₁ ok.1 few holds
    (λ w' k' f'.
    space-read alternate ok.0 room (within (record { start = k; name = ink }) (frames_of x)) tt e v i n page opened w' k' f' (omega arith) (omega arith) (omega arith))

-- ---- several, at the outermost level

pub record Came (p : Progress Parser) (next : ℕ) (page : List ℕ) : Type 0 where
  pub number : Number
  pub last : Word
  pub seen : ℕ
  pub first : ℕ
  pub kind : ℕ
  pub entry : Entry
  pub values : List ℤ
  pub inner : Inner
  pub opened : List ℕ
  pub is : p ≡ going (scan Gap number last seen first) (with Top kind entry values inner [] (made next page opened))

came-so : {p q : Progress Parser} {next next' : ℕ} {page page' : List ℕ} → p ≡ q → next ≡ next' → page ≡ page' → Came q next page → Came p next' page'
came-so a b c y =
    record {
      number = y.number;
      last = y.last;
      seen = y.seen;
      first = y.first;
      kind = y.kind;
      entry = y.entry;
      values = y.values;
      inner = y.inner;
      opened = y.opened;
      is = a ∙ y.is ∙ (λ j. going (scan Gap y.number y.last y.seen y.first) (with Top y.kind y.entry y.values y.inner [] (made (b j) (c j) y.opened)));
    }

-- a number that was read before is no matter to a space
number-gone : (t : Space) (rest : List Object) (room : ℕ) (n : Number) (w : Word) (k f : ℕ) (a : Parser)
    → foldl (step room) (going (scan Gap n w k f) a) (objects t rest) ≡ foldl (step room) (stands a w k f) (objects t rest)
number-gone (device d) rest room n w k f a = refl
number-gone (cal_gray g) rest room n w k f a = refl
number-gone (cal_rgb g) rest room n w k f a = refl
number-gone (lab g) rest room n w k f a = refl
number-gone (indexed base hival palette) rest room n w k f a = refl
number-gone (separation ink alternate ex c₀ c₁) rest room n w k f a = refl

-- one, and then others from where it leads to
module _ (room kind : ℕ) (e : Entry) (v : List ℤ) (i : Inner) (n : ℕ) (page opened : List ℕ) (z : Number) (w : Word) (k f : ℕ) (t : Space) (ts : List Space)
    (y : SpaceRead room (outer kind) t (with Top kind e v i [] (made n page opened)) w k f) where
  abbrev within-it : Inner
  within-it = record { count = components_of t; code = code_of n t; hival = y.hival }

  abbrev so_far : Made
  so_far = made (n + blocks_of t) (page ++ each block_of (records_of n t)) y.opened

  and-others : Came (foldl (step room) (stands (with Top (resumed []) y.entry y.values within-it [] so_far) y.last y.on.seen y.on.first) (all_objects ts))
      (n + blocks_of t + all_blocks ts) ((page ++ each block_of (records_of n t)) ++ each block_of (all_records (n + blocks_of t) ts))
      → Came (foldl (step room) (going (scan Gap z w k f) (with Top kind e v i [] (made n page opened))) (all_objects (t ∷ ts))) (n + all_blocks (t ∷ ts))
      (page ++ each block_of (all_records n (t ∷ ts)))
  unfolding outside name_of
  and-others others =
      let next : n + blocks_of t + all_blocks ts ≡ n + (blocks_of t + all_blocks ts) = omega arith in
      came-so
      (number-gone t (all_objects ts) room z w k f (with Top kind e v i [] (made n page opened)) ∙ y.on.is (all_objects ts)) next
      (page-more page (records_of n t) (all_records (n + blocks_of t) ts) refl) others

pub spaces-read : (ts : List Space) → AllFitting ts → (room kind : ℕ) (e : Entry) (v : List ℤ) (i : Inner) (n : ℕ) (page opened : List ℕ) (z : Number) (w : Word) (k f : ℕ)
    → n + all_blocks ts ≤ blocks → 512 * (n + all_blocks ts) ≤ room
    → Came (foldl (step room) (going (scan Gap z w k f) (with Top kind e v i [] (made n page opened))) (all_objects ts)) (n + all_blocks ts) (page ++ each block_of (all_records n ts))
spaces-read [] ok room kind e v i n page opened z w k f few holds =
    let same_count : n ≡ n + 0 = omega arith in
    came-so refl same_count (sym (append-nil page))
    (record { number = z; last = w; seen = k; first = f; kind = kind; entry = e; values = v; inner = i; opened = opened; is = refl })
spaces-read (t ∷ ts) ok room kind e v i n page opened z w k f few holds =
    let y = space-read t ok.1 room (outer kind) ok.0 e v i n page opened w k f (omega arith) (omega arith) (omega arith) in
    and-others room kind e v i n page opened z w k f t ts y
    (spaces-read ts ok.2 room (resumed []) y.entry y.values (record { count = components_of t; code = code_of n t; hival = y.hival }) (n + blocks_of t)
    (page ++ each block_of (records_of n t)) y.opened none y.last y.on.seen y.on.first (omega arith) (omega arith))

-- ---- all that is written can be written

numbers-writable : (zs : List ℤ) (rest : List Object) → AllSmall zs → AllWritable rest → AllWritable (numbers zs rest)
numbers-writable [] rest all more = more
numbers-writable (z ∷ zs) rest all more = all.0 & numbers-writable zs rest all.1 more

entry-writable : (key : List ℕ) (zs : List ℤ) (rest : List Object) → writable (name key) ≡ true → AllSmall zs → AllWritable rest
    → AllWritable (entry key zs rest)
entry-writable key zs rest ok all more = ok & refl & numbers-writable zs (closes ∷ rest) all (refl & more)

device-writable : (d : Device) (rest : List Object) → AllWritable rest → AllWritable (name (device_name d) ∷ rest)
device-writable device_gray rest more = refl & more
device-writable device_rgb rest more = refl & more
device-writable device_cmyk rest more = refl & more

pub palette-short : (m hival : ℕ) → m ≤ 4 → hival ≤ 255 → m * (hival + 1) ≤ 1024
palette-short m hival h l = let q : hival + 1 ≤ 256 = omega arith in mul-le-mul h q

-- the points of the CIE-based families
points-writable : (white black : Triple) (rest : List Object) → AllSmall (three white) → AllSmall (three black) → AllWritable rest
    → AllWritable (entry the_white_point (three white) (entry the_black_point (three black) rest))
points-writable white black rest p q more = entry-writable the_white_point (three white) _ refl p (entry-writable the_black_point (three black) _ refl q more)

pub objects-writable : (t : Space) → Fitting t → (rest : List Object) → AllWritable rest → AllWritable (objects t rest)
objects-writable (device d) ok rest more = device-writable d rest more
objects-writable (cal_gray g) ok rest more =
    refl & refl & refl & points-writable g.white g.black _ ok.0 ok.1 (refl & ok.2 & refl & refl & more)
objects-writable (cal_rgb g) ok rest more =
    refl & refl & refl
    & points-writable g.white g.black _ ok.0 ok.1
    (entry-writable the_gamma (three g.gammas) _ refl ok.2 (entry-writable the_matrix (nine g) _ refl ok.3 (refl & refl & more)))
objects-writable (lab g) ok rest more =
    refl & refl & refl
    & points-writable g.white g.black _ ok.0 ok.1 (entry-writable the_range (four g.range) _ refl ok.2 (refl & refl & more))
objects-writable (indexed base hival palette) ok rest more =
    let fits = ok.1 in
    let high = fits.high in
    let size : length palette ≤ 1024 = rw fits.size (palette-short (components_of base) hival (components base).few high) in
    refl & refl
    & objects-writable base ok.0 _ (le-leb hival 2147 (omega arith) & both fits.bytes (le-leb (length palette) 1024 size) & refl & more)
objects-writable (separation ink alternate n c₀ c₁) ok rest more =
    let fits = ok.1 in
    let few = fits.few in
    let most = fits.most in
    refl & refl & both fits.bytes (le-leb (length ink) 1024 (omega arith))
    & objects-writable alternate ok.0 _
    (refl & refl & refl & refl & refl & refl & refl & refl
    & entry-writable the_c0 c₀ _ refl fits.froms
    (entry-writable the_c1 c₁ _ refl fits.tos (refl & le-leb n 2147 (omega arith) & refl & refl & more)))

pub all-writable : (ts : List Space) → AllFitting ts → AllWritable (all_objects ts)
all-writable [] ok = no_more
all-writable (t ∷ ts) ok = objects-writable t ok.1 (all_objects ts) (all-writable ts ok.2)
