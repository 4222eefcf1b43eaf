-- The level that the code reads is the space at that number, and so is what it takes for the space within. What each level hands on holds of every space on a page.
use mathlib.Core.Path.{◌≡◌, refl, ap, ◌∙◌}
use mathlib.Core.Bool.{Bool, true, false, cond}
use mathlib.Core.List.{List}
use Prim.Native.Nat.{ℕ, ◌≤◌, ◌<◌}
use native.Mathlib.Omega.{arith}
use lib.IntN.{ℤ}
use lib.Dec.{eqb, ltb}
use Rattle.fixed.specs.Values.{widest}
use Rattle.fixed.specs.Bytes.{blocks, gray_code, rgb_code, cmyk_code, block_at}
use Rattle.fixed.proofs.Decide.{cond_ind}
use Rattle.cie.specs.declared.Closing.{Closing}
use Rattle.cie.specs.declared.Closing.TheVariants.{Nothing, Gray, Rgb, Cmyk, EveryInk}
use Rattle.record.specs.Reading.{body_at, names_at, the_none, the_all, ink_is, all_none}
use Rattle.record.specs.declared.types.Ranges.{Ranges}
use Rattle.record.specs.declared.types.Separation.{Separation as Ink}
use Rattle.record.specs.declared.types.Body.{Body}
use Rattle.record.specs.declared.types.Body.TheVariants.{Free, CalGray, CalRgb, Lab, Indexed as IndexedBody, Separation as SeparationBody, Palette, Program as ProgramBody, DeviceN}
use Rattle.stack.specs.Programs.{Code}
use Rattle.form.specs.declared.Tints.{Tints}
use Rattle.form.specs.declared.Tints.TheVariants.{One, Inks}
use Rattle.space.specs.Spaces.{Space, none, gray, rgb, cmyk, cal_gray, cal_rgb, lab, no_mark, every_ink, separation, calculated, indexed, count_of}
use Rattle.space.specs.Pages.{device_of, numbered, plain_of, plain_at, separation_over, calculated_over, ink_of, device_n_of, tinted_of, tinted_at, indexed_over, space_of, space_at}
use Rattle.space.specs.WellMade.{rank_of}
use Rattle.space.specs.Levels.{plain_in, space_in, rank_in, no_ranges, nothing, is_named, ink_level, device_n_level, level_of, device_closing, level_at}
use Rattle.space.specs.declared.nesting.Level.{Level}
use Rattle.space.specs.declared.nesting.Level.TheVariants.{Plain, Blank, Separation, Program, Indexed}

-- ---- What is read

-- what is left of a level that an Indexed refers to, and a Separation
abbrev pub tinted : Level → Level
tinted (Plain c q) = Plain c q
tinted (Blank i) = Blank i
tinted (Separation p) = Separation p
tinted (Program n alternate i) = Program n alternate i
tinted (Indexed n base hival) = nothing

abbrev pub plain : Level → Level
plain (Plain c q) = cond (is_named c) nothing (Plain c q)
plain (Blank i) = nothing
plain (Separation p) = nothing
plain (Program n alternate i) = nothing
plain (Indexed n base hival) = nothing

-- what is no Indexed is tinted, and what is no plain space is not plain
pub tinted_other : (l : Level) → ((n base hival : ℕ) → l ≡ Indexed n base hival → ⊥) → l ≡ tinted l
tinted_other (Plain c q) h = refl
tinted_other (Blank i) h = refl
tinted_other (Separation p) h = refl
tinted_other (Program n alternate i) h = refl
tinted_other (Indexed n base hival) h = absurd (h n base hival refl)

pub plain_other : (l : Level) → ((c : Closing) (q : Ranges) → l ≡ Plain c q → ⊥) → nothing ≡ plain l
plain_other (Plain c q) h = absurd (h c q refl)
plain_other (Blank i) h = refl
plain_other (Separation p) h = refl
plain_other (Program n alternate i) h = refl
plain_other (Indexed n base hival) h = refl

pub rank_most : (l : Level) → rank_in l ≤ 2
rank_most (Plain c q) = omega arith
rank_most (Blank i) = omega arith
rank_most (Separation p) = omega arith
rank_most (Program n alternate i) = omega arith
rank_most (Indexed n base hival) = omega arith

tinted-rank : (l : Level) → rank_in (tinted l) < 2
tinted-rank (Plain c q) = omega arith
tinted-rank (Blank i) = omega arith
tinted-rank (Separation p) = omega arith
tinted-rank (Program n alternate i) = omega arith
tinted-rank (Indexed n base hival) = omega arith

plain-falls : (l : Level) → rank_in (plain l) < 1
plain-falls (Plain c q) = cond_ind (λ (l : Level). rank_in l < 1) (is_named c) (λ _. omega arith) (λ _. omega arith)
plain-falls (Blank i) = omega arith
plain-falls (Separation p) = omega arith
plain-falls (Program n alternate i) = omega arith
plain-falls (Indexed n base hival) = omega arith

-- a device space
by_code : (a b c : Bool) (q : Ranges) → plain_in (cond a Gray (cond b Rgb (cond c Cmyk Nothing))) q ≡ cond a gray (cond b rgb (cond c cmyk none))
by_code true b c q = refl
by_code false true c q = refl
by_code false false true q = refl
by_code false false false q = refl

device-is : (n : ℕ) (q : Ranges) → plain_in (device_closing n) q ≡ device_of n
unfolding device_closing device_of
device-is n q = by_code (eqb n gray_code) (eqb n rgb_code) (eqb n cmyk_code) q

-- which is no Separation's
device-plain : (n : ℕ) (q : Ranges) → plain (Plain (device_closing n) q) ≡ Plain (device_closing n) q
unfolding device_closing
device-plain n q = by_codes (eqb n gray_code) (eqb n rgb_code) (eqb n cmyk_code)
  where
    by_codes : (a b c : Bool) → plain (Plain (cond a Gray (cond b Rgb (cond c Cmyk Nothing))) q) ≡ Plain (cond a Gray (cond b Rgb (cond c Cmyk Nothing))) q
    by_codes true b c = refl
    by_codes false true c = refl
    by_codes false false true = refl
    by_codes false false false = refl

module _ (page : List ℕ) (n : ℕ) where
  -- g is what is taken of a level, and f of a body
  module _ (g : Level → Level) (keeps : g (Plain (device_closing n) no_ranges) ≡ Plain (device_closing n) no_ranges) (f : Body → Space) (same : (y : Body) → space_in page (g (level_of page n y)) ≡ f y) where
    by_size : (t : Bool) → space_in page (g (cond t (level_of page n (body_at (block_at page n))) (Plain (device_closing n) no_ranges))) ≡ cond t (f (body_at (block_at page n))) (device_of n)
    unfolding space_in
    by_size true = same _
    by_size false = rw keeps (device-is n no_ranges)

    level-is : space_in page (g (level_at page n)) ≡ numbered page f n
    unfolding level_at
    level-is = by_size (ltb n blocks)

  -- a Separation by its name: the level is taken, and the space is that of the definition; nothing of it is plain
  module _ (p : Ink) where
    ink-is : space_in page (ink_level page n p) ≡ ink_of page n p
    unfolding space_in ink_level ink_of
    ink-is = by_names (ink_is (block_at page n) the_none) (ink_is (block_at page n) the_all) (eqb p.exponent 0)
      where
        by_names : (a b e : Bool) → space_in page (cond a (Blank One) (cond b (Plain EveryInk no_ranges) (cond e (Program n p.alternate One) (Separation p)))) ≡ cond a (no_mark One) (cond b every_ink (cond e (calculated_over page n One (plain_at page p.alternate)) (separation_over p (plain_at page p.alternate))))
        by_names true b e = refl
        by_names false true e = refl
        by_names false false true = refl
        by_names false false false = refl

    ink-tinted : tinted (ink_level page n p) ≡ ink_level page n p
    unfolding ink_level
    ink-tinted = by_names (ink_is (block_at page n) the_none) (ink_is (block_at page n) the_all) (eqb p.exponent 0)
      where
        by_names : (a b e : Bool) → tinted (cond a (Blank One) (cond b (Plain EveryInk no_ranges) (cond e (Program n p.alternate One) (Separation p)))) ≡ cond a (Blank One) (cond b (Plain EveryInk no_ranges) (cond e (Program n p.alternate One) (Separation p)))
        by_names true b e = refl
        by_names false true e = refl
        by_names false false true = refl
        by_names false false false = refl

    ink-plain : plain (ink_level page n p) ≡ nothing
    unfolding ink_level
    ink-plain = by_names (ink_is (block_at page n) the_none) (ink_is (block_at page n) the_all) (eqb p.exponent 0)
      where
        by_names : (a b e : Bool) → plain (cond a (Blank One) (cond b (Plain EveryInk no_ranges) (cond e (Program n p.alternate One) (Separation p)))) ≡ nothing
        by_names true b e = refl
        by_names false true e = refl
        by_names false false true = refl
        by_names false false false = refl

  -- a DeviceN by its names
  module _ (alternate count : ℕ) where
    device-n-is : space_in page (device_n_level page n alternate count) ≡ device_n_of page n alternate count
    unfolding space_in device_n_level device_n_of
    device-n-is = by-none (all_none (names_at (block_at page n)) count)
      where
        by-none : (a : Bool) → space_in page (cond a (Blank (Inks count)) (Program n alternate (Inks count))) ≡ cond a (no_mark (Inks count)) (calculated_over page n (Inks count) (plain_at page alternate))
        by-none true = refl
        by-none false = refl

    device-n-tinted : tinted (device_n_level page n alternate count) ≡ device_n_level page n alternate count
    unfolding device_n_level
    device-n-tinted = by-none (all_none (names_at (block_at page n)) count)
      where
        by-none : (a : Bool) → tinted (cond a (Blank (Inks count)) (Program n alternate (Inks count))) ≡ cond a (Blank (Inks count)) (Program n alternate (Inks count))
        by-none true = refl
        by-none false = refl

    device-n-plain : plain (device_n_level page n alternate count) ≡ nothing
    unfolding device_n_level
    device-n-plain = by-none (all_none (names_at (block_at page n)) count)
      where
        by-none : (a : Bool) → plain (cond a (Blank (Inks count)) (Program n alternate (Inks count))) ≡ nothing
        by-none true = refl
        by-none false = refl

  same-space : (y : Body) → space_in page (level_of page n y) ≡ space_of page n y
  unfolding space_in level_of space_of tinted_of plain_of
  same-space Free = refl
  same-space (CalGray g) = refl
  same-space (CalRgb g) = refl
  same-space (Lab g) = refl
  same-space (IndexedBody base hival) = refl
  same-space (SeparationBody p) = ink-is p
  same-space Palette = refl
  same-space ProgramBody = refl
  same-space (DeviceN alternate count) = device-n-is alternate count

  same-tinted : (y : Body) → space_in page (tinted (level_of page n y)) ≡ tinted_of page n y
  unfolding space_in level_of tinted_of plain_of
  same-tinted Free = refl
  same-tinted (CalGray g) = refl
  same-tinted (CalRgb g) = refl
  same-tinted (Lab g) = refl
  same-tinted (IndexedBody base hival) = refl
  same-tinted (SeparationBody p) = ap (space_in page) (ink-tinted p) ∙ ink-is p
  same-tinted Palette = refl
  same-tinted ProgramBody = refl
  same-tinted (DeviceN alternate count) = ap (space_in page) (device-n-tinted alternate count) ∙ device-n-is alternate count

  same-plain : (y : Body) → space_in page (plain (level_of page n y)) ≡ plain_of y
  unfolding space_in level_of plain_of
  same-plain Free = refl
  same-plain (CalGray g) = refl
  same-plain (CalRgb g) = refl
  same-plain (Lab g) = refl
  same-plain (IndexedBody base hival) = refl
  same-plain (SeparationBody p) = ap (space_in page) (ink-plain p)
  same-plain Palette = refl
  same-plain ProgramBody = refl
  same-plain (DeviceN alternate count) = ap (space_in page) (device-n-plain alternate count)

  space-is : space_in page (level_at page n) ≡ space_at page n
  space-is = level-is (λ l. l) refl (space_of page n) same-space

  tinted-is : space_in page (tinted (level_at page n)) ≡ tinted_at page n
  tinted-is = level-is tinted refl (tinted_of page n) same-tinted

  plain-is : space_in page (plain (level_at page n)) ≡ plain_at page n
  plain-is = level-is plain (device-plain n no_ranges) plain_of same-plain

-- the same in the code's own terms: l is what it read, and r what it took of that
module _ (page : List ℕ) (n : ℕ) {l : Level} (e : l ≡ level_at page n) where
  pub level-space : space_in page l ≡ space_at page n
  level-space = ap (space_in page) e ∙ space-is page n

  -- what is said of its space is said of the space at the number
  pub space-read : {A : Type 0} (f : Space → A) {x : A} → x ≡ f (space_in page l) → x ≡ f (space_at page n)
  space-read f h = h ∙ ap f level-space

  pub tinted-read : {r : Level} → r ≡ tinted l → (space_in page r ≡ tinted_at page n) × (rank_in r < 2)
  tinted-read h = (rw (h, e) (tinted-is page n), rw h (tinted-rank l))

  pub plain-read : {r : Level} → r ≡ plain l → (space_in page r ≡ plain_at page n) × (rank_in r < 1)
  plain-read h = (rw (h, e) (plain-is page n), rw h (plain-falls l))

-- ---- What holds of every space

-- a number's space is its block's, or a device space, or none
pub numbered-ind : (P : Space → Type 0) → P none → P gray → P rgb → P cmyk → (page : List ℕ) (f : Body → Space) (n : ℕ) → P (f (body_at (block_at page n))) → P (numbered page f n)
unfolding device_of
numbered-ind P a b c d page f n h =
    cond_ind P (ltb n blocks) (λ _. h) (λ _.
    cond_ind P (eqb n gray_code) (λ _. b) (λ _.
    cond_ind P (eqb n rgb_code) (λ _. c) (λ _.
    cond_ind P (eqb n cmyk_code) (λ _. d) (λ _. a))))

-- nothing is within a plain space
pub body-rank : (y : Body) → rank_of (plain_of y) < 1
unfolding plain_of
body-rank Free = omega arith
body-rank (CalGray g) = omega arith
body-rank (CalRgb g) = omega arith
body-rank (Lab g) = omega arith
body-rank (IndexedBody base hival) = omega arith
body-rank (SeparationBody p) = omega arith
body-rank Palette = omega arith
body-rank ProgramBody = omega arith
body-rank (DeviceN alternate count) = omega arith

pub plain-rank : (page : List ℕ) (n : ℕ) → rank_of (plain_at page n) < 1
plain-rank page n = numbered-ind (λ (s : Space). rank_of s < 1) (omega arith) (omega arith) (omega arith) (omega arith) page plain_of n (body-rank _)

-- a plain space that a record refers to has at most as many components as CMYK
body-wide : (y : Body) → count_of (plain_of y) ≤ widest
unfolding plain_of
body-wide Free = omega arith
body-wide (CalGray g) = omega arith
body-wide (CalRgb g) = omega arith
body-wide (Lab g) = omega arith
body-wide (IndexedBody base hival) = omega arith
body-wide (SeparationBody p) = omega arith
body-wide Palette = omega arith
body-wide ProgramBody = omega arith
body-wide (DeviceN alternate count) = omega arith

pub plain-wide : (page : List ℕ) (n : ℕ) → count_of (plain_at page n) ≤ widest
plain-wide page n = numbered-ind (λ (s : Space). count_of s ≤ widest) (omega arith) (omega arith) (omega arith) (omega arith) page plain_of n (body-wide (body_at (block_at page n)))

-- what holds of plain spaces, and is handed on to a Separation over one, by its exponent or its program, and to an Indexed over either
module _ (page : List ℕ) (P : Space → Type 0) (plains : (s : Space) → rank_of s < 1 → P s) (separated : (p : Ink) (s : Space) → rank_of s < 1 → count_of s ≤ widest → P s → P (separation_over p s)) (calculates : (n : ℕ) (i : Tints) (s : Space) → rank_of s < 1 → P s → P (calculated_over page n i s)) where
  over_plain : (y : Body) → P (plain_of y)
  over_plain y = plains _ (body-rank y)

  over-tinted : (n : ℕ) (y : Body) → P (tinted_of page n y)
  unfolding tinted_of ink_of device_n_of
  over-tinted n Free = over_plain Free
  over-tinted n (CalGray g) = over_plain (CalGray g)
  over-tinted n (CalRgb g) = over_plain (CalRgb g)
  over-tinted n (Lab g) = over_plain (Lab g)
  over-tinted n (IndexedBody base hival) = over_plain (IndexedBody base hival)
  over-tinted n (SeparationBody p) =
      cond_ind P (ink_is (block_at page n) the_none) (λ _. plains (no_mark One) (omega arith)) (λ _.
      cond_ind P (ink_is (block_at page n) the_all) (λ _. plains every_ink (omega arith)) (λ _.
      cond_ind P (eqb p.exponent 0)
      (λ _. calculates n One (plain_at page p.alternate) (plain-rank page p.alternate) (plains _ (plain-rank page p.alternate)))
      (λ _. separated p (plain_at page p.alternate) (plain-rank page p.alternate) (plain-wide page p.alternate) (plains _ (plain-rank page p.alternate)))))
  over-tinted n Palette = over_plain Palette
  over-tinted n ProgramBody = over_plain ProgramBody
  over-tinted n (DeviceN alternate count) =
      cond_ind P (all_none (names_at (block_at page n)) count) (λ _. plains (no_mark (Inks count)) (omega arith))
      (λ _. calculates n (Inks count) (plain_at page alternate) (plain-rank page alternate) (plains _ (plain-rank page alternate)))

  among : (f : Body → Space) (n : ℕ) → P (f (body_at (block_at page n))) → P (numbered page f n)
  among = numbered-ind P (plains none (omega arith)) (plains gray (omega arith)) (plains rgb (omega arith)) (plains cmyk (omega arith)) page

  pub tinted-ind : (n : ℕ) → P (tinted_at page n)
  tinted-ind n = among (tinted_of page n) n (over-tinted n _)

  module _ (indexes : (n hival : ℕ) (s : Space) → P s → P (indexed_over page n hival s)) where
    over-space : (n : ℕ) (y : Body) → P (space_of page n y)
    unfolding space_of
    over-space n Free = over-tinted n Free
    over-space n (CalGray g) = over-tinted n (CalGray g)
    over-space n (CalRgb g) = over-tinted n (CalRgb g)
    over-space n (Lab g) = over-tinted n (Lab g)
    over-space n (IndexedBody base hival) = indexes n hival (tinted_at page base) (tinted-ind base)
    over-space n (SeparationBody p) = over-tinted n (SeparationBody p)
    over-space n Palette = over-tinted n Palette
    over-space n ProgramBody = over-tinted n ProgramBody
    over-space n (DeviceN alternate count) = over-tinted n (DeviceN alternate count)

    pub space-ind : (n : ℕ) → P (space_at page n)
    space-ind n = among (space_of page n) n (over-space n _)

-- a space is plain, a Separation, one with a program, or an Indexed
pub by_rank : (P : Space → Type 0) → ((s : Space) → rank_of s < 1 → P s) → ((e : ℕ) (c0 c1 : List ℤ) (s : Space) → P (separation e c0 c1 s)) → ((i : Tints) (c : Code) (s : Space) → P (calculated i c s))
    → ((h : ℕ) (t : List ℤ) (s : Space) → P (indexed h t s)) → (s : Space) → P s
by_rank P a b d c none = a none (omega arith)
by_rank P a b d c gray = a gray (omega arith)
by_rank P a b d c rgb = a rgb (omega arith)
by_rank P a b d c cmyk = a cmyk (omega arith)
by_rank P a b d c (cal_gray k) = a (cal_gray k) (omega arith)
by_rank P a b d c (cal_rgb k) = a (cal_rgb k) (omega arith)
by_rank P a b d c (lab k al ah bl bh) = a (lab k al ah bl bh) (omega arith)
by_rank P a b d c (no_mark i) = a (no_mark i) (omega arith)
by_rank P a b d c every_ink = a every_ink (omega arith)
by_rank P a b d c (separation e c0 c1 s) = b e c0 c1 s
by_rank P a b d c (calculated i k s) = d i k s
by_rank P a b d c (indexed h t s) = c h t s
