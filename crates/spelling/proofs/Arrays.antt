-- What every family's array has: its opening bracket, its family's name, the dictionary's ends and its closing bracket.
use mathlib.Core.Path.{◌≡◌, refl, ap}
use mathlib.Core.Bool.{true, false}
use mathlib.Core.List.{List, [], ◌∷◌, ◌++◌}
use Prim.Native.Nat.{ℕ, ◌+◌, ◌*◌, ◌≤◌}
use borrow.Author.Tests.{le-ltb}
use lib.Dec.{eqb}
use lib.IntN.{ℤ}
use lib.ListN.{length}
use lib.Seq.{take_all}
use Rattle.fixed.specs.Bytes.{blocks}
use Rattle.record.specs.Layout.{block_of}
use Rattle.lexer.specs.Scans.{Word, takes}
use Rattle.lexer.specs.declared.types.Token.TheVariants.{NameToken, ArrayClose, DictClose}
use Rattle.objects.specs.Objects.{name, opens, closes, begins, ends, each}
use Rattle.objects.proofs.Steps.{word}
use Rattle.objects.proofs.Written.{read_scan}
use Rattle.reader.specs.declared.types.Want.{Want}
use Rattle.reader.specs.declared.types.Want.TheVariants.{Top, Family, Dict, Key, Shut, Space as Inside}
use Rattle.reader.specs.declared.types.Entry.{Entry}
use Rattle.reader.specs.declared.types.Inner.{Inner}
use Rattle.keys.specs.Names.{family_named}
use Rattle.keys.specs.Entries.{complete, defaults}
use Rattle.reader.specs.Spaces.{Parser, Frame, Made, with, opened, name_of, run_blocks, made_with}
use Rattle.reader.specs.Tokens as tokens
use Rattle.reader.specs.Tokens.{took, took_by, sort_of, took_top, took_space, took_family, of_family, wanted_by, took_dict, took_key, took_end, took_shut, closed, resumes, resumed, outside}
use Rattle.spelling.specs.Spaces.{Space, components_of, blocks_of, code_of, records_of, objects}
use Rattle.spelling.proofs.Onward.{stands, Onward, taking, told}
use Rattle.spelling.proofs.Entries.{at}

-- where a space stands: at the outermost level, or inside that of a frame
pub data Level : Type 0 where
  outer : ℕ → Level
  within : Frame → List Frame → Level

abbrev pub want_at : Level → Want
want_at (outer kind) = Top
want_at (within fr fs) = Inside

abbrev pub kind_at : Level → ℕ
kind_at (outer kind) = kind
kind_at (within fr fs) = resumed fr.name

abbrev pub frames_of : Level → List Frame
frames_of (outer kind) = []
frames_of (within fr fs) = fr ∷ fs

abbrev pub made : ℕ → List ℕ → List ℕ → Made
made next page opened = record { next = next; page = page; opens = opened }

-- the parser after a space: it is inside that of the frame, or at the outermost level
abbrev pub done : List Frame → Entry → List ℤ → Inner → Made → Parser
done fs e v i m = with (outside (length fs) (resumes (name_of fs))) (resumed (name_of fs)) e v i fs m

-- A space is read: its records are the blocks made after those before them, and it is what the space around it has inside. What is left in the dictionary's
-- values, in the word and in the places of brackets is no matter.
pub record SpaceRead (room : ℕ) (x : Level) (t : Space) (before : Parser) (w : Word) (k f : ℕ) : Type 0 where
  pub last : Word
  pub entry : Entry
  pub values : List ℤ
  pub hival : ℕ
  pub opened : List ℕ
  pub on :
      Onward room (stands before w k f) (objects t) last
      (done (frames_of x) entry values (record { count = components_of t; code = code_of before.made.next t; hival = hival })
      (made (before.made.next + blocks_of t) (before.made.page ++ each block_of (records_of before.made.next t)) opened))

-- so it is, where the count of blocks and the page are those, told in another way
pub read-so : {room : ℕ} {x : Level} {t : Space} {before : Parser} {w : Word} {k f : ℕ} {last : Word} {e : Entry} {v : List ℤ} {h next : ℕ} {page opened : List ℕ}
    → Onward room (stands before w k f) (objects t) last
    (done (frames_of x) e v (record { count = components_of t; code = code_of before.made.next t; hival = h }) (made next page opened))
    → next ≡ before.made.next + blocks_of t
    → page ≡ before.made.page ++ each block_of (records_of before.made.next t)
    → SpaceRead room x t before w k f
read-so {x = x} {t = t} {before = before} {last = last} {e = e} {v = v} {h = h} {opened = o} on p q =
    record {
      last = last;
      entry = e;
      values = v;
      hival = h;
      opened = o;
      on = told on (λ j. done (frames_of x) e v (record { count = components_of t; code = code_of before.made.next t; hival = h }) (made (p j) (q j) o));
    }

-- ---- the objects around a dictionary

module _ (room : ℕ) (e : Entry) (v : List ℤ) (i : Inner) (m : Made) (w : Word) (k f : ℕ) where
  open-level : (x : Level) → Onward room (stands (with (want_at x) (kind_at x) e v i (frames_of x) m) w k f) (λ r. opens ∷ r) w
      (with Family (kind_at x) e v i (opened k (frames_of x)) m)
  unfolding took took_by took_top took_space sort_of tokens.opens
  open-level (outer kind) = taking room _ _ w k f opens refl
  open-level (within fr fs) = taking room _ _ w k f opens refl

  opened-all : (fs : List Frame) → length fs ≤ blocks → opened k fs ≡ record { start = k; name = [] } ∷ fs
  unfolding opened
  opened-all fs h = ap (λ (l : List Frame). record { start = k; name = [] } ∷ l) (take_all blocks fs h)

  -- `[`
  pub open-read : (x : Level) → length (frames_of x) ≤ blocks
      → Onward room (stands (with (want_at x) (kind_at x) e v i (frames_of x) m) w k f) (λ r. opens ∷ r) w
      (with Family (kind_at x) e v i (record { start = k; name = [] } ∷ frames_of x) m)
  open-read x h = told (open-level x) (ap (λ (fs : List Frame). with Family (kind_at x) e v i fs m) (opened-all (frames_of x) h))

  module _ (kind₀ : ℕ) (fs : List Frame) where
    -- the family's name
    family-took : (nm : List ℕ) (kind : ℕ) → family_named nm ≡ kind → eqb kind 0 ≡ false
        → took room (with Family kind₀ e v i fs m) (read_scan (name nm) w k) NameToken ≡ takes (with (wanted_by kind) kind e v i fs m)
    unfolding took took_by took_family sort_of of_family
    family-took nm kind names some = rw (names, some)

    pub family-read : (nm : List ℕ) (kind : ℕ) → family_named nm ≡ kind → eqb kind 0 ≡ false
        → Onward room (stands (with Family kind₀ e v i fs m) w k f) (λ r. name nm ∷ r) (word (length nm) nm) (with (wanted_by kind) kind e v i fs m)
    family-read nm kind names some = taking room _ _ w k f (name nm) (family-took nm kind names some)

    -- `<<`
    pub dict-read : Onward room (stands (with Dict kind₀ e v i fs m) w k f) (λ r. begins ∷ r) (word 0 []) (with Key kind₀ (at 0 0 0 1) defaults i fs m)
    unfolding took took_by took_dict sort_of tokens.begins
    dict-read = taking room _ _ w k f begins refl

    -- `>>`
    end-took : complete kind₀ i.count e.mask ≡ true
        → took room (with Key kind₀ e v i fs m) (read_scan ends w k) DictClose ≡ takes (with Shut kind₀ e v i fs m)
    unfolding took took_by took_key took_end sort_of
    end-took all = rw all

    pub end_read : complete kind₀ i.count e.mask ≡ true
        → Onward room (stands (with Key kind₀ e v i fs m) w k f) (λ r. ends ∷ r) w (with Shut kind₀ e v i fs m)
    end_read all = taking room _ _ w k f ends (end-took all)

    -- `]`
    module _ (few : m.next + (1 + run_blocks (with Shut kind₀ e v i fs m)) ≤ blocks)
        (fits : 512 * (m.next + (1 + run_blocks (with Shut kind₀ e v i fs m))) ≤ room) where
      abbrev shut : Parser
      shut = with Shut kind₀ e v i fs m

      shut-took : took room shut (read_scan closes w k) ArrayClose ≡ takes (closed shut (made_with shut w))
      unfolding took took_by took_shut tokens.closes sort_of
      shut-took =
          rw (le-ltb blocks (m.next + (1 + run_blocks shut)) few, le-ltb room (512 * (m.next + (1 + run_blocks shut))) fits)

      pub shut-read : Onward room (stands shut w k f) (λ r. closes ∷ r) w (closed shut (made_with shut w))
      shut-read = taking room _ _ w k f closes shut-took
