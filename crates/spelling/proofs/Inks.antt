-- Separation: its ink's name, its alternate and its function.
use mathlib.Core.Path.{◌≡◌, refl, ap, ◌∙◌}
use mathlib.Core.Bool.{Bool, true, false, ◌||◌}
use mathlib.Core.List.{List, [], ◌∷◌, ◌++◌}
use Prim.Native.Nat.{ℕ, suc, ◌+◌, ◌*◌, ◌≤◌}
use native.Mathlib.Omega.{arith}
use borrow.Author.Tests.{ne_eqb, le-leb}
use lib.Dec.{eqb}
use lib.IntN.{ℤ, pos, neg_ℤ}
use lib.ListN.{length}
use lib.Seq.{sets}
use Rattle.fixed.specs.Bytes.{blocks}
use Rattle.record.specs.Layout.{block_of}
use Rattle.record.specs.declared.types.Body.TheVariants.{Separation}
use Rattle.record.specs.declared.types.Four.{Four}
use Rattle.lexer.specs.Moves.{more}
use Rattle.lexical.specs.Numbers.{exactly, scale_of, fits, value_of}
use Rattle.lexer.specs.Scans.{Word, takes, taken}
use Rattle.lexer.specs.declared.types.Token.TheVariants.{NameToken, RegularToken}
use Rattle.objects.specs.Objects.{name, whole, opens, closes, begins, ends, each}
use Rattle.objects.proofs.Digits.{whole-fits, whole-in, whole-value}
use Rattle.objects.proofs.Steps.{word}
use Rattle.objects.proofs.Written.{read_scan}
use Rattle.reader.specs.declared.types.Want.TheVariants.{Dict, Key, Value, Shut, Ink, Space as Inside}
use Rattle.reader.specs.declared.types.Entry.{Entry}
use Rattle.reader.specs.declared.types.Inner.{Inner}
use Rattle.lexical.specs.Names.{same}
use Rattle.keys.specs.Names.{family_named, key_named}
use Rattle.keys.specs.Entries.{one, hundred, key_of, length_of, met_in, complete, number_fault, place_of, defaults}
use Rattle.reader.specs.Spaces.{Parser, Frame, Made, with, named, around, name_of, body_of, record_of, run_of, run_blocks, made_with}
use Rattle.reader.specs.Tokens.{took, took_by, sort_of, wanted_by, took_key, took_name, keyed, took_value, took_items, took_number, valued, closed, count_of, resumes, resumed, outside, took_dict, took_ink, inked}
use Rattle.reader.specs.Tokens as tokens
use Rattle.spelling.specs.Names.{the_separation, the_function_type, the_domain, the_c0, the_c1, the_n}
use Rattle.spelling.specs.Spaces.{Space, separation, components_of, blocks_of, code_of, records_of, record_with, four_of, entry, InkFits}
use Rattle.spelling.proofs.Onward.{stands, Onward, taking, then_at, then, told}
use Rattle.spelling.proofs.Entries.{at, entry_read}
use Rattle.spelling.proofs.Arrays.{Level, within, want_at, kind_at, frames_of, made, done, SpaceRead, read-so, open-read, family-read, end_read, shut-read}
use Rattle.spelling.proofs.Nested.{page-more, Some, components}

-- ---- the function

-- the values of a function's dictionary
abbrev ink_values : Four → Four → List ℤ
ink_values q r =
    pos 0 ∷ pos 0 ∷ pos 0
    ∷ pos 0 ∷ pos 0 ∷ pos 0
    ∷ one ∷ one ∷ one
    ∷ one ∷ pos 0 ∷ pos 0 ∷ pos 0 ∷ one ∷ pos 0 ∷ pos 0 ∷ pos 0 ∷ one
    ∷ neg_ℤ hundred ∷ hundred ∷ neg_ℤ hundred ∷ hundred
    ∷ q.a ∷ q.b ∷ q.c ∷ q.d
    ∷ r.a ∷ r.b ∷ r.c ∷ r.d ∷ []

from-values : (c : List ℤ) → length c ≤ 4 → sets defaults 22 c ≡ ink_values (four_of c) (record { a = one; b = pos 0; c = pos 0; d = pos 0 })
unfolding defaults
from-values [] h = refl
from-values (a ∷ []) h = refl
from-values (a ∷ b ∷ []) h = refl
from-values (a ∷ b ∷ c ∷ []) h = refl
from-values (a ∷ b ∷ c ∷ d ∷ []) h = refl
from-values (a ∷ b ∷ c ∷ d ∷ x ∷ l) h = absurd (omega arith)

to_values : (q : Four) (c : List ℤ) → 1 ≤ length c → length c ≤ 4
    → sets (ink_values q (record { a = one; b = pos 0; c = pos 0; d = pos 0 })) 26 c ≡ ink_values q (four_of c)
to_values q [] l h = absurd (omega arith)
to_values q (a ∷ []) l h = refl
to_values q (a ∷ b ∷ []) l h = refl
to_values q (a ∷ b ∷ c ∷ []) l h = refl
to_values q (a ∷ b ∷ c ∷ d ∷ []) l h = refl
to_values q (a ∷ b ∷ c ∷ d ∷ x ∷ l) m h = absurd (omega arith)

or-true : (t : Bool) → (t || true) ≡ true
or-true true = refl
or-true false = refl

module _ (room : ℕ) (e : Entry) (v : List ℤ) (i : Inner) (fs : List Frame) (m : Made) (w : Word) (k f : ℕ) where
  -- `<<`, FunctionType 2 and Domain [0 1]
  function-head : Onward room (stands (with Dict 5 e v i fs m) w k f)
      (λ r. begins ∷ name the_function_type ∷ whole 2 ∷ name the_domain ∷ opens ∷ whole 0 ∷ whole 1 ∷ closes ∷ r) (word 6 the_domain)
      (with Key 5 (at 7 2 192 1) defaults i fs m)
  unfolding took took_by took_dict tokens.begins took_key took_name keyed key_named same key_of met_in took_value took_items took_number valued number_fault length_of place_of exactly fits scale_of value_of more sort_of defaults taken
  function-head = record { seen = _; first = _; is = λ r. refl }

  module _ (n : ℕ) (least : 1 ≤ n) (most : n ≤ 4) (q r : Four) (index : ℕ) where
    exponent-took : (w' : Word) (k' : ℕ) → took room (with Value 5 (at 10 0 1984 1) (ink_values q r) i fs m) (read_scan (whole n) w' k') RegularToken
        ≡ takes (with Key 5 (at 10 1 1984 n) (ink_values q r) i fs m)
    unfolding took took_by took_value took_number valued number_fault length_of place_of more sort_of
    exponent-took w' k' = rw (whole-fits n (omega arith), whole-in n 1 4 least most, whole-value n)

    exponent-key : (w' : Word) (k' : ℕ) → took room (with Key 5 (at 9 index 960 1) (ink_values q r) i fs m) (read_scan (name the_n) w' k') NameToken
        ≡ takes (with Value 5 (at 10 0 1984 1) (ink_values q r) i fs m)
    unfolding took took_by took_key took_name keyed key_named same key_of met_in sort_of
    exponent-key w' k' = refl

    complete-so : complete 5 i.count 1984 ≡ true
    unfolding complete met_in
    complete-so = or-true (eqb i.count 1)

module _ (room : ℕ) (e : Entry) (v : List ℤ) (i : Inner) (fs : List Frame) (m : Made) (w : Word) (k f : ℕ)
    (ink : List ℕ) (n : ℕ) (c₀ c₁ : List ℤ) (ok : InkFits i.count ink n c₀ c₁) (some : Some i.count) where
  -- C0 and C1
  points : Onward room (stands (with Key 5 (at 7 2 192 1) defaults i fs m) w k f) (λ r. entry the_c0 c₀ (entry the_c1 c₁ r)) (word 2 the_c1)
      (with Key 5 (at 9 (suc some.less) 960 1) (ink_values (four_of c₀) (four_of c₁)) i fs m)
  unfolding length_of key_named same key_of met_in place_of
  points =
      let l = some.less in
      let short : suc l ≤ 9 = omega (arith, some.is, some.few) in
      let size₀ : length c₀ ≡ suc l = ok.from ∙ some.is in
      let size₁ : length c₁ ≡ suc l = ok.to ∙ some.is in
      let one_on = entry_read room 5 8 448 1 i fs m l some.is refl refl refl short the_c0 refl refl 192 2 7 refl refl c₀ defaults w k f size₀ ok.froms in
      told
      (then
      (told one_on (ap (λ (u : List ℤ). with Key 5 (at 8 (suc l) 448 1) u i fs m) (from-values c₀ (omega (arith, some.is, some.few)))))
      (λ k' f'. entry_read room 5 9 960 1 i fs m l some.is refl refl refl short the_c1 refl refl 448 (suc l) 8 refl refl c₁ _ (word 2 the_c0) k' f' size₁ ok.tos))
      (ap (λ (u : List ℤ). with Key 5 (at 9 (suc l) 960 1) u i fs m) (to_values (four_of c₀) c₁ (omega arith) (omega (arith, some.is, some.few))))

module _ (room : ℕ) (e : Entry) (v : List ℤ) (i : Inner) (fs : List Frame) (m : Made) (w : Word) (k f : ℕ)
    (ink : List ℕ) (n : ℕ) (c₀ c₁ : List ℤ) (ok : InkFits i.count ink n c₀ c₁) (some : Some i.count) where
  -- the dictionary
  pub function-read : Onward room (stands (with Dict 5 e v i fs m) w k f)
      (λ r.
      begins ∷ name the_function_type ∷ whole 2 ∷ name the_domain ∷ opens ∷ whole 0 ∷ whole 1 ∷ closes
      ∷ entry the_c0 c₀ (entry the_c1 c₁ (name the_n ∷ whole n ∷ ends ∷ r)))
      (word 1 the_n) (with Shut 5 (at 10 1 1984 n) (ink_values (four_of c₀) (four_of c₁)) i fs m)
  function-read =
      let q = four_of c₀ in
      let r = four_of c₁ in
      let index = suc some.less in
      then
      (then
      (then
      (then (function-head room e v i fs m w k f) (λ k' f'. points room e v i fs m (word 6 the_domain) k' f' ink n c₀ c₁ ok some))
      (λ k' f'. taking room _ _ (word 2 the_c1) k' f' (name the_n) (exponent-key room e v i fs m w k f n ok.least ok.most q r index (word 2 the_c1) k')))
      (λ k' f'. taking room _ _ (word 1 the_n) k' f' (whole n) (exponent-took room e v i fs m w k f n ok.least ok.most q r index (word 1 the_n) k')))
      (λ k' f'. end_read room (at 10 1 1984 n) (ink_values q r) i m (word 1 the_n) k' f' 5 fs (complete-so room e v i fs m w k f n ok.least ok.most q r index))

-- ---- the whole array

module _ (room : ℕ) (x : Level) (e : Entry) (v : List ℤ) (i : Inner) (n : ℕ) (page opened : List ℕ) (w : Word) (k f : ℕ) (deep : length (frames_of x) ≤ blocks) where
  abbrev before : Parser
  before = with (want_at x) (kind_at x) e v i (frames_of x) (made n page opened)

  abbrev frame : List ℕ → Frame
  frame ink = record { start = k; name = ink }

  ink-took : (ink : List ℕ) (k' : ℕ) → 1 ≤ length ink → length ink ≤ 127
      → took room (with Ink 5 e v i (frame [] ∷ frames_of x) (made n page opened)) (read_scan (name ink) (word 10 the_separation) k') NameToken
      ≡ takes (with Inside 5 e v i (frame ink ∷ frames_of x) (made n page opened))
  unfolding took took_by took_ink inked named sort_of
  ink-took ink k' l h = rw (le-leb 1 (length ink) l, le-leb (length ink) 127 h)

  ink-head : (ink : List ℕ) → 1 ≤ length ink → length ink ≤ 127
      → Onward room (stands before w k f) (λ r. opens ∷ name the_separation ∷ name ink ∷ r) (word (length ink) ink)
      (with Inside (resumed ink) e v i (frame ink ∷ frames_of x) (made n page opened))
  unfolding family_named same wanted_by resumed
  ink-head ink l h =
      let kind : 5 ≡ resumed ink = rw (ne_eqb (length ink) 0 (λ q. omega arith)) in
      told
      (then
      (then (open-read room e v i (made n page opened) w k f x deep)
      (λ k' f'. family-read room e v i (made n page opened) w k' f' (kind_at x) (frame [] ∷ frames_of x) the_separation 5 refl refl))
      (λ k' f'. taking room _ _ (word 10 the_separation) k' f' (name ink) (ink-took ink k' l h)))
      (ap (λ (q : ℕ). with Inside q e v i (frame ink ∷ frames_of x) (made n page opened)) kind)

  -- inside a Separation
  after-alternate : (ink : List ℕ) → 1 ≤ length ink → (e' : Entry) (v' : List ℤ) (i' : Inner) (m' : Made)
      → done (frame ink ∷ frames_of x) e' v' i' m' ≡ with Dict 5 e' v' i' (frame ink ∷ frames_of x) m'
  unfolding outside resumes resumed name_of
  after-alternate ink l e' v' i' m' = rw (ne_eqb (suc (length (frames_of x))) 0 (λ q. omega arith), ne_eqb (length ink) 0 (λ q. omega arith))

  module _ (ink : List ℕ) (alternate : Space) (ex : ℕ) (c₀ c₁ : List ℤ) (ok : InkFits (components_of alternate) ink ex c₀ c₁)
      (few : n + blocks_of (separation ink alternate ex c₀ c₁) ≤ blocks) (holds : 512 * (n + blocks_of (separation ink alternate ex c₀ c₁)) ≤ room)
      (inside : (w' : Word) (k' f' : ℕ)
      → SpaceRead room (within (frame ink) (frames_of x)) alternate (with Inside (resumed ink) e v i (frame ink ∷ frames_of x) (made n page opened)) w' k' f') where
    pub ink-read : SpaceRead room x (separation ink alternate ex c₀ c₁) before w k f
    unfolding run_blocks closed made_with record_of body_of run_of count_of around name_of
    ink-read =
        let head = ink-head ink ok.some ok.few in
        let y = inside (word (length ink) ink) head.seen head.first in
        let own = n + blocks_of alternate in
        let m = made own (page ++ each block_of (records_of n alternate)) y.opened in
        let fs = frame ink ∷ frames_of x in
        let i₀ : Inner = record { count = components_of alternate; code = code_of n alternate; hival = y.hival } in
        let upto = told (then_at head y.on) (after-alternate ink ok.some y.entry y.values i₀ m) in
        let next : own + 1 ≡ n + (blocks_of alternate + 1) = omega arith in
        read-so
        (then
        (then upto (λ k' f'. function-read room y.entry y.values i₀ fs m y.last k' f' ink ex c₀ c₁ ok (components alternate)))
        (λ k' f'. shut-read room (at 10 1 1984 ex) (ink_values (four_of c₀) (four_of c₁)) i₀ m (word 1 the_n) k' f' 5 fs (rw next few) (rw next holds)))
        next
        (page-more page (records_of n alternate) (record_with own (Separation (record { alternate = code_of n alternate; exponent = ex; name_len = length ink; c0 = four_of c₀; c1 = four_of c₁ })) ink ∷ []) refl)
