-- Indexed: its base, hival and palette, and the blocks that its palette takes.
use mathlib.Core.Path.{◌≡◌, refl, sym, ap, ◌∙◌}
use mathlib.Core.List.{List, [], ◌∷◌, ◌++◌}
use Prim.Native.Nat.{ℕ, suc, ◌+◌, ◌*◌, ◌≤◌}
use native.Mathlib.Omega.{arith}
use borrow.Author.Tests.{ne_eqb, eq-eqb}
use lib.IntN.{ℤ}
use lib.ListN.{length}
use Rattle.fixed.specs.Bytes.{blocks}
use Rattle.record.specs.Layout.{block_of}
use Rattle.record.specs.declared.types.Body.TheVariants.{Indexed}
use Rattle.runs.specs.Runs.{run_length}
use Rattle.lexer.specs.Scans.{Word, takes}
use Rattle.lexer.specs.declared.types.Token.TheVariants.{RegularToken, StringToken}
use Rattle.objects.specs.Objects.{name, text, whole, opens, each}
use Rattle.objects.proofs.Digits.{whole-fits, whole-in, whole-value}
use Rattle.objects.proofs.Steps.{word}
use Rattle.objects.proofs.Written.{read_scan}
use Rattle.reader.specs.declared.types.Want.TheVariants.{Shut, Hival, Lookup, Space as Inside}
use Rattle.reader.specs.declared.types.Entry.{Entry}
use Rattle.reader.specs.declared.types.Inner.{Inner}
use Rattle.lexical.specs.Names.{same}
use Rattle.keys.specs.Names.{family_named}
use Rattle.reader.specs.Spaces.{Parser, Frame, Made, with, around, name_of, body_of, record_of, run_of, run_blocks, made_with}
use Rattle.reader.specs.Tokens.{took, took_by, sort_of, wanted_by, closed, count_of, resumes, resumed, outside, took_hival, with_hival, took_lookup}
use Rattle.spelling.specs.Names.{the_indexed}
use Rattle.spelling.specs.Spaces.{Space, indexed, components_of, blocks_of, code_of, records_of, record_with, palettes, PaletteFits}
use Rattle.spelling.proofs.Onward.{stands, Onward, taking, then_at, then, told}
use Rattle.spelling.proofs.Arrays.{Level, within, want_at, kind_at, frames_of, made, done, SpaceRead, read-so, open-read, family-read, shut-read}
use Rattle.spelling.proofs.Nested.{page-more, run_is}

module _ (room : ℕ) (e : Entry) (v : List ℤ) (i : Inner) (fs : List Frame) (m : Made) (w : Word) (k : ℕ) where
  hival-took : (h : ℕ) → h ≤ 255 → took room (with Hival 4 e v i fs m) (read_scan (whole h) w k) RegularToken
      ≡ takes (with Lookup 4 e v (record { count = i.count; code = i.code; hival = h }) fs m)
  unfolding took took_by took_hival with_hival sort_of
  hival-took h l = rw (whole-fits h (omega arith), whole-in h 0 255 (omega arith) l, whole-value h)

  text-took : (p : List ℕ) → length p ≡ i.count * (i.hival + 1)
      → took room (with Lookup 4 e v i fs m) (read_scan (text p) w k) StringToken ≡ takes (with Shut 4 e v i fs m)
  unfolding took took_by took_lookup sort_of
  text-took p size = rw (eq-eqb (length p) (i.count * (i.hival + 1)) size)

module _ (room : ℕ) (x : Level) (e : Entry) (v : List ℤ) (i : Inner) (n : ℕ) (page opened : List ℕ) (w : Word) (k f : ℕ) (deep : length (frames_of x) ≤ blocks) where
  abbrev before : Parser
  before = with (want_at x) (kind_at x) e v i (frames_of x) (made n page opened)

  abbrev frame : List ℕ → Frame
  frame ink = record { start = k; name = ink }

  -- inside an Indexed space
  after-base : (e' : Entry) (v' : List ℤ) (i' : Inner) (m' : Made) → done (frame [] ∷ frames_of x) e' v' i' m' ≡ with Hival 4 e' v' i' (frame [] ∷ frames_of x) m'
  unfolding outside resumes resumed name_of
  after-base e' v' i' m' = rw (ne_eqb (suc (length (frames_of x))) 0 (λ q. omega arith))

  indexed-head : Onward room (stands before w k f) (λ r. opens ∷ name the_indexed ∷ r) (word 7 the_indexed)
      (with Inside (resumed []) e v i (frame [] ∷ frames_of x) (made n page opened))
  unfolding family_named same wanted_by resumed
  indexed-head =
      then (open-read room e v i (made n page opened) w k f x deep)
      (λ k' f'. family-read room e v i (made n page opened) w k' f' (kind_at x) (frame [] ∷ frames_of x) the_indexed 4 refl refl)

  module _ (base : Space) (hival : ℕ) (palette : List ℕ) (ok : PaletteFits (components_of base) hival palette)
      (few : n + blocks_of (indexed base hival palette) ≤ blocks) (holds : 512 * (n + blocks_of (indexed base hival palette)) ≤ room)
      (inside : (w' : Word) (k' f' : ℕ)
      → SpaceRead room (within (frame []) (frames_of x)) base (with Inside (resumed []) e v i (frame [] ∷ frames_of x) (made n page opened)) w' k' f') where
    run-same : run_length (components_of base * (hival + 1)) ≡ run_length (length palette)
    run-same = ap (λ (l : ℕ). run_length l) (sym ok.size)

    pub indexed-read : SpaceRead room x (indexed base hival palette) before w k f
    unfolding run_blocks closed made_with record_of body_of count_of around name_of
    indexed-read =
        let y = inside (word 7 the_indexed) indexed-head.seen indexed-head.first in
        let own = n + blocks_of base in
        let m = made own (page ++ each block_of (records_of n base)) y.opened in
        let fs = frame [] ∷ frames_of x in
        let i₀ : Inner = record { count = components_of base; code = code_of n base; hival = y.hival } in
        let i₁ : Inner = record { count = components_of base; code = code_of n base; hival = hival } in
        let upto = told (then_at indexed-head y.on) (after-base y.entry y.values i₀ m) in
        let last = word (length palette) palette in
        let next : own + (1 + run_length (components_of base * (hival + 1))) ≡ n + (blocks_of base + (1 + run_length (length palette))) = omega (arith, run-same) in
        let whole_run : run_of (own + 1) (run_length (components_of base * (hival + 1))) palette ≡ each block_of (palettes (own + 1) (run_length (length palette)) palette) =
        ap (λ (r : ℕ). run_of (own + 1) r palette) run-same ∙ run_is (run_length (length palette)) (own + 1) palette
        in
        let own-record = record_with own (Indexed (code_of n base) hival) [] in
        read-so
        (then
        (then
        (then upto
        (λ k' f'. taking room _ _ y.last k' f' (whole hival) (hival-took room y.entry y.values i₀ fs m y.last k' hival ok.high)))
        (λ k' f'. taking room _ _ y.last k' f' (text palette) (text-took room y.entry y.values i₁ fs m y.last k' palette ok.size)))
        (λ k' f'. shut-read room y.entry y.values i₁ m last k' f' 4 fs (rw next few) (rw next holds)))
        next
        (page-more page (records_of n base) (own-record ∷ palettes (own + 1) (run_length (length palette)) palette)
        (ap (λ (l : List ℕ). block_of own-record ++ l) whole_run))
