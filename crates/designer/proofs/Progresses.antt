-- Reading on from token to token: a turn of the loop, its end, and that the turns come to an end.
use mathlib.Core.Path.{◌≡◌, refl, sym, ap, ◌∙◌}
use mathlib.Core.Bool.{true, false, true≢false}
use mathlib.Core.List.{List}
use Prim.Native.Nat.{ℕ, ◌+◌, ◌-◌, ◌*◌, ◌<◌}
use native.Mathlib.Omega.{arith}
use borrow.Author.Tests.{eq-eqb, ne_eqb}
use lib.IntN.{ℤ}
use lib.ListN.{length, drop, length-drop}
use Rattle.lexer.specs.declared.types.Met.{Met}
use Rattle.lexer.specs.declared.types.Met.TheVariants.{Nothing, Complete, Wrong, Past}
use Rattle.lexer.specs.declared.types.Found.{Found}
use Rattle.lexer.specs.declared.types.Lexer.{Lexer}
use Rattle.lexer.specs.Scans.{Scan, Progress, going, stopped, handed, fed, finished, found, Finding, last_scan, last_met, scan_at, found_at}
use Rattle.lexer.proofs.Texts.{fed-stopped, found-fed, pending, found-falls, found_nothing}
use Rattle.reader.specs.Spaces.{Parser}
use Rattle.reader.specs.Kept.{parser_at}
use Rattle.reader.specs.Tokens.{took}
use Rattle.reader.specs.Texts.{part_of}
use Rattle.states.specs.declared.types.State.{State}
use Rattle.designer.specs.State.{is_complete, progress_at}

-- ---- a part of the text

module _ (room : ℕ) (s : Scan) (a : Parser) (l : List ℕ) where
  -- where no token was met nothing is left to read, or the text is refused
  last-met : is_complete (found s l).met ≡ false
      → fed (took room) (handed (took room) a (found s l).scan (found s l).met) (found s l).rest ≡ handed (took room) a (found s l).scan (found s l).met
  unfolding handed fed
  last-met h = go (found s l).met refl h
    where
      go : (m : Met) → (found s l).met ≡ m → is_complete m ≡ false
          → fed (took room) (handed (took room) a (found s l).scan m) (found s l).rest ≡ handed (took room) a (found s l).scan m
      go Nothing e h = ap (λ (t : List ℕ). fed (took room) (going (found s l).scan a) t) (found_nothing s l e)
      go (Complete t) e h = absurd (true≢false h)
      go Wrong e h = fed-stopped (took room) 12 (found s l).scan.first (found s l).rest
      go Past e h = fed-stopped (took room) 12 (found s l).scan.seen (found s l).rest

module _ (room : ℕ) (t : State) (values : List ℤ) (word marks names opens page : List ℕ) where
  pub reads_on : t.refusal ≡ 0
      → progress_at t values word marks names opens page ≡ going (scan_at t.lexer word) (parser_at t.head values marks names opens page)
  unfolding progress_at
  reads_on h = rw (eq-eqb t.refusal 0 h)

  pub reads-off : (t.refusal ≡ 0 → ⊥) → progress_at t values word marks names opens page ≡ stopped t.refusal t.place
  unfolding progress_at
  reads-off h = rw (ne_eqb t.refusal 0 h)

  -- a refusal stays
  pub part_stays : (l : List ℕ) → (t.refusal ≡ 0 → ⊥)
      → progress_at t values word marks names opens page ≡ part_of room (progress_at t values word marks names opens page) l
  unfolding part_of
  part_stays l h =
      let e = reads-off h in
      e ∙ sym (fed-stopped (took room) t.refusal t.place l) ∙ ap (λ (p : Progress Parser). fed (took room) p l) (sym e)

  pub end_stays : (t.refusal ≡ 0 → ⊥)
      → progress_at t values word marks names opens page ≡ finished (took room) (progress_at t values word marks names opens page)
  unfolding finished
  end_stays h = let e = reads-off h in e ∙ ap (finished (took room)) (sym e)

  -- the end of the text
  pub end_on : t.refusal ≡ 0 → {g : Scan} {m : Met} → g ≡ last_scan (scan_at t.lexer word) → m ≡ last_met (scan_at t.lexer word)
      → handed (took room) (parser_at t.head values marks names opens page) g m ≡ finished (took room) (progress_at t values word marks names opens page)
  unfolding finished
  end_on h e f =
      (λ i. handed (took room) (parser_at t.head values marks names opens page) (e i) (f i)) ∙ ap (finished (took room)) (sym (reads_on h))

  -- what was found from byte i of the part on, with what is read by then
  module _ (text : List ℕ) (i : ℕ) (f : Found) (word' : List ℕ) (go : t.refusal ≡ 0)
      (e : found_at f word' text ≡ found (scan_at t.lexer word) (drop i text)) {p : Progress Parser}
      (h : p ≡ handed (took room) (parser_at t.head values marks names opens page) (scan_at f.lexer word') f.met) where
    abbrev onward : Finding → Progress Parser
    onward q = handed (took room) (parser_at t.head values marks names opens page) q.scan q.met

    pub part-turn : part_of room p (drop f.at text) ≡ part_of room (progress_at t values word marks names opens page) (drop i text)
    unfolding part_of
    part-turn =
        ap (λ (q : Progress Parser). fed (took room) q (drop f.at text)) h
        ∙ ap (λ (q : Finding). fed (took room) (onward q) q.rest) e
        ∙ sym (found-fed (took room) (scan_at t.lexer word) (parser_at t.head values marks names opens page) (drop i text))
        ∙ ap (λ (q : Progress Parser). fed (took room) q (drop i text)) (sym (reads_on go))

    pub part-last : is_complete f.met ≡ false → p ≡ part_of room (progress_at t values word marks names opens page) (drop i text)
    unfolding part_of
    part-last none =
        let s = scan_at t.lexer word in
        let a = parser_at t.head values marks names opens page in
        let n : is_complete (found s (drop i text)).met ≡ false = ap (λ (q : Finding). is_complete q.met) (sym e) ∙ none in
        h ∙ ap onward e ∙ sym (last-met room s a (drop i text) n) ∙ sym (found-fed (took room) s a (drop i text))
        ∙ ap (λ (q : Progress Parser). fed (took room) q (drop i text)) (sym (reads_on go))

-- ---- the turns come to an end

pub turn-less : (l : Lexer) (word word' text : List ℕ) (i : ℕ) (f : Found) (u : Lexer) → found_at f word' text ≡ found (scan_at l word) (drop i text) → is_complete f.met ≡ true
    → u ≡ f.lexer → 2 * (length text - f.at) + pending u.mode < 2 * (length text - i) + pending l.mode
turn-less l word word' text i f u e c q = by f.met refl c
  where
    by : (m : Met) → f.met ≡ m → is_complete m ≡ true → 2 * (length text - f.at) + pending u.mode < 2 * (length text - i) + pending l.mode
    by Nothing d h = absurd (true≢false (sym h))
    by (Complete t) d h =
        let s = scan_at l word in
        let k : (found s (drop i text)).met ≡ Complete t = ap (λ (x : Finding). x.met) (sym e) ∙ d in
        let n : length (found s (drop i text)).rest ≡ length text - f.at = ap (λ (x : Finding). length x.rest) (sym e) ∙ length-drop f.at text in
        let o : pending (found s (drop i text)).scan.mode ≡ pending u.mode =
        ap (λ (x : Finding). pending x.scan.mode) (sym e) ∙ ap (λ (x : Lexer). pending x.mode) (sym q) in
        omega (arith, found-falls s (drop i text) t k, length-drop i text)
    by Wrong d h = absurd (true≢false (sym h))
    by Past d h = absurd (true≢false (sym h))
