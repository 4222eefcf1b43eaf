-- Plain bytes, and pairs of hexadecimal digits: each is read with nothing met, and what it does is what the two phases of a byte do.
use mathlib.Core.Path.{◌≡◌, refl, sym, ap, ◌∙◌}
use mathlib.Core.Bool.{Bool, true, false, ◌||◌, not, true≢false}
use mathlib.Core.List.{List}
use Prim.Native.Nat.{ℕ, ◌+◌, ◌<◌}
use native.Mathlib.Omega.{arith}
use borrow.Author.Tests.{ne_eqb, not-true, lt-ltb}
use lib.Dec.{eqb}
use lib.ListN.{length, get_or, take, drop, set}
use Rattle.fixed.proofs.Decide.{and_left, and_right}
use Rattle.lexical.specs.Chars.{white, regular, line_end, hex_of, hex_byte}
use Rattle.lexer.specs.Moves.{more, is_gap, begun, in_text, in_hex, in_pair, ended, joined}
use Rattle.lexer.specs.declared.types.Mode.{Mode}
use Rattle.lexer.specs.declared.types.Mode.TheVariants.{Gap, Comment, Regular, Name, Hash, HashDigit, Less, Greater, Hex, HexDigit, Text, Return, Escape, Octal, Octals}
use Rattle.lexical.specs.declared.types.Number.{Number}
use Rattle.lexer.specs.declared.types.Lexer.{Lexer}
use Rattle.lexer.specs.Scans.{Word, Scan, bound, after, begun_word, placed, ended_scan, ended_met, joined_scan, joined_met, is_nothing, grown, is_plain, is_regular, is_spelled, plain_scan, hex_scan, longest, found, scan_at}
use Rattle.lexer.proofs.Findings.{found_turn, noted}

-- white space is no byte that is not
other : (b k : ℕ) → white b ≡ true → white k ≡ false → eqb b k ≡ false
other b k h n = ne_eqb b k (λ e. true≢false (sym h ∙ ap white e ∙ n))

white-word : (b : ℕ) (w : Word) → white b ≡ true → begun_word b w ≡ w
unfolding begun_word white
white-word b w h = simp (other b 47 h refl, other b 40 h refl, other b 60 h refl)

neither : (a b : Bool) → (a || b) ≡ false → (a ≡ false) × (b ≡ false)
neither true b h = absurd (true≢false h)
neither false b h = (refl, h)

-- a byte that takes a scan to another: what it does, and that nothing is met before it and at it
record Goes (s : Scan) (b : ℕ) (t : Scan) : Type 0 where
  does : joined_scan (ended_scan s b) b ≡ t
  before : is_nothing (ended_met s b) ≡ true
  at : is_nothing (joined_met (ended_scan s b) b) ≡ true

-- a plain byte
abbrev Plain : Scan → ℕ → Type 0
Plain s b = Goes s b (plain_scan s b)

abbrev scan : Mode → Number → Word → ℕ → ℕ → Scan
scan m n w seen first = record { mode = m; number = n; word = w; seen = seen; first = first }

plain-text : (d : ℕ) (n : Number) (w : Word) (seen first b : ℕ) → (eqb b 40 || (eqb b 41 || (eqb b 92 || eqb b 13))) ≡ false
    → Plain (scan (Text d) n w seen first) b
unfolding ended joined in_text after placed plain_scan
plain-text d n w seen first b h =
    let x = neither (eqb b 40) (eqb b 41 || (eqb b 92 || eqb b 13)) h in
    let y = neither (eqb b 41) (eqb b 92 || eqb b 13) x.1 in
    let z = neither (eqb b 92) (eqb b 13) y.1 in
    record { does = rw (x.0, y.0, z.0, z.1); before = refl; at = rw (x.0, y.0, z.0, z.1) }

plain-at : (m : Mode) (n : Number) (w : Word) (seen first b : ℕ) → is_plain m b ≡ true → Plain (scan m n w seen first) b
unfolding is_plain ended joined begun after placed plain_scan
plain-at Gap n w seen first b h = record { does = simp (h, white-word b w h); before = refl; at = rw h }
plain-at Comment n w seen first b h =
    let e : line_end b ≡ false = not-true (line_end b) h in record { does = rw e; before = refl; at = rw e }
plain-at Regular n w seen first b h = record { does = rw h; before = rw h; at = rw h }
plain-at Name n w seen first b h =
    let r : regular b ≡ true = and_left (regular b) (not (eqb b 35)) h in
    let e : eqb b 35 ≡ false = not-true (eqb b 35) (and_right (regular b) (not (eqb b 35)) h) in
    record { does = rw (r, e); before = rw r; at = rw (r, e) }
plain-at Hash n w seen first b h = absurd (true≢false (sym h))
plain-at (HashDigit d) n w seen first b h = absurd (true≢false (sym h))
plain-at Less n w seen first b h = absurd (true≢false (sym h))
plain-at Greater n w seen first b h = absurd (true≢false (sym h))
plain-at Hex n w seen first b h = absurd (true≢false (sym h))
plain-at (HexDigit d) n w seen first b h = absurd (true≢false (sym h))
plain-at (Text d) n w seen first b h = plain-text d n w seen first b (not-true (eqb b 40 || (eqb b 41 || (eqb b 92 || eqb b 13))) h)
plain-at (Return d) n w seen first b h = absurd (true≢false (sym h))
plain-at (Escape d) n w seen first b h = absurd (true≢false (sym h))
plain-at (Octal d v) n w seen first b h = absurd (true≢false (sym h))
plain-at (Octals d v) n w seen first b h = absurd (true≢false (sym h))

goes-turn : (s : Scan) (text : List ℕ) (i : ℕ) (t : Scan) → i < length text → s.seen < bound → Goes s (get_or text i 0) t → found t (drop (i + 1) text) ≡ found s (drop i text)
goes-turn s text i t within few p =
    let b = get_or text i 0 in
    ap (λ (z : Scan). found z (drop (i + 1) text)) (sym p.does)
    ∙ found_turn s text i within b refl few (ended_scan s b) (ended_met s b) (is_nothing (ended_met s b)) refl refl refl p.before
    (joined_scan (ended_scan s b) b) (joined_met (ended_scan s b) b) (is_nothing (joined_met (ended_scan s b) b)) refl refl refl p.at

-- a turn of the loop over plain bytes
pub plain_turn : (s : Scan) (text : List ℕ) (i : ℕ) (s' : Scan) → i < length text → (b : ℕ) → b ≡ get_or text i 0 → s.seen < bound → is_plain s.mode b ≡ true
    → s' ≡ plain_scan s b → found s' (drop (i + 1) text) ≡ found s (drop i text)
plain_turn s text i s' within b byte few h e =
    ap (λ (z : Scan). found z (drop (i + 1) text)) (e ∙ ap (plain_scan s) byte)
    ∙ goes-turn s text i _ within few (plain-at s.mode s.number s.word s.seen s.first (get_or text i 0) (ap (is_plain s.mode) (sym byte) ∙ h))

-- a byte of a name or of a literal string
pub pass-spelled : (s : Scan) (b : ℕ) → is_gap s.mode ≡ false → is_regular s.mode ≡ false → is_spelled s.mode ≡ true
    → ◌≡◌ {A = Scan} (record { mode = s.mode; number = s.number; word = grown s.word b; seen = more s.seen; first = s.first }) (plain_scan s b)
unfolding plain_scan
pass-spelled s b g r p = rw (g, r, p)

-- a mode that stays, and is copied once
module _ (t : Lexer) (m : Mode) (e : t.mode ≡ m) where
  pub plain-in : (b : ℕ) → is_plain m b ≡ true → is_plain t.mode b ≡ true
  plain-in b h = ap (λ (k : Mode). is_plain k b) e ∙ h

  pub found_in : (word rest : List ℕ) → found (scan_at (record { mode = m; number = t.number; size = t.size; seen = t.seen; first = t.first }) word) rest ≡ found (scan_at t word) rest
  found_in word rest = ap (λ (k : Mode). found (scan_at (record { mode = k; number = t.number; size = t.size; seen = t.seen; first = t.first }) word) rest) (sym e)

-- ---- two digits of a hexadecimal string

-- a digit is no byte that is none
no_other : (b k : ℕ) → hex_of b < 16 → hex_of k ≡ 16 → eqb b k ≡ false
no_other b k h n = ne_eqb b k (λ e. let z : hex_of b ≡ 16 = ap hex_of e ∙ n in let y : ⊥ = omega arith in y)

no-white : (b : ℕ) → hex_of b < 16 → white b ≡ false
unfolding white hex_of
no-white b h = simp (no_other b 0 h refl, no_other b 9 h refl, no_other b 10 h refl, no_other b 12 h refl, no_other b 13 h refl, no_other b 32 h refl)

no-close : (b : ℕ) → hex_of b < 16 → eqb b 62 ≡ false
unfolding hex_of
no-close b h = no_other b 62 h refl

-- the scan after the first of them, and after both
abbrev half_scan : Scan → ℕ → Scan
half_scan s a = record { mode = HexDigit (hex_of a); number = s.number; word = s.word; seen = more s.seen; first = s.first }

abbrev pair_scan : Scan → ℕ → ℕ → Scan
pair_scan s a b =
    record { mode = Hex; number = s.number; word = grown s.word (hex_byte (hex_of a) (hex_of b)); seen = more (more s.seen); first = s.first }

first-digit : (n : Number) (w : Word) (seen first a : ℕ) → hex_of a < 16 → Goes (scan Hex n w seen first) a (half_scan (scan Hex n w seen first) a)
unfolding ended joined in_hex after placed
first-digit n w seen first a h =
    let x = no-white a h in let y = no-close a h in let z = lt-ltb (hex_of a) 16 h in
    record { does = simp (x, y, z); before = refl; at = simp (x, y, z) }

second-digit : (n : Number) (w : Word) (seen first d b : ℕ) → hex_of b < 16
    → Goes (scan (HexDigit d) n w seen first) b (record { mode = Hex; number = n; word = grown w (hex_byte d (hex_of b)); seen = more seen; first = first })
unfolding ended joined in_pair after placed
second-digit n w seen first d b h =
    let x = no-white b h in let y = no-close b h in let z = lt-ltb (hex_of b) 16 h in
    record { does = simp (x, y, z); before = simp y; at = simp (x, y, z) }

-- a turn of the loop over pairs
pair_turn : (n : Number) (w : Word) (seen first i : ℕ) (text : List ℕ) → i + 1 < length text → seen + 1 < bound
    → hex_of (get_or text i 0) < 16 → hex_of (get_or text (i + 1) 0) < 16
    → found (pair_scan (scan Hex n w seen first) (get_or text i 0) (get_or text (i + 1) 0)) (drop (i + 2) text) ≡ found (scan Hex n w seen first) (drop i text)
unfolding more
pair_turn n w seen first i text within few ha hb =
    let s = scan Hex n w seen first in
    let a = get_or text i 0 in
    let e : i + 2 ≡ i + 1 + 1 = omega arith in
    let o : seen < 4294967295 = omega arith in
    let l : more seen < bound = simp (lt-ltb seen 4294967295 o) few in
    rw e (goes-turn (half_scan s a) text (i + 1) _ within l (second-digit n w (more seen) first (hex_of a) (get_or text (i + 1) 0) hb))
    ∙ goes-turn s text i (half_scan s a) (omega arith) (omega arith) (first-digit n w seen first a ha)

more-two : (n : ℕ) → n + 1 < bound → n + 2 ≡ more (more n)
unfolding more
more-two n h =
    let a : n < 4294967295 = omega arith in
    simp (lt-ltb n 4294967295 a, lt-ltb (n + 1) 4294967295 h) (omega arith)

-- the same of what is kept in memory
pub pair-again : (n : Number) (size seen first i a b size' : ℕ) (text word word' : List ℕ) → length word ≡ longest → i + 1 < length text → seen + 1 < bound
    → a ≡ hex_of (get_or text i 0) → b ≡ hex_of (get_or text (i + 1) 0) → a < 16 → b < 16 → word' ≡ set word size (hex_byte a b) → size' ≡ more size
    → found (hex_scan n size' (seen + 2) first word') (drop (i + 2) text) ≡ found (hex_scan n size seen first word) (drop i text)
pair-again n size seen first i a b size' text word word' len within few ea eb ha hb ew es =
    let w : Word = record { size = size; bytes = take size word } in
    let x = noted word size (hex_byte a b) len ew es in
    (λ t. found (scan Hex n (x t) (more-two seen few t) first) (drop (i + 2) text))
    ∙ (λ t. found (scan Hex n (grown w (hex_byte (ea t) (eb t))) (more (more seen)) first) (drop (i + 2) text))
    ∙ pair_turn n w seen first i text within few (rw (← ea) ha) (rw (← eb) hb)
