-- What one byte does, by the mode that the lexer is in: the moves that the bytes of written objects make.
use mathlib.Core.Path.{◌≡◌, refl}
use mathlib.Core.Bool.{Bool, true, false, ◌||◌}
use mathlib.Core.List.{List, []}
use Prim.Native.Nat.{ℕ, ◌+◌, ◌≤◌, ◌<◌}
use native.Mathlib.Omega.{arith}
use borrow.Author.Tests.{lt-ltb, le-leb, lt-leb, ne_eqb, not-true, ltb-true, ltb-false}
use lib.Dec.{eqb, ltb}
use Rattle.fixed.proofs.Decide.{cond_ind}
use Rattle.lexical.specs.Chars.{white, delimiter, regular, hex_of, hex_byte}
use Rattle.lexical.specs.Numbers.{none, with_figure}
use Rattle.lexer.specs.Moves.{begun, more, figure, ended, joined, in_hash, in_hash_pair, in_hex, in_pair}
use Rattle.lexer.specs.Scans.{Word, Scan, Taken, takes, refuses, Progress, going, stopped, bound, grown, after, begun_word, placed, taken, handed, joins, step_of}
use Rattle.lexer.specs.declared.types.Mode.{Mode}
use Rattle.lexer.specs.declared.types.Mode.TheVariants.{Gap, Regular, Name, Hash, HashDigit, Less, Greater, Hex, HexDigit}
use Rattle.lexical.specs.declared.types.Number.{Number}
use Rattle.lexer.specs.declared.types.Token.{Token}
use Rattle.lexer.specs.declared.types.Token.TheVariants.{NameToken, RegularToken, StringToken, ArrayOpen, ArrayClose, DictOpen, DictClose}
use Rattle.objects.specs.Objects.{hex_digit}

-- where the lexer stands, and a word of so many bytes
abbrev pub scan : Mode → Number → Word → ℕ → ℕ → Scan
scan m n w k f = record { mode = m; number = n; word = w; seen = k; first = f }

abbrev pub word : ℕ → List ℕ → Word
word size bytes = record { size = size; bytes = bytes }

-- ---- regular characters

or_left : (x y : Bool) → (x || y) ≡ false → x ≡ false
or_left true y e = e
or_left false y e = refl

or_right : (x y : Bool) → (x || y) ≡ false → y ≡ false
or_right true y e = let z : ◌≡◌ {A = ℕ} 0 1 = cc in absurd (omega arith)
or_right false y e = e

-- a regular character is no white space and no delimiter
record Apart (b : ℕ) : Type 0 where
  white : white b ≡ false
  delimiter : delimiter b ≡ false
  is-40 : eqb b 40 ≡ false
  is-60 : eqb b 60 ≡ false
  is-62 : eqb b 62 ≡ false
  is-91 : eqb b 91 ≡ false
  is-93 : eqb b 93 ≡ false
  is-47 : eqb b 47 ≡ false
  is-37 : eqb b 37 ≡ false

apart : (b : ℕ) → regular b ≡ true → Apart b
unfolding regular delimiter
apart b r =
    let e = not-true _ r in
    let w = or_left (white b) (delimiter b) e in
    let e₀ = or_right (white b) (delimiter b) e in
    let e₁ = or_right (eqb b 40) _ e₀ in
    let e₂ = or_right (eqb b 41) _ e₁ in
    let e₃ = or_right (eqb b 60) _ e₂ in
    let e₄ = or_right (eqb b 62) _ e₃ in
    let e₅ = or_right (eqb b 91) _ e₄ in
    let e₆ = or_right (eqb b 93) _ e₅ in
    let e₇ = or_right (eqb b 123) _ e₆ in
    let e₈ = or_right (eqb b 125) _ e₇ in
    let e₉ = or_right (eqb b 47) _ e₈ in
    record {
      white = w;
      delimiter = e₀;
      is-40 = or_left (eqb b 40) _ e₀;
      is-60 = or_left (eqb b 60) _ e₂;
      is-62 = or_left (eqb b 62) _ e₃;
      is-91 = or_left (eqb b 91) _ e₄;
      is-93 = or_left (eqb b 93) _ e₅;
      is-47 = or_left (eqb b 47) _ e₈;
      is-37 = or_left (eqb b 37) _ e₉;
    }

begun-regular : (b : ℕ) → regular b ≡ true → begun b ≡ figure b
unfolding begun
begun-regular b r =
    let p = apart b r in
    rw (p.white, p.is-37, p.is-47, p.is-40, p.is-60, p.is-62, p.is-91, p.is-93, p.delimiter)

word-stays : (b : ℕ) (w : Word) → regular b ≡ true → begun_word b w ≡ w
unfolding begun_word
word-stays b w r = let p = apart b r in rw (p.is-47, p.is-40, p.is-60)

-- the digits and A to F are regular
pub regular-in : (b : ℕ) → 45 ≤ b → b ≤ 70 → (b ≡ 47 → ⊥) → (b ≡ 60 → ⊥) → (b ≡ 62 → ⊥) → regular b ≡ true
unfolding regular white delimiter
regular-in b p q x y z =
    simp (
      ne_eqb b 0 (λ e. omega arith),
      ne_eqb b 9 (λ e. omega arith),
      ne_eqb b 10 (λ e. omega arith),
      ne_eqb b 12 (λ e. omega arith),
      ne_eqb b 13 (λ e. omega arith),
      ne_eqb b 32 (λ e. omega arith),
      ne_eqb b 40 (λ e. omega arith),
      ne_eqb b 41 (λ e. omega arith),
      ne_eqb b 60 y,
      ne_eqb b 62 z,
      ne_eqb b 91 (λ e. omega arith),
      ne_eqb b 93 (λ e. omega arith),
      ne_eqb b 123 (λ e. omega arith),
      ne_eqb b 125 (λ e. omega arith),
      ne_eqb b 47 x,
      ne_eqb b 37 (λ e. omega arith),
    )

-- the hexadecimal digit of h, which is read as h
pub record Sixteenth (h b : ℕ) : Type 0 where
  pub is : regular b ≡ true
  pub not-less : eqb b 60 ≡ false
  pub not-greater : eqb b 62 ≡ false
  pub value : hex_of b ≡ h

low_digit : (h : ℕ) → h < 10 → Sixteenth h (48 + h)
unfolding hex_of
low_digit h l =
    record {
      is = regular-in (48 + h) (omega arith) (omega arith) (λ e. omega arith) (λ e. omega arith) (λ e. omega arith);
      not-less = ne_eqb (48 + h) 60 (λ e. omega arith);
      not-greater = ne_eqb (48 + h) 62 (λ e. omega arith);
      value = rw (le-leb 48 (48 + h) (omega arith), le-leb (48 + h) 57 (omega arith)) (omega arith);
    }

high_digit : (h : ℕ) → 10 ≤ h → h < 16 → Sixteenth h (55 + h)
unfolding hex_of
high_digit h m l =
    record {
      is = regular-in (55 + h) (omega arith) (omega arith) (λ e. omega arith) (λ e. omega arith) (λ e. omega arith);
      not-less = ne_eqb (55 + h) 60 (λ e. omega arith);
      not-greater = ne_eqb (55 + h) 62 (λ e. omega arith);
      value =
          rw (le-leb 48 (55 + h) (omega arith), lt-leb (55 + h) 57 (omega arith), le-leb 65 (55 + h) (omega arith), le-leb (55 + h) 70 (omega arith)) (omega arith);
    }

pub hex-digit : (h : ℕ) → h < 16 → Sixteenth h (hex_digit h)
hex-digit h l = cond_ind (Sixteenth h) (ltb h 10) (λ e. low_digit h (ltb-true h 10 e)) (λ e. high_digit h (ltb-false h 10 e) l)

-- ---- the moves

module _ {A : Type 0} (took : A → Scan → Token → Taken A) (a : A) (n : Number) (w : Word) (k f : ℕ) (few : k < bound) where
  -- a number's characters
  pub first-figure : (b : ℕ) → regular b ≡ true → step_of took (going (scan Gap n w k f) a) b ≡ going (scan Regular (with_figure none b) w (k + 1) k) a
  unfolding step_of joins handed ended joined after placed more
  first-figure b r = rw (begun-regular b r, word-stays b w r, lt-ltb k 4294967295 few)

  pub next-figure : (b : ℕ) → regular b ≡ true → step_of took (going (scan Regular n w k f) a) b ≡ going (scan Regular (with_figure n b) w (k + 1) f) a
  unfolding step_of joins handed ended joined after placed more
  next-figure b r = rw (r, lt-ltb k 4294967295 few)

  -- a name's
  pub slash : step_of took (going (scan Gap n w k f) a) 47 ≡ going (scan Name none (word 0 []) (k + 1) k) a
  unfolding step_of joins handed ended joined after placed more begun begun_word white
  slash = rw (lt-ltb k 4294967295 few)

  pub plain_byte : (b : ℕ) → regular b ≡ true → eqb b 35 ≡ false
      → step_of took (going (scan Name n w k f) a) b ≡ going (scan Name n (grown w b) (k + 1) f) a
  unfolding step_of joins handed ended joined after placed more
  plain_byte b r e = rw (r, e, lt-ltb k 4294967295 few)

  pub hash : step_of took (going (scan Name n w k f) a) 35 ≡ going (scan Hash n w (k + 1) f) a
  unfolding step_of joins handed ended joined after placed more regular white delimiter
  hash = rw (lt-ltb k 4294967295 few)

  pub hash-digit : (h b : ℕ) → h < 16 → Sixteenth h b → step_of took (going (scan Hash n w k f) a) b ≡ going (scan (HashDigit h) n w (k + 1) f) a
  unfolding step_of joins handed ended joined after placed more in_hash
  hash-digit h b l d = rw (d.is, d.value, lt-ltb h 16 l, lt-ltb k 4294967295 few)

  pub hash-pair : (g h b : ℕ) → h < 16 → Sixteenth h b → eqb (hex_byte g h) 0 ≡ false
      → step_of took (going (scan (HashDigit g) n w k f) a) b ≡ going (scan Name n (grown w (hex_byte g h)) (k + 1) f) a
  unfolding step_of joins handed ended joined after placed more in_hash_pair
  hash-pair g h b l d e = rw (d.is, d.value, lt-ltb h 16 l, e, lt-ltb k 4294967295 few)

  -- a hexadecimal string's
  pub less : step_of took (going (scan Gap n w k f) a) 60 ≡ going (scan Less none (word 0 []) (k + 1) k) a
  unfolding step_of joins handed ended joined after placed more begun begun_word white
  less = rw (lt-ltb k 4294967295 few)

  -- after a < that no other follows the string goes on
  pub less-hex : (b : ℕ) → eqb b 60 ≡ false → step_of took (going (scan Less n w k f) a) b ≡ step_of took (going (scan Hex n w k f) a) b
  unfolding step_of joins handed ended joined after
  less-hex b e = rw e

  pub hex-first : (h b : ℕ) → h < 16 → Sixteenth h b → step_of took (going (scan Hex n w k f) a) b ≡ going (scan (HexDigit h) n w (k + 1) f) a
  unfolding step_of joins handed ended joined after placed more in_hex
  hex-first h b l d = rw ((apart b d.is).white, d.not-greater, d.value, lt-ltb h 16 l, lt-ltb k 4294967295 few)

  pub hex-second : (g h b : ℕ) → h < 16 → Sixteenth h b → step_of took (going (scan (HexDigit g) n w k f) a) b ≡ going (scan Hex n (grown w (hex_byte g h)) (k + 1) f) a
  unfolding step_of joins handed ended joined after placed more in_pair
  hex-second g h b l d = rw (d.not-greater, (apart b d.is).white, d.value, lt-ltb h 16 l, lt-ltb k 4294967295 few)

  -- a string's end
  pub hex-end : step_of took (going (scan Hex n w k f) a) 62 ≡ taken (scan Gap n w (k + 1) f) (took a (scan Gap n w (k + 1) f) StringToken)
  unfolding step_of joins handed ended joined after placed more in_hex white
  hex-end = rw (lt-ltb k 4294967295 few)

  -- delimiters
  pub bracket : step_of took (going (scan Gap n w k f) a) 91 ≡ taken (scan Gap none w (k + 1) k) (took a (scan Gap none w (k + 1) k) ArrayOpen)
  unfolding step_of joins handed ended joined after placed more begun begun_word white
  bracket = rw (lt-ltb k 4294967295 few)

  pub unbracket : step_of took (going (scan Gap n w k f) a) 93 ≡ taken (scan Gap none w (k + 1) k) (took a (scan Gap none w (k + 1) k) ArrayClose)
  unfolding step_of joins handed ended joined after placed more begun begun_word white
  unbracket = rw (lt-ltb k 4294967295 few)

  pub greater : step_of took (going (scan Gap n w k f) a) 62 ≡ going (scan Greater none w (k + 1) k) a
  unfolding step_of joins handed ended joined after placed more begun begun_word white
  greater = rw (lt-ltb k 4294967295 few)

  pub less-less : step_of took (going (scan Less n w k f) a) 60 ≡ taken (scan Gap n w (k + 1) f) (took a (scan Gap n w (k + 1) f) DictOpen)
  unfolding step_of joins handed ended joined after placed more
  less-less = rw (lt-ltb k 4294967295 few)

  pub greater-greater : step_of took (going (scan Greater n w k f) a) 62 ≡ taken (scan Gap n w (k + 1) f) (took a (scan Gap n w (k + 1) f) DictClose)
  unfolding step_of joins handed ended joined after placed more
  greater-greater = rw (lt-ltb k 4294967295 few)

-- ---- the space after a name or a number

abbrev pub after_space : {A : Type 0} → Bool → Progress A → Progress A
after_space true (going s a) = going (scan Gap none s.word (s.seen + 1) s.seen) a
after_space true (stopped n at) = stopped n at
after_space false p = p

module _ {A : Type 0} (took : A → Scan → Token → Taken A) (n : Number) (w : Word) (k f : ℕ) (few : k < bound) where
  space : (r : Taken A) → joins took 32 (taken (scan Gap n w k f) r) ≡ after_space true (taken (scan Gap n w k f) r)
  unfolding joins taken handed joined after placed more begun begun_word white
  space (takes a) = rw (lt-ltb k 4294967295 few)
  space (refuses x) = refl

  pub figure-end : (a : A)
      → step_of took (going (scan Regular n w k f) a) 32 ≡ after_space true (taken (scan Gap n w k f) (took a (scan Gap n w k f) RegularToken))
  unfolding step_of handed ended after regular white delimiter
  figure-end a = rw (lt-ltb k 4294967295 few) (space (took a (scan Gap n w k f) RegularToken))

  pub name-end : (a : A) → step_of took (going (scan Name n w k f) a) 32 ≡ after_space true (taken (scan Gap n w k f) (took a (scan Gap n w k f) NameToken))
  unfolding step_of handed ended after regular white delimiter
  name-end a = rw (lt-ltb k 4294967295 few) (space (took a (scan Gap n w k f) NameToken))
