-- What is saved is loaded again.
use mathlib.Core.Path.{◌≡◌, refl, ap, ◌∙◌}
use mathlib.Core.Bool.{Bool, true, false}
use mathlib.Core.List.{List, [], ◌∷◌, ◌++◌}
use Prim.Native.Nat.{ℕ, ◌%◌, ◌≤◌, ◌<◌}
use native.Mathlib.Omega.{arith}
use native.Mathlib.Nat.{mod-eq_of_lt}
use lib.Dec.{eqb}
use lib.ListN.{length, drop}
use lib.Seq.{sets}
use Rattle.fixed.proofs.Stores.{sets-append, sets-front}
use Rattle.lexical.specs.declared.types.Part.{Part}
use Rattle.lexical.specs.declared.types.Part.TheVariants.{Empty, Sign, Digits, Point, Decimals, Keyword}
use Rattle.lexer.specs.declared.types.Mode.{Mode}
use Rattle.lexer.specs.declared.types.Mode.TheVariants.{Gap, Comment, Regular, Name, Hash, HashDigit, Less, Greater, Hex, HexDigit, Text, Return, Escape, Octal, Octals}
use Rattle.reader.specs.declared.types.Want.{Want}
use Rattle.reader.specs.declared.types.Want.TheVariants.{Top, Family, Dict, Key, Value, Items, Shut, Space, Hival, Lookup, Ink}
use Rattle.states.specs.declared.types.State.{State}
use Rattle.states.specs.Words.{pack, packed, unpacked, part_in, part_tag, want_in, want_tag, bit, lexer_in, head_in, state_in, lexer_words, head_words, LexerFits, HeadFits}

mode-back : (m : Mode) → unpacked (packed m) ≡ m
unfolding unpacked
mode-back Gap = refl
mode-back Comment = refl
mode-back Regular = refl
mode-back Name = refl
mode-back Hash = refl
mode-back (HashDigit s) = refl
mode-back Less = refl
mode-back Greater = refl
mode-back Hex = refl
mode-back (HexDigit s) = refl
mode-back (Text d) = refl
mode-back (Return d) = refl
mode-back (Escape d) = refl
mode-back (Octal d s) = refl
mode-back (Octals d s) = refl

part-back : (p : Part) → part_in (part_tag p % 4294967296) ≡ p
unfolding part_in
part-back Empty = refl
part-back Sign = refl
part-back Digits = refl
part-back Point = refl
part-back Decimals = refl
part-back Keyword = refl

want-back : (w : Want) → want_in (want_tag w % 4294967296) ≡ w
unfolding want_in
want-back Top = refl
want-back Family = refl
want-back Dict = refl
want-back Key = refl
want-back Value = refl
want-back Items = refl
want-back Shut = refl
want-back Space = refl
want-back Hival = refl
want-back Lookup = refl
want-back Ink = refl

bit-back : (b : Bool) → eqb (bit b % 2) 1 ≡ b
bit-back true = refl
bit-back false = refl

half_back : {x : ℕ} → x < 4294967296 → x % 4294967296 ≡ x
half_back h = mod-eq_of_lt h

short_back : {x : ℕ} → x < 65536 → x % 65536 ≡ x
short_back h = mod-eq_of_lt h

byte-back : {x : ℕ} → x < 256 → x % 256 ≡ x
byte-back h = mod-eq_of_lt h

-- the words of a state, whatever follows them
abbrev words_of : State → List ℕ → List ℕ
words_of s rest = ((lexer_words s.lexer ++ head_words s.head) ++ (s.refusal ∷ s.place ∷ [])) ++ rest

module _ (s : State) (rest : List ℕ) where
  lexer-back : LexerFits s.lexer → lexer_in (words_of s rest) ≡ s.lexer
  lexer-back f =
      let l = s.lexer in
      λ i. record {
        mode = (ap unpacked (λ j. pack (half_back f.tag j) (half_back f.depth j) (byte-back f.small j)) ∙ mode-back l.mode) i;
        number = record { part = part-back l.number.part i; minus = bit-back l.number.minus i; fine = bit-back l.number.fine i; raw = l.number.raw; after = half_back f.after i };
        size = half_back f.size i;
        seen = half_back f.seen i;
        first = half_back f.first i;
      }

  head-back : HeadFits s.head → head_in (words_of s rest) ≡ s.head
  head-back f =
      λ i. record {
        want = want-back s.head.want i;
        kind = byte-back f.kind i;
        entry = record { key = half_back f.key i; index = half_back f.index i; mask = half_back f.mask i; exponent = byte-back f.exponent i };
        inner = record { count = byte-back f.count i; code = short_back f.code i; hival = short_back f.hival i };
        next = byte-back f.next i;
        top = byte-back f.top i;
        deep = byte-back f.deep i;
      }

  state-back : LexerFits s.lexer → HeadFits s.head → s.refusal < 4294967296 → s.place < 4294967296 → state_in (words_of s rest) ≡ s
  unfolding state_in
  state-back f g r p = λ i. record { lexer = lexer-back f i; head = head-back g i; refusal = half_back r i; place = half_back p i }

-- a state stored in 25 words
pub saved : (s : State) (w : List ℕ) {a b x y z : List ℕ} → length w ≡ 25 → a ≡ lexer_words s.lexer → b ≡ head_words s.head
    → x ≡ sets w 0 a → y ≡ sets x 11 b → z ≡ sets y 23 (s.refusal ∷ s.place ∷ []) → LexerFits s.lexer → HeadFits s.head → s.refusal < 4294967296 → s.place < 4294967296
    → state_in z ≡ s
saved s w {a} {b} {x} {y} {z} n ea eb ex ey ez f g r p =
    let l = lexer_words s.lexer in
    let h = head_words s.head in
    let k = s.refusal ∷ s.place ∷ [] in
    let o : 25 ≤ length w = omega arith in
    let stored : y ≡ sets w 0 (l ++ h) = ey ∙ (λ i. sets (ex i) 11 (eb i)) ∙ (λ i. sets (sets w 0 (ea i)) 11 h) ∙ sets-append l w 0 h in
    let all : z ≡ words_of s (drop 25 w) = ez ∙ ap (λ (t : List ℕ). sets t 23 k) stored ∙ sets-append (l ++ h) w 0 k ∙ sets-front ((l ++ h) ++ k) w o in
    ap state_in all ∙ state-back s (drop 25 w) f g r p
