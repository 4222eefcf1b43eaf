-- A byte of a word, and reading on: what `found` finds is what the fold over the bytes hands on.
use mathlib.Core.Path.{◌≡◌, refl, sym, ap, ◌∙◌}
use mathlib.Core.Bool.{Bool, true, false, cond}
use mathlib.Core.List.{List, [], ◌∷◌, ◌++◌}
use mathlib.Core.Logic.{⊎_elim, ◌⊎◌, inl, inr}
use Prim.Native.Nat.{ℕ, suc, ◌+◌, ◌≤◌, ◌<◌}
use native.Mathlib.Omega.{arith}
use native.Mathlib.Numerals.{add-one}
use borrow.Author.Tests.{lt-ltb, le-ltb, ltb-true, ltb-false}
use lib.Dec.{ltb}
use lib.ListN.{length, take, drop, get_or, set, drop_of_length-le}
use lib.Seq.{take-suc-set, take_all, set_out, drop-cons}
use Rattle.lexer.specs.Moves.{more, last_move}
use Rattle.lexer.specs.declared.types.Mode.{Mode}
use Rattle.lexer.specs.declared.types.Mode.TheVariants.{Gap, Comment, Regular, Name, Hash, HashDigit, Less, Greater, Hex, HexDigit, Text, Return, Escape, Octal, Octals}
use Rattle.lexer.specs.declared.types.Move.{Move}
use Rattle.lexer.specs.declared.types.Met.{Met}
use Rattle.lexer.specs.declared.types.Met.TheVariants.{Nothing, Past}
use Rattle.lexer.specs.Scans.{Word, Scan, finding, longest, bound, grown, moved, after, moved_by, last_scan, found, ended_scan, ended_met, joined_scan, joined_met, is_nothing}

-- ---- a byte of a word

split : (a b : ℕ) → (a < b) ⊎ (b ≤ a)
split a b = go (ltb a b) refl
  where
    go : (t : Bool) → ltb a b ≡ t → (a < b) ⊎ (b ≤ a)
    go true e = inl (ltb-true a b e)
    go false e = inr (ltb-false a b e)

more-le : (n : ℕ) → n ≤ more n
unfolding more
more-le n = go (ltb n 4294967295)
  where
    go : (t : Bool) → n ≤ cond t (n + 1) n
    go true = omega arith
    go false = omega arith

more-suc : (n : ℕ) → n < longest → more n ≡ suc n
unfolding more
more-suc n h =
    let o : n < 4294967295 = omega arith in
    let e : n + 1 ≡ suc n = omega arith in
    rw (lt-ltb n 4294967295 o) e

-- a byte stored at the word's size is the word with one byte more
pub noted : (word : List ℕ) (n x : ℕ) {word' : List ℕ} {k : ℕ} → length word ≡ longest → word' ≡ set word n x → k ≡ more n
    → ◌≡◌ {A = Word} (record { size = k; bytes = take k word' }) (grown (record { size = n; bytes = take n word }) x)
noted word n x {word'} {k} w e q =
    λ i. record { size = q i; bytes = ((λ j. take (q j) (e j)) ∙ ⊎_elim few many (split n longest)) i }
  where
    few : n < longest → take (more n) (set word n x) ≡ cond (ltb n longest) (take n word ++ (x ∷ [])) (take n word)
    few h =
        ap (λ (m : ℕ). take m (set word n x)) (more-suc n h) ∙ take-suc-set word n x (omega arith)
        ∙ rw (lt-ltb n longest h)

    many : longest ≤ n → take (more n) (set word n x) ≡ cond (ltb n longest) (take n word ++ (x ∷ [])) (take n word)
    many h =
        let o : length word ≤ more n = omega (arith, more-le n) in
        ap (take (more n)) (set_out word n x (omega arith)) ∙ take_all (more n) word o ∙ sym (take_all n word (omega arith))
        ∙ rw (le-ltb n longest h)

-- ---- a turn of the loop, at byte i of a text

module _ (s : Scan) (text : List ℕ) (i : ℕ) where
  pub found-end : length text ≤ i → finding s Nothing (drop i text) ≡ found s (drop i text)
  unfolding found
  found-end h = rw (drop_of_length-le text {i = i} h)

  module _ (within : i < length text) where
    pub found-past : bound ≤ s.seen → finding s Past (drop i text) ≡ found s (drop i text)
    unfolding found
    found-past full = rw (drop-cons text i 0 within, le-ltb s.seen bound full)

    module _ (b : ℕ) (byte : b ≡ get_or text i 0) (few : s.seen < bound) (s₁ : Scan) (m₁ : Met) (t₁ : Bool) (ends : s₁ ≡ ended_scan s b) (meets : m₁ ≡ ended_met s b)
        (is : t₁ ≡ is_nothing m₁) where
      pub found-stop : t₁ ≡ false → finding s₁ m₁ (drop i text) ≡ found s (drop i text)
      unfolding found
      found-stop e =
          let f : is_nothing (ended_met s b) ≡ false = ap is_nothing (sym meets) ∙ sym is ∙ e in
          rw (ends, meets, drop-cons text i 0 within, ← byte, lt-ltb s.seen bound few, f)

      module _ (none : t₁ ≡ true) (s₂ : Scan) (m₂ : Met) (t₂ : Bool) (joins : s₂ ≡ joined_scan s₁ b)
          (joins_met : m₂ ≡ joined_met s₁ b) (is₂ : t₂ ≡ is_nothing m₂) where
        onward : is_nothing (ended_met s b) ≡ true
        onward = ap is_nothing (sym meets) ∙ sym is ∙ none

        further : (t : Bool) → t₂ ≡ t → is_nothing (joined_met (ended_scan s b) b) ≡ t
        further t e = ap (λ (z : Scan). is_nothing (joined_met z b)) (sym ends) ∙ ap is_nothing (sym joins_met) ∙ sym is₂ ∙ e

        pub found-met : t₂ ≡ false → finding s₂ m₂ (drop (i + 1) text) ≡ found s (drop i text)
        unfolding found
        found-met e =
            rw (joins, joins_met, ends, drop-cons text i 0 within, ← byte, add-one, lt-ltb s.seen bound few, onward, further false e)

        pub found_turn : t₂ ≡ true → found s₂ (drop (i + 1) text) ≡ found s (drop i text)
        unfolding found
        found_turn e =
            rw (joins, ends, drop-cons text i 0 within, ← byte, add-one, lt-ltb s.seen bound few, onward, further true e)

-- ---- the end of the text hands on no byte

last-by : (s : Scan) (m : Mode) → moved s (last_move m).mode s.number s.word ≡ moved_by s (last_move m)
unfolding after
last-by s Gap = refl
last-by s Comment = refl
last-by s Regular = refl
last-by s Name = refl
last-by s Hash = refl
last-by s (HashDigit d) = refl
last-by s Less = refl
last-by s Greater = refl
last-by s Hex = refl
last-by s (HexDigit d) = refl
last-by s (Text d) = refl
last-by s (Return d) = refl
last-by s (Escape d) = refl
last-by s (Octal d v) = refl
last-by s (Octals d v) = refl

pub last-plain : (s : Scan) {v : Move} → v ≡ last_move s.mode → moved s v.mode s.number s.word ≡ last_scan s
last-plain s e = ap (λ (v : Move). moved s v.mode s.number s.word) e ∙ last-by s s.mode
