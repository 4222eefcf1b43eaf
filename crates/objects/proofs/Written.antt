-- A written object is read as that object: the fold over the bytes of a list of objects is a fold over the objects, whatever is made of their tokens.
use mathlib.Core.Path.{◌≡◌, refl, sym, ap, ◌∙◌}
use mathlib.Core.Bool.{Bool, true, false, ◌&&◌}
use mathlib.Core.List.{List, [], ◌∷◌, ◌++◌, foldl, append_assoc, append-nil}
use Prim.Native.Nat.{ℕ, suc, ◌+◌, ◌/◌, ◌%◌, ◌≤◌, ◌<◌}
use native.Mathlib.Omega.{arith}
use borrow.Author.Tests.{lt-ltb, leb-true, ne_eqb, not-true}
use lib.Dec.{eqb, leb}
use lib.IntN.{ℤ, pos, negsuc}
use lib.ListN.{length, length-append}
use Rattle.fixed.proofs.Decide.{and_left, and_right, cond_ind}
use Rattle.digits.specs.Digits.{digits}
use Rattle.digits.proofs.Digits.{digits_decimal}
use Rattle.lexical.specs.Chars.{regular, white, delimiter, hex_byte}
use Rattle.lexical.specs.Numbers.{none, with_figure}
use Rattle.lexer.specs.Moves.{more}
use Rattle.lexer.specs.Scans.{Word, Scan, Taken, takes, refuses, Progress, going, stopped, bound, grown, taken, fed}
use Rattle.lexer.specs.declared.types.Mode.{Mode}
use Rattle.lexer.specs.declared.types.Mode.TheVariants.{Gap, Regular, Name, Less, Hex}
use Rattle.lexical.specs.declared.types.Number.{Number}
use Rattle.lexer.specs.declared.types.Token.{Token}
use Rattle.lexer.specs.declared.types.Token.TheVariants.{NameToken, RegularToken, StringToken, ArrayOpen, ArrayClose, DictOpen, DictClose}
use Rattle.lexer.proofs.Texts.{fed-append, fed-stopped}
use Rattle.objects.specs.Objects.{Object, name, text, number, whole, opens, closes, begins, ends, each, pair, plain, name_byte, hex_digit, last_digits, decimal, bare, spaced, blank, written, bytes_from, writable}
use Rattle.objects.proofs.Digits.{Figures, digits-figures, six-figures, in_millionths, in_ones, number_read, whole-read}
use Rattle.objects.proofs.Steps.{scan, word, after_space, regular-in, hex-digit, first-figure, next-figure, slash, plain_byte, hash, hash-digit, hash-pair, less, less-hex, hex-first, hex-second, hex-end, bracket, unbracket, greater, less-less, greater-greater, figure-end, name-end}

infixr 20 ◌&◌
-- ---- what an object is read as

abbrev pub token_of : Object → Token
token_of (name w) = NameToken
token_of (text w) = StringToken
token_of (number z) = RegularToken
token_of (whole n) = RegularToken
token_of opens = ArrayOpen
token_of closes = ArrayClose
token_of begins = DictOpen
token_of ends = DictClose

-- the number, and the name or string that was read last: w where this is neither
abbrev pub number_in : Object → Number
number_in (name w) = none
number_in (text w) = none
number_in (number z) = in_millionths z
number_in (whole n) = in_ones n
number_in opens = none
number_in closes = none
number_in begins = none
number_in ends = none

abbrev pub word_in : Object → Word → Word
word_in (name v) w = word (length v) v
word_in (text v) w = word (length v) v
word_in (number z) w = w
word_in (whole n) w = w
word_in opens w = w
word_in closes w = w
word_in begins w = word 0 []
word_in ends w = w

-- where the lexer stands when it hands on the token
abbrev pub read_scan : Object → Word → ℕ → Scan
read_scan o w k = scan Gap (number_in o) (word_in o w) (k + length (bare o)) k

-- all objects of a list can be written
pub data AllWritable : List Object → Type 0 where
  no_more : AllWritable []
  ◌&◌ : {o : Object} {os : List Object} → writable o ≡ true → AllWritable os → AllWritable (o ∷ os)

-- ---- numbers are regular characters

abbrev Regulars : List ℕ → Type 0
Regulars [] = Unit
Regulars (b ∷ bs) = (regular b ≡ true) × Regulars bs

regulars-append : (xs ys : List ℕ) → Regulars xs → Regulars ys → Regulars (xs ++ ys)
regulars-append [] ys p q = q
regulars-append (x ∷ xs) ys p q = (p.0, regulars-append xs ys p.1 q)

figures-regular : (ds : List ℕ) → Figures ds → Regulars ds
figures-regular [] f = tt
figures-regular (d ∷ ds) f =
    let h = f.0 in
    (regular-in d (omega arith) (omega arith) (λ e. omega arith) (λ e. omega arith) (λ e. omega arith), figures-regular ds f.1)

point : regular 46 ≡ true
unfolding regular white delimiter
point = refl

minus : regular 45 ≡ true
unfolding regular white delimiter
minus = refl

parts-regular : (q n : ℕ) → Regulars (digits q ++ (46 ∷ last_digits 6 n))
parts-regular q n =
    regulars-append (digits q) (46 ∷ last_digits 6 n) (figures-regular (digits q) (digits-figures q))
    (point, figures-regular (last_digits 6 n) (six-figures n))

decimal-regular : (z : ℤ) → Regulars (decimal z)
unfolding decimal
decimal-regular (pos n) = parts-regular (n / 1000000) n
decimal-regular (negsuc n) = (minus, parts-regular (suc n / 1000000) (suc n))

decimal-some : (z : ℤ) → 0 < length (decimal z)
unfolding decimal
decimal-some (pos n) =
    omega (arith, (digits_decimal (n / 1000000)).some, length-append (digits (n / 1000000)) (46 ∷ last_digits 6 n))
decimal-some (negsuc n) = omega arith

-- ---- runs of bytes

grown-word : (size x : ℕ) (l : List ℕ) → size < 1024 → grown (word size l) x ≡ word (size + 1) (l ++ (x ∷ []))
unfolding more
grown-word size x l h = rw (lt-ltb size 1024 h, lt-ltb size 4294967295 (omega arith))

-- the same place, told in another way
same-scan : (m : Mode) (n : Number) {w v : Word} {k j : ℕ} (f : ℕ) → w ≡ v → k ≡ j → scan m n w k f ≡ scan m n v j f
same-scan m n f p q = λ i. scan m n (p i) (q i) f

hex-byte : (x : ℕ) → x ≤ 255 → hex_byte (x / 16) (x % 16) ≡ x
hex-byte x h = omega arith

module _ {A : Type 0} (took : A → Scan → Token → Taken A) where
  figures : (bs : List ℕ) → Regulars bs → (a : A) (n : Number) (w : Word) (k f : ℕ) → k + length bs ≤ bound
      → fed took (going (scan Regular n w k f) a) bs ≡ going (scan Regular (foldl with_figure n bs) w (k + length bs) f) a
  unfolding fed
  figures [] r a n w k f h = let e : k ≡ k + 0 = omega arith in ap (λ (s : Scan). going s a) (same-scan Regular n f refl e)
  figures (b ∷ bs) r a n w k f h =
      let e : k + 1 + length bs ≡ k + suc (length bs) = omega arith in
      ap (λ (p : Progress A). fed took p bs) (next-figure took a n w k f (omega arith) b r.0)
      ∙ figures bs r.1 a (with_figure n b) w (k + 1) f (omega arith)
      ∙ ap (λ (s : Scan). going s a) (same-scan Regular (foldl with_figure n (b ∷ bs)) f refl e)

  -- a token of regular characters, and a space
  regular-token : (bs : List ℕ) → 0 < length bs → Regulars bs → (a : A) (n : Number) (w : Word) (k f : ℕ) → k + length bs < bound
      → fed took (going (scan Gap n w k f) a) (bs ++ (32 ∷ []))
      ≡ after_space true
      (taken (scan Gap (foldl with_figure none bs) w (k + length bs) k) (took a (scan Gap (foldl with_figure none bs) w (k + length bs) k) RegularToken))
  unfolding fed
  regular-token [] some r a n w k f h = absurd (omega arith)
  regular-token (b ∷ bs) some r a n w k f h =
      let e : k + 1 + length bs ≡ k + suc (length bs) = omega arith in
      sym (fed-append took (going (scan Gap n w k f) a) (b ∷ bs) (32 ∷ []))
      ∙ ap (λ (p : Progress A). fed took p (32 ∷ []))
      (ap (λ (p : Progress A). fed took p bs) (first-figure took a n w k f (omega arith) b r.0)
      ∙ figures bs r.1 a (with_figure none b) w (k + 1) k (omega arith)
      ∙ ap (λ (s : Scan). going s a) (same-scan Regular (foldl with_figure none (b ∷ bs)) k refl e))
      ∙ figure-end took (foldl with_figure none (b ∷ bs)) w (k + suc (length bs)) k (omega arith) a

  -- bytes that are each written in some way: a word grows by them
  module _ (m : Mode) (way : ℕ → List ℕ) (lo : ℕ)
      (one : (x : ℕ) → lo ≤ x → x ≤ 255 → (a : A) (w : Word) (k f : ℕ) → k + length (way x) ≤ bound
      → fed took (going (scan m none w k f) a) (way x) ≡ going (scan m none (grown w x) (k + length (way x)) f) a) where
    bytes : (v : List ℕ) → bytes_from lo v ≡ true → (a : A) (size : ℕ) (l : List ℕ) (k f : ℕ) → size + length v ≤ 1024 → k + length (each way v) ≤ bound
        → fed took (going (scan m none (word size l) k f) a) (each way v)
        ≡ going (scan m none (word (size + length v) (l ++ v)) (k + length (each way v)) f) a
    unfolding fed
    bytes [] b a size l k f h q =
        let e : k ≡ k + 0 = omega arith in
        let s : size ≡ size + 0 = omega arith in
        ap (λ (s : Scan). going s a) (same-scan m none f (λ i. word (s i) (sym (append-nil l) i)) e)
    bytes (x ∷ v) b a size l k f h q =
        let this = and_left (leb lo x && leb x 255) (bytes_from lo v) b in
        let low = leb-true lo x (and_left (leb lo x) (leb x 255) this) in
        let high = leb-true x 255 (and_right (leb lo x) (leb x 255) this) in
        let all = length-append (way x) (each way v) in
        let s : size + 1 + length v ≡ size + suc (length v) = omega arith in
        let e : k + length (way x) + length (each way v) ≡ k + length (way x ++ each way v) = omega arith in
        sym (fed-append took (going (scan m none (word size l) k f) a) (way x) (each way v))
        ∙ ap (λ (p : Progress A). fed took p (each way v))
        (one x low high a (word size l) k f (omega arith)
        ∙ ap (λ (w : Word). going (scan m none w (k + length (way x)) f) a) (grown-word size x l (omega arith)))
        ∙ bytes v (and_right (leb lo x && leb x 255) (bytes_from lo v) b) a (size + 1) (l ++ (x ∷ [])) (k + length (way x)) f (omega arith) (omega arith)
        ∙ ap (λ (s : Scan). going s a) (same-scan m none f (λ i. word (s i) (append_assoc l (x ∷ []) v i)) e)

  -- a byte of a name
  module _ (x : ℕ) (a : A) (w : Word) (k f : ℕ) where
    name-plain : plain x ≡ true → k + 1 ≤ bound → fed took (going (scan Name none w k f) a) (x ∷ []) ≡ going (scan Name none (grown w x) (k + 1) f) a
    unfolding fed
    name-plain e h =
        let r = and_left (regular x) _ e in
        let t = and_right (leb x 126) _ (and_right (leb 33 x) _ (and_right (regular x) _ e)) in
        plain_byte took a none w k f (omega arith) x r (not-true (eqb x 35) t)

    name-hash : 1 ≤ x → x ≤ 255 → k + 3 ≤ bound
        → fed took (going (scan Name none w k f) a) (35 ∷ pair x) ≡ going (scan Name none (grown w x) (k + 3) f) a
    unfolding fed pair
    name-hash low high h =
        let o : hex_byte (x / 16) (x % 16) ≡ 0 → ⊥ = λ e. omega (arith, hex-byte x high) in
        let e : k + 1 + 1 + 1 ≡ k + 3 = omega arith in
        ap (λ (p : Progress A). fed took p (pair x)) (hash took a none w k f (omega arith))
        ∙ ap (λ (p : Progress A). fed took p (hex_digit (x % 16) ∷ []))
        (hash-digit took a none w (k + 1) f (omega arith) (x / 16) (hex_digit (x / 16)) (omega arith) (hex-digit (x / 16) (omega arith)))
        ∙ hash-pair took a none w (k + 1 + 1) f (omega arith) (x / 16) (x % 16) (hex_digit (x % 16)) (omega arith) (hex-digit (x % 16) (omega arith)) (ne_eqb (hex_byte (x / 16) (x % 16)) 0 o)
        ∙ ap (λ (s : Scan). going s a) (same-scan Name none f (ap (grown w) (hex-byte x high)) e)

    hex-pair : x ≤ 255 → k + 2 ≤ bound → fed took (going (scan Hex none w k f) a) (pair x) ≡ going (scan Hex none (grown w x) (k + 2) f) a
    unfolding fed pair
    hex-pair high h =
        let e : k + 1 + 1 ≡ k + 2 = omega arith in
        ap (λ (p : Progress A). fed took p (hex_digit (x % 16) ∷ []))
        (hex-first took a none w k f (omega arith) (x / 16) (hex_digit (x / 16)) (omega arith) (hex-digit (x / 16) (omega arith)))
        ∙ hex-second took a none w (k + 1) f (omega arith) (x / 16) (x % 16) (hex_digit (x % 16)) (omega arith) (hex-digit (x % 16) (omega arith))
        ∙ ap (λ (s : Scan). going s a) (same-scan Hex none f (ap (grown w) (hex-byte x high)) e)

  name-byte : (x : ℕ) → 1 ≤ x → x ≤ 255 → (a : A) (w : Word) (k f : ℕ) → k + length (name_byte x) ≤ bound
      → fed took (going (scan Name none w k f) a) (name_byte x) ≡ going (scan Name none (grown w x) (k + length (name_byte x)) f) a
  unfolding name_byte pair
  name-byte x low high a w k f =
      cond_ind
      (λ (l : List ℕ). k + length l ≤ bound → fed took (going (scan Name none w k f) a) l ≡ going (scan Name none (grown w x) (k + length l) f) a)
      (plain x) (λ e h. name-plain x a w k f e h) (λ e h. name-hash x a w k f low high h)

  text-byte : (x : ℕ) → 0 ≤ x → x ≤ 255 → (a : A) (w : Word) (k f : ℕ) → k + length (pair x) ≤ bound
      → fed took (going (scan Hex none w k f) a) (pair x) ≡ going (scan Hex none (grown w x) (k + length (pair x)) f) a
  unfolding pair
  text-byte x low high a w k f h = hex-pair x a w k f high h

  -- ---- one object

  abbrev pub step_object : Progress A → Object → Progress A
  step_object (going s a) o = after_space (spaced o) (taken (read_scan o s.word s.seen) (took a (read_scan o s.word s.seen) (token_of o)))
  step_object (stopped n at) o = stopped n at

  -- from here a token of this sort is handed on
  abbrev hands_on : A → Token → Scan → Progress A
  hands_on a t s = taken s (took a s t)

  module _ (a : A) (n : Number) (w : Word) (k f : ℕ) where
    name-object : (v : List ℕ) → writable (name v) ≡ true → k + length (written (name v)) ≤ bound
        → fed took (going (scan Gap n w k f) a) (written (name v)) ≡ step_object (going (scan Gap n w k f) a) (name v)
    unfolding fed bare
    name-object v ok h =
        let few = leb-true (length v) 1024 (and_right (bytes_from 1 v) (leb (length v) 1024) ok) in
        let all = length-append (each name_byte v) (32 ∷ []) in
        let e : k + 1 + length (each name_byte v) ≡ k + suc (length (each name_byte v)) = omega arith in
        let z : 0 + length v ≡ length v = omega arith in
        sym (fed-append took (going (scan Gap n w k f) a) (47 ∷ each name_byte v) (32 ∷ []))
        ∙ ap (λ (p : Progress A). fed took p (32 ∷ []))
        (ap (λ (p : Progress A). fed took p (each name_byte v)) (slash took a n w k f (omega arith))
        ∙ bytes Name name_byte 1 name-byte v (and_left (bytes_from 1 v) (leb (length v) 1024) ok) a 0 [] (k + 1) k (omega arith) (omega arith)
        ∙ ap (λ (s : Scan). going s a) (same-scan Name none k (ap (λ (x : ℕ). word x v) z) e))
        ∙ name-end took none (word (length v) v) (k + suc (length (each name_byte v))) k (omega arith) a

    -- a string goes on after its <
    text-on : (v : List ℕ) → bytes_from 0 v ≡ true → k < bound
        → fed took (going (scan Less none w k f) a) (each pair v ++ (62 ∷ [])) ≡ fed took (going (scan Hex none w k f) a) (each pair v ++ (62 ∷ []))
    unfolding fed pair
    text-on [] b h = less-hex took a none w k f h 62 refl
    text-on (x ∷ v) b h =
        let high = leb-true x 255 (and_right (leb 0 x) (leb x 255) (and_left (leb 0 x && leb x 255) (bytes_from 0 v) b)) in
        ap (λ (p : Progress A). fed took p (hex_digit (x % 16) ∷ (each pair v ++ (62 ∷ []))))
        (less-hex took a none w k f h (hex_digit (x / 16)) (hex-digit (x / 16) (omega arith)).not-less)

    number-token : (bs : List ℕ) {i : Number} → 0 < length bs → Regulars bs → foldl with_figure none bs ≡ i → k + length (bs ++ (32 ∷ [])) ≤ bound
        → fed took (going (scan Gap n w k f) a) (bs ++ (32 ∷ [])) ≡ after_space true (hands_on a RegularToken (scan Gap i w (k + length bs) k))
    number-token bs some r e h =
        let all = length-append bs (32 ∷ []) in
        regular-token bs some r a n w k f (omega arith)
        ∙ ap (λ (x : Number). after_space true (hands_on a RegularToken (scan Gap x w (k + length bs) k))) e

    two-seen : (t : Token) (m : Number) (v : Word) → hands_on a t (scan Gap m v (k + 1 + 1) k) ≡ hands_on a t (scan Gap m v (k + 2) k)
    two-seen t m v = let e : k + 1 + 1 ≡ k + 2 = omega arith in ap (hands_on a t) (same-scan Gap m k refl e)

  module _ (a : A) (n : Number) (w : Word) (k f : ℕ) where
    text-object : (v : List ℕ) → writable (text v) ≡ true → k + length (written (text v)) ≤ bound
        → fed took (going (scan Gap n w k f) a) (written (text v)) ≡ step_object (going (scan Gap n w k f) a) (text v)
    unfolding fed bare
    text-object v ok h =
        let b = and_left (bytes_from 0 v) (leb (length v) 1024) ok in
        let few = leb-true (length v) 1024 (and_right (bytes_from 0 v) (leb (length v) 1024) ok) in
        let all = length-append (each pair v) (62 ∷ []) in
        let no = append-nil (60 ∷ (each pair v ++ (62 ∷ []))) in
        let same = ap length no in
        let e : k + 1 + length (each pair v) + 1 ≡ k + suc (length (each pair v ++ (62 ∷ []))) = omega arith in
        let z : 0 + length v ≡ length v = omega arith in
        ap (fed took (going (scan Gap n w k f) a)) no
        ∙ ap (λ (p : Progress A). fed took p (each pair v ++ (62 ∷ []))) (less took a n w k f (omega arith))
        ∙ text-on a n (word 0 []) (k + 1) k v b (omega arith)
        ∙ sym (fed-append took (going (scan Hex none (word 0 []) (k + 1) k) a) (each pair v) (62 ∷ []))
        ∙ ap (λ (p : Progress A). fed took p (62 ∷ [])) (bytes Hex pair 0 text-byte v b a 0 [] (k + 1) k (omega arith) (omega arith))
        ∙ hex-end took a none (word (0 + length v) v) (k + 1 + length (each pair v)) k (omega arith)
        ∙ ap (hands_on a StringToken) (same-scan Gap none k (ap (λ (x : ℕ). word x v) z) e)

    pub object-read : (o : Object) → writable o ≡ true → k + length (written o) ≤ bound
        → fed took (going (scan Gap n w k f) a) (written o) ≡ step_object (going (scan Gap n w k f) a) o
    unfolding fed bare
    object-read (name v) ok h = name-object a n w k f v ok h
    object-read (text v) ok h = text-object v ok h
    object-read (number z) ok h = number-token a n w k f (decimal z) (decimal-some z) (decimal-regular z) (number_read z ok) h
    object-read (whole x) ok h =
        number-token a n w k f (digits x) (digits_decimal x).some (figures-regular (digits x) (digits-figures x)) (whole-read x (leb-true x 2147 ok)) h
    object-read opens ok h = bracket took a n w k f (omega arith)
    object-read closes ok h = unbracket took a n w k f (omega arith)
    object-read begins ok h =
        ap (λ (p : Progress A). fed took p (60 ∷ [])) (less took a n w k f (omega arith))
        ∙ less-less took a none (word 0 []) (k + 1) k (omega arith)
        ∙ two-seen a n w k f DictOpen none (word 0 [])
    object-read ends ok h =
        ap (λ (p : Progress A). fed took p (62 ∷ [])) (greater took a n w k f (omega arith))
        ∙ greater-greater took a none w (k + 1) k (omega arith)
        ∙ two-seen a n w k f DictClose none w

  -- ---- a list of objects

  objects-stopped : (n at : ℕ) (os : List Object) → foldl step_object (stopped n at) os ≡ stopped n at
  objects-stopped n at [] = refl
  objects-stopped n at (o ∷ os) = objects-stopped n at os

  module _ (os : List Object)
      (next : (a : A) (n : Number) (w : Word) (k f : ℕ) → k + length (each written os) ≤ bound
      → fed took (going (scan Gap n w k f) a) (each written os) ≡ foldl step_object (going (scan Gap n w k f) a) os) where
    onward : (t : Bool) (n : Number) (w : Word) (k f : ℕ) (r : Taken A) → k + length (blank t) + length (each written os) ≤ bound
        → fed took (after_space t (taken (scan Gap n w k f) r)) (each written os) ≡ foldl step_object (after_space t (taken (scan Gap n w k f) r)) os
    unfolding taken
    onward true n w k f (takes a) h = next a none w (k + 1) k h
    onward true n w k f (refuses x) h = fed-stopped took x f (each written os) ∙ sym (objects-stopped x f os)
    onward false n w k f (takes a) h = next a n w k f (omega arith)
    onward false n w k f (refuses x) h = fed-stopped took x f (each written os) ∙ sym (objects-stopped x f os)

  pub objects-read : (os : List Object) → AllWritable os → (a : A) (n : Number) (w : Word) (k f : ℕ) → k + length (each written os) ≤ bound
      → fed took (going (scan Gap n w k f) a) (each written os) ≡ foldl step_object (going (scan Gap n w k f) a) os
  unfolding fed
  objects-read [] no_more a n w k f h = refl
  objects-read (o ∷ os) (ok & all) a n w k f h =
      let both = length-append (written o) (each written os) in
      let own = length-append (bare o) (blank (spaced o)) in
      sym (fed-append took (going (scan Gap n w k f) a) (written o) (each written os))
      ∙ ap (λ (p : Progress A). fed took p (each written os)) (object-read a n w k f o ok (omega arith))
      ∙ onward os (objects-read os all) (spaced o) (number_in o) (word_in o w) (k + length (bare o)) k
      (took a (read_scan o w k) (token_of o)) (omega arith)

  -- ---- how many bytes were read

  abbrev seen_of : Progress A → ℕ
  seen_of (going s a) = s.seen
  seen_of (stopped n at) = 0

  never : {C : Type 0} (n at : ℕ) (s : Scan) (a : A) → stopped n at ≡ going s a → C
  never n at s a e = let z : ◌≡◌ {A = ℕ} 0 1 = cc in absurd (omega arith)

  next-seen : (os : List Object) (t : Bool) (n : Number) (w : Word) (k f : ℕ) (r : Taken A) (s : Scan) (a : A)
      → foldl step_object (after_space t (taken (scan Gap n w k f) r)) os ≡ going s a → seen_of (after_space t (taken (scan Gap n w k f) r)) ≡ k + length (blank t)
  unfolding taken
  next-seen os true n w k f (takes b) s a e = refl
  next-seen os true n w k f (refuses x) s a e = never x f s a (sym (objects-stopped x f os) ∙ e)
  next-seen os false n w k f (takes b) s a e = omega arith
  next-seen os false n w k f (refuses x) s a e = never x f s a (sym (objects-stopped x f os) ∙ e)

  pub objects-seen : (os : List Object) (p : Progress A) (s : Scan) (a : A) → foldl step_object p os ≡ going s a → seen_of p + length (each written os) ≡ s.seen
  objects-seen [] p s a e = let h = ap seen_of e in omega arith
  objects-seen (o ∷ os) (stopped n at) s a e = never n at s a (sym (objects-stopped n at os) ∙ e)
  objects-seen (o ∷ os) (going s₀ a₀) s a e =
      let r = took a₀ (read_scan o s₀.word s₀.seen) (token_of o) in
      let this = next-seen os (spaced o) (number_in o) (word_in o s₀.word) (s₀.seen + length (bare o)) s₀.seen r s a e in
      let rest = objects-seen os (step_object (going s₀ a₀) o) s a e in
      let both = length-append (written o) (each written os) in
      let own = length-append (bare o) (blank (spaced o)) in
      omega arith
