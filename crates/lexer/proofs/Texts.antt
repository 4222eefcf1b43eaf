-- A text in parts is the text; a refusal stays; and reading on from token to token is the fold over the bytes.
use mathlib.Core.Path.{◌≡◌, refl, sym, ap, ◌∙◌}
use mathlib.Core.Bool.{Bool, true, false, cond, true≢false}
use mathlib.Core.List.{List, [], ◌∷◌, ◌++◌, foldl, foldl-append}
use Prim.Native.Nat.{ℕ, suc, ◌+◌, ◌*◌, ◌≤◌}
use native.Mathlib.Omega.{arith}
use lib.Dec.{eqb, ltb}
use lib.ListN.{length}
use Rattle.fixed.proofs.Decide.{cond_ind}
use Rattle.lexer.specs.Moves.{is_gap, ended, quiet, emit, whole, bad}
use Rattle.lexical.specs.Chars.{regular, octal, hex_byte}
use Rattle.lexer.specs.Scans.{Scan, Taken, takes, refuses, Progress, going, stopped, bound, after, moved_by, met_by, is_nothing, ended_scan, ended_met, joined_scan, joined_met, taken, handed, joins, step_of, fed, whole_of, found, Finding, finding}
use Rattle.lexer.specs.declared.types.Mode.{Mode}
use Rattle.lexer.specs.declared.types.Mode.TheVariants.{Gap, Comment, Regular, Name, Hash, HashDigit, Less, Greater, Hex, HexDigit, Text, Return, Escape, Octal, Octals}
use Rattle.lexer.specs.declared.types.Event.{Event}
use Rattle.lexer.specs.declared.types.Event.TheVariants.{Quiet, Byte, Figure, WellMade, Bad}
use Rattle.lexer.specs.declared.types.Token.{Token}
use Rattle.lexer.specs.declared.types.Token.TheVariants.{NameToken, RegularToken}
use Rattle.lexer.specs.declared.types.Move.{Move}
use Rattle.lexer.specs.declared.types.Met.{Met}
use Rattle.lexer.specs.declared.types.Met.TheVariants.{Nothing, Complete, Wrong, Past}

-- a completed token leaves the lexer between tokens
record Closes (v : Move) : Type 0 where
  gap : (t : Token) → met_by v.event ≡ Complete t → v.mode ≡ Gap

not-met : {m : Mode} (t : Token) → Nothing ≡ Complete t → m ≡ Gap
not-met t e = let z : ◌≡◌ {A = ℕ} 0 1 = cc in absurd (omega arith)

quiet-closes : (m : Mode) → Closes (quiet m)
quiet-closes m = record { gap = λ t e. not-met t e }

emit-closes : (m : Mode) (x : ℕ) → Closes (emit m x)
emit-closes m x = record { gap = λ t e. not-met t e }

bad-closes : Closes bad
bad-closes = record { gap = λ t e. refl }

whole-closes : (u : Token) → Closes (whole u)
whole-closes u = record { gap = λ t e. refl }

one_of : (x : Bool) {v w : Move} → Closes v → Closes w → Closes (cond x v w)
one_of x p q = cond_ind Closes x (λ _. p) (λ _. q)

ended-closes : (m : Mode) (b : ℕ) → Closes (ended m b)
unfolding ended
ended-closes Gap b = quiet-closes Gap
ended-closes Comment b = quiet-closes Comment
ended-closes Regular b = one_of (regular b) (quiet-closes Regular) (whole-closes RegularToken)
ended-closes Name b = one_of (regular b) (quiet-closes Name) (whole-closes NameToken)
ended-closes Hash b = one_of (regular b) (quiet-closes Hash) bad-closes
ended-closes (HashDigit d) b = one_of (regular b) (quiet-closes (HashDigit d)) bad-closes
ended-closes Less b = one_of (eqb b 60) (quiet-closes Less) (quiet-closes Hex)
ended-closes Greater b = one_of (eqb b 62) (quiet-closes Greater) bad-closes
ended-closes Hex b = quiet-closes Hex
ended-closes (HexDigit d) b = one_of (eqb b 62) (emit-closes Hex (hex_byte d 0)) (quiet-closes (HexDigit d))
ended-closes (Text d) b = quiet-closes (Text d)
ended-closes (Return d) b = one_of (eqb b 10) (quiet-closes (Return d)) (quiet-closes (Text d))
ended-closes (Escape d) b = quiet-closes (Escape d)
ended-closes (Octal d v) b = one_of (octal b) (quiet-closes (Octal d v)) (emit-closes (Text d) v)
ended-closes (Octals d v) b = one_of (octal b) (quiet-closes (Octals d v)) (emit-closes (Text d) v)

after-mode : (s : Scan) (m : Mode) (e : Event) → (after s m e).mode ≡ m
unfolding after
after-mode s m Quiet = refl
after-mode s m (Byte x) = refl
after-mode s m (Figure b) = refl
after-mode s m (WellMade t) = refl
after-mode s m Bad = refl

after-seen : (s : Scan) (m : Mode) (e : Event) → (after s m e).seen ≡ s.seen
unfolding after
after-seen s m Quiet = refl
after-seen s m (Byte x) = refl
after-seen s m (Figure b) = refl
after-seen s m (WellMade t) = refl
after-seen s m Bad = refl

nothing : (m : Met) → is_nothing m ≡ true → m ≡ Nothing
nothing Nothing e = refl
nothing (Complete t) e = let z : ◌≡◌ {A = ℕ} 0 1 = cc in absurd (omega arith)
nothing Wrong e = let z : ◌≡◌ {A = ℕ} 0 1 = cc in absurd (omega arith)
nothing Past e = let z : ◌≡◌ {A = ℕ} 0 1 = cc in absurd (omega arith)

-- between tokens a byte ends nothing
module _ (s : Scan) (b : ℕ) (gap : s.mode ≡ Gap) where
  gap_ends : ended_scan s b ≡ s
  unfolding ended after
  gap_ends =
      ap (λ (m : Mode). moved_by s (ended m b)) gap
      ∙ (λ i. record { mode = sym gap i; number = s.number; word = s.word; seen = s.seen; first = s.first })

  gap_meets : ended_met s b ≡ Nothing
  unfolding ended
  gap_meets = ap (λ (m : Mode). met_by (ended m b).event) gap

module _ {A : Type 0} (took : A → Scan → Token → Taken A) where
  pub fed-append : (p : Progress A) (k l : List ℕ) → fed took (fed took p k) l ≡ fed took p (k ++ l)
  unfolding fed
  fed-append p k l = sym (foldl-append (step_of took) p k l)

  -- however a text is cut into parts, it comes to what the whole text comes to
  pub fed-parts : (p : Progress A) (ps : List (List ℕ)) → foldl (fed took) p ps ≡ fed took p (whole_of ps)
  unfolding whole_of fed
  fed-parts p [] = refl
  fed-parts p (l ∷ ps) = fed-parts (fed took p l) ps ∙ sym (foldl-append (step_of took) p l (whole_of ps))

  -- a refusal once met stays
  pub fed-stopped : (n at : ℕ) (l : List ℕ) → fed took (stopped n at) l ≡ stopped n at
  unfolding fed step_of
  fed-stopped n at [] = refl
  fed-stopped n at (b ∷ l) = fed-stopped n at l

  -- a byte that ended a token may be read again, since it then ends nothing
  again : (s : Scan) (b : ℕ) (r : Taken A) → s.mode ≡ Gap → ltb s.seen bound ≡ true
      → joins took b (taken s r) ≡ step_of took (taken s r) b
  unfolding joins taken step_of handed
  again s b (takes a) gap few =
      sym (rw few ((λ i. joins took b (handed took a (gap_ends s b gap i) (gap_meets s b gap i)))))
  again s b (refuses n) gap few = refl

  ended-again : (s : Scan) (a : A) (b : ℕ) (m : Met) → ltb s.seen bound ≡ true → ((t : Token) → m ≡ Complete t → s.mode ≡ Gap) → is_nothing m ≡ false
      → joins took b (handed took a s m) ≡ step_of took (handed took a s m) b
  unfolding handed joins step_of
  ended-again s a b Nothing few gap e = let z : ◌≡◌ {A = ℕ} 0 1 = cc in absurd (omega arith)
  ended-again s a b (Complete t) few gap e = again s b (took a s t) (gap t refl) few
  ended-again s a b Wrong few gap e = refl
  ended-again s a b Past few gap e = refl

  -- what is found in a part is handed on, and what is left of the part is read
  abbrev onward : A → Finding → Progress A
  onward a f = fed took (handed took a f.scan f.met) f.rest

  module _ (s : Scan) (a : A) (b : ℕ) (l : List ℕ) where
    abbrev e : Scan
    e = ended_scan s b

    abbrev j : Scan
    j = joined_scan e b

    module _ (next : fed took (going j a) l ≡ onward a (found j l)) where
      by-joined : (t : Bool) → is_nothing (joined_met e b) ≡ t
          → fed took (handed took a j (joined_met e b)) l ≡ onward a (cond t (found j l) (finding j (joined_met e b) l))
      unfolding handed
      by-joined true g = ap (λ (m : Met). fed took (handed took a j m) l) (nothing (joined_met e b) g) ∙ next
      by-joined false g = refl

      by-ended : ltb s.seen bound ≡ true → (t : Bool) → is_nothing (ended_met s b) ≡ t
          → fed took (joins took b (handed took a e (ended_met s b))) l
          ≡ onward a (cond t (cond (is_nothing (joined_met e b)) (found j l) (finding j (joined_met e b) l)) (finding e (ended_met s b) (b ∷ l)))
      unfolding handed joins fed
      by-ended h true g =
          ap (λ (m : Met). fed took (joins took b (handed took a e m)) l) (nothing (ended_met s b) g)
          ∙ by-joined (is_nothing (joined_met e b)) refl
      by-ended h false g =
          ap (λ (p : Progress A). fed took p l)
          (ended-again e a b (ended_met s b) (ap (λ (n : ℕ). ltb n bound) (after-seen s (ended s.mode b).mode (ended s.mode b).event) ∙ h)
          (λ t q. after-mode s (ended s.mode b).mode (ended s.mode b).event ∙ (ended-closes s.mode b).gap t q) g)

      by-bound : (t : Bool) → ltb s.seen bound ≡ t
          → fed took (cond t (joins took b (handed took a e (ended_met s b))) (stopped 12 s.seen)) l
          ≡ onward a
          (cond t
          (cond (is_nothing (ended_met s b))
          (cond (is_nothing (joined_met e b)) (found j l) (finding j (joined_met e b) l))
          (finding e (ended_met s b) (b ∷ l)))
          (finding s Past (b ∷ l)))
      unfolding handed fed step_of
      by-bound true h = by-ended h (is_nothing (ended_met s b)) refl
      by-bound false h = refl

  pub found-fed : (s : Scan) (a : A) (l : List ℕ) → fed took (going s a) l ≡ onward a (found s l)
  unfolding fed found handed step_of
  found-fed s a [] = refl
  found-fed s a (b ∷ l) = by-bound s a b l (found-fed (joined_scan (ended_scan s b) b) a l) (ltb s.seen bound) refl

-- ---- from token to token the part that is left gets shorter, or the lexer, which stood within a token, comes to stand between two

-- how much is open
abbrev pub pending : Mode → ℕ
pending m = cond (is_gap m) 0 1

pub pending-few : (m : Mode) → pending m ≤ 1
pending-few m = go (is_gap m)
  where
    go : (t : Bool) → cond t 0 1 ≤ 1
    go true = omega arith
    go false = omega arith

-- between tokens a byte completes none that it is no part of
ended-open : (m : Mode) (b : ℕ) (t : Token) → met_by (ended m b).event ≡ Complete t → pending m ≡ 1
unfolding ended
ended-open Gap b t e = let z : ◌≡◌ {A = ℕ} 0 1 = cc in absurd (omega arith)
ended-open Comment b t e = refl
ended-open Regular b t e = refl
ended-open Name b t e = refl
ended-open Hash b t e = refl
ended-open (HashDigit d) b t e = refl
ended-open Less b t e = refl
ended-open Greater b t e = refl
ended-open Hex b t e = refl
ended-open (HexDigit d) b t e = refl
ended-open (Text d) b t e = refl
ended-open (Return d) b t e = refl
ended-open (Escape d) b t e = refl
ended-open (Octal d v) b t e = refl
ended-open (Octals d v) b t e = refl

record Falls (n : ℕ) (f : Finding) : Type 0 where
  falls : (t : Token) → f.met ≡ Complete t → suc (2 * length f.rest + pending f.scan.mode) ≤ n

module _ (s : Scan) (b : ℕ) (l : List ℕ) where
  ended-falls : Falls (2 * suc (length l) + pending s.mode) (finding (ended_scan s b) (ended_met s b) (b ∷ l))
  ended-falls = record {
    falls = λ t e.
        let g : pending (ended_scan s b).mode ≡ 0 =
        ap pending (after-mode s (ended s.mode b).mode (ended s.mode b).event ∙ (ended-closes s.mode b).gap t e) in
        let o : pending s.mode ≡ 1 = ended-open s.mode b t e in omega arith;
  }

  joined-falls : (j : Scan) (m : Met) → Falls (2 * suc (length l) + pending s.mode) (finding j m l)
  joined-falls j m = record { falls = λ t e. omega (arith, pending-few j.mode) }

  past-falls : Falls (2 * suc (length l) + pending s.mode) (finding s Past (b ∷ l))
  past-falls = record { falls = λ t e. let z : ◌≡◌ {A = ℕ} 0 1 = cc in absurd (omega arith) }

  next-falls : (j : Scan) (f : Finding) → Falls (2 * length l + pending j.mode) f → Falls (2 * suc (length l) + pending s.mode) f
  next-falls j f h = record { falls = λ t e. omega (arith, h.falls t e, pending-few j.mode) }

found-less : (s : Scan) (l : List ℕ) → Falls (2 * length l + pending s.mode) (found s l)
unfolding found
found-less s [] = record { falls = λ t e. let z : ◌≡◌ {A = ℕ} 0 1 = cc in absurd (omega arith) }
found-less s (b ∷ l) =
    let f = ended_scan s b in
    let j = joined_scan f b in
    cond_ind (Falls (2 * suc (length l) + pending s.mode)) (ltb s.seen bound)
    (λ _. cond_ind (Falls (2 * suc (length l) + pending s.mode)) (is_nothing (ended_met s b))
    (λ _. cond_ind (Falls (2 * suc (length l) + pending s.mode)) (is_nothing (joined_met f b))
    (λ _. next-falls s b l j (found j l) (found-less j l))
    (λ _. joined-falls s b l j (joined_met f b)))
    (λ _. ended-falls s b l))
    (λ _. past-falls s b l)

pub found-falls : (s : Scan) (l : List ℕ) (t : Token) → (found s l).met ≡ Complete t
    → suc (2 * length (found s l).rest + pending (found s l).scan.mode) ≤ 2 * length l + pending s.mode
found-falls s l t e = (found-less s l).falls t e

-- where nothing is met, nothing is left
record Empties (f : Finding) : Type 0 where
  empties : f.met ≡ Nothing → f.rest ≡ []

some-met : (m : Met) (l : List ℕ) → is_nothing m ≡ false → m ≡ Nothing → l ≡ []
some-met m l h e = absurd (true≢false (sym (ap is_nothing e) ∙ h))

found-empties : (s : Scan) (l : List ℕ) → Empties (found s l)
unfolding found
found-empties s [] = record { empties = λ e. refl }
found-empties s (b ∷ l) =
    let f = ended_scan s b in
    let j = joined_scan f b in
    cond_ind Empties (ltb s.seen bound)
    (λ _. cond_ind Empties (is_nothing (ended_met s b))
    (λ _. cond_ind Empties (is_nothing (joined_met f b)) (λ _. found-empties j l)
    (λ g. record { empties = λ e. some-met (joined_met f b) l g e }))
    (λ g. record { empties = λ e. some-met (ended_met s b) (b ∷ l) g e }))
    (λ _. record { empties = λ e. some-met Past (b ∷ l) refl e })

pub found_nothing : (s : Scan) (l : List ℕ) → (found s l).met ≡ Nothing → (found s l).rest ≡ []
found_nothing s l e = (found-empties s l).empties e
