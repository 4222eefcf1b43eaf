-- What is written of a program is read as that program.
use mathlib.Core.Path.{◌≡◌, refl, sym, ap, ◌∙◌}
use mathlib.Core.List.{List, [], ◌∷◌, ◌++◌}
use Prim.Native.Nat.{ℕ, zero, suc, ◌+◌, ◌≤◌, ◌<◌}
use native.Mathlib.Omega.{arith}
use lib.IntN.{ℤ}
use lib.ListN.{length}
use borrow.Author.Tests.{lt-ltb}
use Rattle.stack.specs.Programs.{Op, number, copy, index, roll, two, one, constant, pop, exch, dup, Code, done, act, when, either}
use Rattle.symbols.specs.Tokens.{Token, opens, closes, if_t, ifelse_t, op_t}
use Rattle.program.specs.Parse.{Count, whole!, counting, rolling, joined, ended, no_pair, one_pair, two_pairs, Held, nothing, last, last_two, Level, level, State, within, whole, flushed, closed, token_at, token, tokens, parsed}
use Rattle.program.specs.Spelling.{op_tokens, spelled, written, Within}

joined-assoc : (a b c : Code) → joined (joined a b) c ≡ joined a (joined b c)
unfolding joined
joined-assoc done b c = refl
joined-assoc (act o a) b c = ap (act o) (joined-assoc a b c)
joined-assoc (when x a) b c = ap (when x) (joined-assoc a b c)
joined-assoc (either x y a) b c = ap (either x y) (joined-assoc a b c)

joined-done : (a : Code) → joined a done ≡ a
unfolding joined
joined-done done = refl
joined-done (act o a) = ap (act o) (joined-done a)
joined-done (when x a) = ap (when x) (joined-done a)
joined-done (either x y a) = ap (either x y) (joined-done a)

tokens_append : (w : ℤ → Count) (s : State) (ts us : List Token) → tokens w s (ts ++ us) ≡ tokens w (tokens w s ts) us
unfolding tokens
tokens_append w s [] us = refl
tokens_append w s (t ∷ ts) us = tokens_append w (token w s t) ts us

-- the tokens lead from s to the level that has c, its last numbers held
pub record Read (w : ℤ → Count) (s : State) (ts : List Token) (ls : List Level) (c : Code) : Type 0 where
  pub code : Code
  pub last-two : Held
  pub path : tokens w s ts ≡ within ls (level code no_pair last-two)
  pub is : flushed code last-two ≡ c

module _ (w : ℤ → Count) (m : ℤ → ℤ) (wm : (n : ℤ) → w (m n) ≡ whole! n) where
  read_one : (ls : List Level) (d : Code) (h : Held) (o : Op) → Read w (within ls (level d no_pair h)) (op_t o ∷ []) ls (ended (flushed d h) o)
  unfolding tokens token token_at
  read_one ls d h o = record { code = ended (flushed d h) o; last-two = nothing; path = refl; is = refl }

  read-op : (ls : List Level) (d : Code) (h : Held) (o : Op) → Read w (within ls (level d no_pair h)) (op_tokens m o) ls (ended (flushed d h) o)
  unfolding tokens token token_at
  read-op ls d nothing (number z) = record { code = d; last-two = last z; path = refl; is = refl }
  read-op ls d (last x) (number z) = record { code = d; last-two = last_two x z; path = refl; is = refl }
  read-op ls d (last_two x y) (number z) = record { code = ended d (number x); last-two = last_two y z; path = refl; is = refl }
  read-op ls d nothing (copy n) = record { code = ended d (counting copy (w (m n))); last-two = nothing; path = refl; is = ap (λ (k : Count). ended d (counting copy k)) (wm n) }
  read-op ls d (last x) (copy n) = record { code = ended (ended d (number x)) (counting copy (w (m n))); last-two = nothing; path = refl; is = ap (λ (k : Count). ended (ended d (number x)) (counting copy k)) (wm n) }
  read-op ls d (last_two x y) (copy n) = record { code = ended (ended (ended d (number x)) (number y)) (counting copy (w (m n))); last-two = nothing; path = refl; is = ap (λ (k : Count). ended (ended (ended d (number x)) (number y)) (counting copy k)) (wm n) }
  read-op ls d nothing (index n) = record { code = ended d (counting index (w (m n))); last-two = nothing; path = refl; is = ap (λ (k : Count). ended d (counting index k)) (wm n) }
  read-op ls d (last x) (index n) = record { code = ended (ended d (number x)) (counting index (w (m n))); last-two = nothing; path = refl; is = ap (λ (k : Count). ended (ended d (number x)) (counting index k)) (wm n) }
  read-op ls d (last_two x y) (index n) = record { code = ended (ended (ended d (number x)) (number y)) (counting index (w (m n))); last-two = nothing; path = refl; is = ap (λ (k : Count). ended (ended (ended d (number x)) (number y)) (counting index k)) (wm n) }
  read-op ls d nothing (roll n j) = record { code = ended d (rolling (w (m n)) (w (m j))); last-two = nothing; path = refl; is = λ i. ended d (rolling (wm n i) (wm j i)) }
  read-op ls d (last x) (roll n j) = record { code = ended (ended d (number x)) (rolling (w (m n)) (w (m j))); last-two = nothing; path = refl; is = λ i. ended (ended d (number x)) (rolling (wm n i) (wm j i)) }
  read-op ls d (last_two x y) (roll n j) = record { code = ended (ended (ended d (number x)) (number y)) (rolling (w (m n)) (w (m j))); last-two = nothing; path = refl; is = λ i. ended (ended (ended d (number x)) (number y)) (rolling (wm n i) (wm j i)) }
  read-op ls d h (two t) = read_one ls d h (two t)
  read-op ls d h (one o) = read_one ls d h (one o)
  read-op ls d h (constant b) = read_one ls d h (constant b)
  read-op ls d h pop = read_one ls d h pop
  read-op ls d h exch = read_one ls d h exch
  read-op ls d h dup = read_one ls d h dup

  -- one after the other
  read-then : (s : State) (ts us : List Token) (ls : List Level) (c e : Code) (r : Read w s ts ls c) → ((d : Code) (h : Held) → flushed d h ≡ c → Read w (within ls (level d no_pair h)) us ls e) → Read w s (ts ++ us) ls e
  read-then s ts us ls c e r f =
      let q : Read w (within ls (level r.code no_pair r.last-two)) us ls e = f r.code r.last-two r.is in
      record { code = q.code; last-two = q.last-two; path = tokens_append w s ts us ∙ (ap (λ (u : State). tokens w u us) r.path ∙ q.path); is = q.is }

  -- a pair of braces: whatever stands in the level, its program waits there
  pair_read : (s : State) (ts us : List Token) (l : Level) (ls : List Level) (b : Code) → Read w s ts (l ∷ ls) b → tokens w s (ts ++ (closes ∷ us)) ≡ tokens w (closed (l ∷ ls) b) us
  unfolding tokens token token_at
  pair_read s ts us l ls b r = tokens_append w s ts (closes ∷ us) ∙ (ap (λ (u : State). tokens w u (closes ∷ us)) r.path ∙ ap (λ (c : Code). tokens w (closed (l ∷ ls) c) us) r.is)

  opened : (ls : List Level) (d : Code) (h : Held) → length ls < 7 → token w (within ls (level d no_pair h)) opens ≡ within (level (flushed d h) no_pair nothing ∷ ls) (level done no_pair nothing)
  unfolding token token_at
  opened ls d h lt = simp (lt-ltb (length ls) 7 lt)

  opened-two : (ls : List Level) (d a : Code) → length ls < 7 → token w (within ls (level d (one_pair a) nothing)) opens ≡ within (level d (one_pair a) nothing ∷ ls) (level done no_pair nothing)
  unfolding token token_at
  opened-two ls d a lt = simp (lt-ltb (length ls) 7 lt)

  if-read : (ls : List Level) (d b : Code) (us : List Token) → tokens w (within ls (level d (one_pair b) nothing)) (if_t ∷ us) ≡ tokens w (within ls (level (joined d (when b done)) no_pair nothing)) us
  unfolding tokens token token_at
  if-read ls d b us = refl

  ifelse-read : (ls : List Level) (d a b : Code) (us : List Token) → tokens w (within ls (level d (two_pairs a b) nothing)) (ifelse_t ∷ us) ≡ tokens w (within ls (level (joined d (either a b done)) no_pair nothing)) us
  unfolding tokens token token_at
  ifelse-read ls d a b us = refl

  abbrev Reads : Code → Type 0
  Reads c = (n : ℕ) (ls : List Level) (d : Code) (h : Held) → length ls + n ≤ 7 → Within n c → Read w (within ls (level d no_pair h)) (spelled m c) ls (joined (flushed d h) c)

  turned : {s : State} {ts : List Token} {ls : List Level} {c e : Code} → c ≡ e → Read w s ts ls c → Read w s ts ls e
  turned p r = record { code = r.code; last-two = r.last-two; path = r.path; is = r.is ∙ p }

  read-act : (o : Op) (c : Code) → Reads c → Reads (act o c)
  unfolding spelled Within joined
  read-act o c f n ls d h le wi =
      read-then (within ls (level d no_pair h)) (op_tokens m o) (spelled m c) ls (ended (flushed d h) o) (joined (flushed d h) (act o c)) (read-op ls d h o)
      (λ e g q. turned (ap (λ (x : Code). joined x c) q ∙ joined-assoc (flushed d h) (act o done) c) (f n ls e g le wi))

  read-when : (b c : Code) → Reads b → Reads c → Reads (when b c)
  unfolding spelled Within joined tokens
  read-when b c f g zero ls d h le wi = absurd wi
  read-when b c f g (suc n) ls d h le wi =
      let lt : length ls < 7 = omega arith in
      let m₁ : suc (length ls) + n ≤ 7 = omega arith in
      let r : Read w (within (level (flushed d h) no_pair nothing ∷ ls) (level done no_pair nothing)) (spelled m b) (level (flushed d h) no_pair nothing ∷ ls) b = f n (level (flushed d h) no_pair nothing ∷ ls) done nothing m₁ wi.0 in
      let q : Read w (within ls (level (joined (flushed d h) (when b done)) no_pair nothing)) (spelled m c) ls (joined (joined (flushed d h) (when b done)) c) = g (suc n) ls (joined (flushed d h) (when b done)) nothing le wi.1 in
      record {
        code = q.code;
        last-two = q.last-two;
        path = ap (λ (u : State). tokens w u (spelled m b ++ (closes ∷ if_t ∷ spelled m c))) (opened ls d h lt) ∙ (pair_read _ (spelled m b) (if_t ∷ spelled m c) (level (flushed d h) no_pair nothing) ls b r ∙ (if-read ls (flushed d h) b (spelled m c) ∙ q.path));
        is = q.is ∙ joined-assoc (flushed d h) (when b done) c;
      }

  read-either : (a b c : Code) → Reads a → Reads b → Reads c → Reads (either a b c)
  unfolding spelled Within joined tokens
  read-either a b c e f g zero ls d h le wi = absurd wi
  read-either a b c e f g (suc n) ls d h le wi =
      let lt : length ls < 7 = omega arith in
      let m₁ : suc (length ls) + n ≤ 7 = omega arith in
      let o : Read w (within (level (flushed d h) no_pair nothing ∷ ls) (level done no_pair nothing)) (spelled m a) (level (flushed d h) no_pair nothing ∷ ls) a = e n (level (flushed d h) no_pair nothing ∷ ls) done nothing m₁ wi.0 in
      let r : Read w (within (level (flushed d h) (one_pair a) nothing ∷ ls) (level done no_pair nothing)) (spelled m b) (level (flushed d h) (one_pair a) nothing ∷ ls) b = f n (level (flushed d h) (one_pair a) nothing ∷ ls) done nothing m₁ wi.1.0 in
      let q : Read w (within ls (level (joined (flushed d h) (either a b done)) no_pair nothing)) (spelled m c) ls (joined (joined (flushed d h) (either a b done)) c) = g (suc n) ls (joined (flushed d h) (either a b done)) nothing le wi.1.1 in
      record {
        code = q.code;
        last-two = q.last-two;
        path =
            ap (λ (u : State). tokens w u (spelled m a ++ (closes ∷ opens ∷ (spelled m b ++ (closes ∷ ifelse_t ∷ spelled m c))))) (opened ls d h lt)
            ∙ (pair_read _ (spelled m a) (opens ∷ (spelled m b ++ (closes ∷ ifelse_t ∷ spelled m c))) (level (flushed d h) no_pair nothing) ls a o
            ∙ (ap (λ (u : State). tokens w u (spelled m b ++ (closes ∷ ifelse_t ∷ spelled m c))) (opened-two ls (flushed d h) a lt)
            ∙ (pair_read _ (spelled m b) (ifelse_t ∷ spelled m c) (level (flushed d h) (one_pair a) nothing) ls b r
            ∙ (ifelse-read ls (flushed d h) a b (spelled m c) ∙ q.path))));
        is = q.is ∙ joined-assoc (flushed d h) (either a b done) c;
      }

  read_done : Reads done
  unfolding spelled tokens
  read_done n ls d h le wi = record { code = d; last-two = h; path = refl; is = sym (joined-done (flushed d h)) }

  pub reads : (c : Code) → Reads c
  reads done = read_done
  reads (act o c) = read-act o c (reads c)
  reads (when b c) = read-when b c (reads b) (reads c)
  reads (either a b c) = read-either a b c (reads a) (reads b) (reads c)

  pub parsed-spelled : (c : Code) → Within 7 c → parsed w (written m c) ≡ whole c
  unfolding tokens token token_at joined
  parsed-spelled c wi =
      let r : Read w (within [] (level done no_pair nothing)) (spelled m c) [] c = reads c 7 [] done nothing (omega arith) wi in
      tokens_append w (within [] (level done no_pair nothing)) (spelled m c) (closes ∷ [])
      ∙ (ap (λ (u : State). tokens w u (closes ∷ [])) r.path ∙ ap whole r.is)
