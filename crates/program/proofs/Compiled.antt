-- What the compiler keeps, token by token, is what it is to keep of the state: its words are those of the program that was read.
use mathlib.Core.Path.{◌≡◌, refl, sym, ap, ◌∙◌}
use mathlib.Core.Bool.{Bool, true, false, cond}
use mathlib.Core.List.{List, [], ◌∷◌, ◌++◌, append_assoc, append-nil}
use Prim.Native.Nat.{ℕ, suc, ◌+◌, ◌-◌}
use native.Mathlib.Omega.{arith}
use lib.IntN.{ℤ, pos}
use lib.Dec.{ltb}
use lib.ListN.{length, set, length-append}
use Rattle.stack.specs.Programs.{Op, number, copy, index, Code, done, when, either}
use Rattle.stack.specs.Flat.{words_of, flat}
use Rattle.symbols.specs.Tokens.{Token, opens, closes, if_t, ifelse_t, copy_t, index_t, roll_t, num_t, op_t, other}
use Rattle.program.specs.Parse.{joined, ended, no_pair, one_pair, two_pairs, Held, nothing, last, last_two, Level, level, State, within, whole, start, bad, flushed, held, counted, rolled_by, closed, Count, counting, rolling, spoiled, token_at, token, tokens, parsed}
use Rattle.program.specs.Words.{waiting, outer_words, state_words, mark0, mark1, mark2, Outer, first, second, Words, going, ended!, begin, fails, flush_w, held_w, counted_w, rolled_w, closed_w, token_w, outers_of, kept_of, token_k, tokens_k}
use Rattle.program.proofs.Waiting.{op-words, open-words, close-words, if-words, ifelse-words}

plain-words : (ls : List Level) (c : Code) → state_words ls (level c no_pair nothing) ≡ outer_words ls ++ flat c
plain-words ls c = ap (λ (x : List ℤ). outer_words ls ++ x) (append-nil (flat c))

op-end : (ls : List Level) (c : Code) (o : Op) → state_words ls (level (ended c o) no_pair nothing) ≡ state_words ls (level c no_pair nothing) ++ words_of o
op-end ls c o =
    plain-words ls (ended c o)
    ∙ (ap (λ (x : List ℤ). outer_words ls ++ x) (op-words c o)
    ∙ (sym (append_assoc (outer_words ls) (flat c) (words_of o)) ∙ ap (λ (x : List ℤ). x ++ words_of o) (sym (plain-words ls c))))

op-end-two : (ls : List Level) (c : Code) (o p : Op) → state_words ls (level (ended (ended c o) p) no_pair nothing) ≡ (state_words ls (level c no_pair nothing) ++ words_of o) ++ words_of p
op-end-two ls c o p = op-end ls (ended c o) p ∙ ap (λ (x : List ℤ). x ++ words_of p) (op-end ls c o)

flush-end : (ls : List Level) (c : Code) (h : Held) → state_words ls (level (flushed c h) no_pair nothing) ≡ flush_w (state_words ls (level c no_pair h)) h
flush-end ls c nothing = refl
flush-end ls c (last x) = op-end ls c (number x)
flush-end ls c (last_two x y) = op-end-two ls c (number x) (number y)

close-two-words : (ls : List Level) (d a c : Code) (h : Held) → state_words (level d (one_pair a) h ∷ ls) (level c no_pair nothing) ≡ state_words ls (level d (two_pairs a c) nothing)
unfolding outer_words
close-two-words ls d a c h =
    ap (λ (x : List ℤ). outer_words (level d (one_pair a) h ∷ ls) ++ x) (append-nil (flat c))
    ∙ (append_assoc (outer_words ls) ((flat d ++ (pos 5 ∷ pos 0 ∷ flat a)) ++ (pos 6 ∷ pos 0 ∷ [])) (flat c)
    ∙ ap (λ (x : List ℤ). outer_words ls ++ x)
    (append_assoc (flat d ++ (pos 5 ∷ pos 0 ∷ flat a)) (pos 6 ∷ pos 0 ∷ []) (flat c)
    ∙ append_assoc (flat d) (pos 5 ∷ pos 0 ∷ flat a) (pos 6 ∷ pos 0 ∷ flat c)))

outers-length : (ls : List Level) → length (outers_of ls) ≡ length ls
unfolding outers_of
outers-length [] = refl
outers-length (level c p h ∷ ls) = ap suc (outers-length ls)

kept-cond : (b : Bool) (s : State) → kept_of (cond b s bad) ≡ cond b (kept_of s) fails
unfolding kept_of
kept-cond true s = refl
kept-cond false s = refl

module _ (w : ℤ → Count) (ls : List Level) where
  abbrev os : List Outer
  os = outers_of ls

  kept-first : (c : Code) (h : Held) → kept_of (within (level (flushed c h) no_pair nothing ∷ ls) (level done no_pair nothing)) ≡ going (flush_w (state_words ls (level c no_pair h)) h ++ (pos 5 ∷ pos 0 ∷ [])) mark0 (first (length (flush_w (state_words ls (level c no_pair h)) h)) ∷ os) nothing
  unfolding kept_of outers_of
  kept-first c h = λ i. going ((open-words ls (flushed c h) no_pair nothing ∙ ap (λ (x : List ℤ). x ++ (pos 5 ∷ pos 0 ∷ [])) (flush-end ls c h)) i) mark0 (first (length ((sym (plain-words ls (flushed c h)) ∙ flush-end ls c h) i)) ∷ os) nothing

  one-length : (c a : Code) → length (outer_words ls ++ flat c) + (2 + length (flat a)) ≡ length (state_words ls (level c (one_pair a) nothing))
  one-length c a =
      let e : length (outer_words ls ++ flat c) ≡ length (outer_words ls) + length (flat c) = length-append (outer_words ls) (flat c) in
      let f : length (outer_words ls ++ (flat c ++ waiting (one_pair a))) ≡ length (outer_words ls) + length (flat c ++ waiting (one_pair a)) = length-append (outer_words ls) (flat c ++ waiting (one_pair a)) in
      let g : length (flat c ++ waiting (one_pair a)) ≡ length (flat c) + suc (suc (length (flat a))) = length-append (flat c) (waiting (one_pair a)) in
      omega arith

  two-length : (c a b : Code) → length (outer_words ls ++ flat c) + (2 + length (flat a)) + (2 + length (flat b)) ≡ length (state_words ls (level c (two_pairs a b) nothing))
  two-length c a b =
      let e : length (outer_words ls ++ flat c) ≡ length (outer_words ls) + length (flat c) = length-append (outer_words ls) (flat c) in
      let f : length (outer_words ls ++ (flat c ++ waiting (two_pairs a b))) ≡ length (outer_words ls) + length (flat c ++ waiting (two_pairs a b)) = length-append (outer_words ls) (flat c ++ waiting (two_pairs a b)) in
      let g : length (flat c ++ waiting (two_pairs a b)) ≡ length (flat c) + suc (suc (length (flat a ++ (pos 6 ∷ pos 0 ∷ flat b)))) = length-append (flat c) (waiting (two_pairs a b)) in
      let k : length (flat a ++ (pos 6 ∷ pos 0 ∷ flat b)) ≡ length (flat a) + suc (suc (length (flat b))) = length-append (flat a) (pos 6 ∷ pos 0 ∷ flat b) in
      omega arith

  kept_second : (c a : Code) → kept_of (within (level c (one_pair a) nothing ∷ ls) (level done no_pair nothing)) ≡ going (state_words ls (level c (one_pair a) nothing) ++ (pos 6 ∷ pos 0 ∷ [])) mark0 (second (length (outer_words ls ++ flat c)) (length (state_words ls (level c (one_pair a) nothing))) ∷ os) nothing
  unfolding kept_of outers_of
  kept_second c a = λ i. going (open-words ls c (one_pair a) nothing i) mark0 (second (length (outer_words ls ++ flat c)) (one-length c a i) ∷ os) nothing

  -- a level whose words are x
  kept-level : (c : Code) (h : Held) (x : List ℤ) → state_words ls (level c no_pair nothing) ≡ x → kept_of (within ls (level c no_pair h)) ≡ going x mark0 os h
  unfolding kept_of
  kept-level c h x e = ap (λ (y : List ℤ). going y mark0 os h) e

  kept-counted : (f : ℤ → Op) (c : Code) (h : Held) → kept_of (within ls (counted w f c h)) ≡ going (counted_w w f (state_words ls (level c no_pair h)) h) mark0 os nothing
  kept-counted f c nothing = kept-level (ended c spoiled) nothing _ (op-end ls c spoiled)
  kept-counted f c (last x) = kept-level (ended c (counting f (w x))) nothing _ (op-end ls c (counting f (w x)))
  kept-counted f c (last_two x y) = kept-level (ended (ended c (number x)) (counting f (w y))) nothing _ (op-end-two ls c (number x) (counting f (w y)))

  kept-rolled : (c : Code) (h : Held) → kept_of (within ls (rolled_by w c h)) ≡ going (rolled_w w (state_words ls (level c no_pair h)) h) mark0 os nothing
  kept-rolled c nothing = kept-level (ended c spoiled) nothing _ (op-end ls c spoiled)
  kept-rolled c (last x) = kept-level (ended c spoiled) nothing _ (op-end ls c spoiled)
  kept-rolled c (last_two x y) = kept-level (ended c (rolling (w x) (w y))) nothing _ (op-end ls c (rolling (w x) (w y)))

  kept-held : (c : Code) (h : Held) (z : ℤ) → kept_of (within ls (held c h z)) ≡ held_w (state_words ls (level c no_pair h)) h z os
  kept-held c nothing z = kept-level c (last z) _ refl
  kept-held c (last x) z = kept-level c (last_two x z) _ refl
  kept-held c (last_two x y) z = kept-level (ended c (number x)) (last_two y z) _ (op-end ls c (number x))

  kept_op : (c : Code) (h : Held) (o : Op) → kept_of (within ls (level (ended (flushed c h) o) no_pair nothing)) ≡ going (flush_w (state_words ls (level c no_pair h)) h ++ words_of o) mark0 os nothing
  kept_op c h o = kept-level (ended (flushed c h) o) nothing _ (op-end ls (flushed c h) o ∙ ap (λ (x : List ℤ). x ++ words_of o) (flush-end ls c h))

  kept_if : (c a : Code) → kept_of (within ls (level (joined c (when a done)) no_pair nothing)) ≡ going (set (state_words ls (level c (one_pair a) nothing)) (length (outer_words ls ++ flat c) + 1) (pos (length (state_words ls (level c (one_pair a) nothing)) - (length (outer_words ls ++ flat c) + 2)))) mark0 os nothing
  kept_if c a =
      let e : length (outer_words ls ++ flat c) ≡ length (outer_words ls) + length (flat c) = length-append (outer_words ls) (flat c) in
      let l : length (outer_words ls ++ flat c) + (2 + length (flat a)) ≡ length (state_words ls (level c (one_pair a) nothing)) = one-length c a in
      kept-level (joined c (when a done)) nothing _
      (plain-words ls (joined c (when a done))
      ∙ (sym (if-words (outer_words ls) c a)
      ∙ (λ i. set (state_words ls (level c (one_pair a) nothing))
      ((let f : length (outer_words ls) + (length (flat c) + 1) ≡ length (outer_words ls ++ flat c) + 1 = omega arith in f) i)
      (pos ((let f : length (flat a) ≡ length (state_words ls (level c (one_pair a) nothing)) - (length (outer_words ls ++ flat c) + 2) = omega arith in f) i)))))

  abbrev F : Code → ℕ
  F c = length (outer_words ls ++ flat c)

  kept-ifelse : (c a b : Code) → kept_of (within ls (level (joined c (either a b done)) no_pair nothing)) ≡ going (set (set (state_words ls (level c (two_pairs a b) nothing)) (F c + 1) (pos (F c + (2 + length (flat a)) - F c))) (F c + (2 + length (flat a)) + 1) (pos (length (state_words ls (level c (two_pairs a b) nothing)) - (F c + (2 + length (flat a)) + 2)))) mark0 os nothing
  kept-ifelse c a b =
      let e : length (outer_words ls ++ flat c) ≡ length (outer_words ls) + length (flat c) = length-append (outer_words ls) (flat c) in
      let l : F c + (2 + length (flat a)) + (2 + length (flat b)) ≡ length (state_words ls (level c (two_pairs a b) nothing)) = two-length c a b in
      kept-level (joined c (either a b done)) nothing _
      (plain-words ls (joined c (either a b done))
      ∙ (sym (ifelse-words (outer_words ls) c a b)
      ∙ (λ i. set (set (state_words ls (level c (two_pairs a b) nothing))
      ((let f : length (outer_words ls) + (length (flat c) + 1) ≡ F c + 1 = omega arith in f) i)
      (pos ((let f : length (flat a) + 2 ≡ F c + (2 + length (flat a)) - F c = omega arith in f) i)))
      ((let f : length (outer_words ls) + (length (flat c) + (2 + (length (flat a) + 1))) ≡ F c + (2 + length (flat a)) + 1 = omega arith in f) i)
      (pos ((let f : length (flat b) ≡ length (state_words ls (level c (two_pairs a b) nothing)) - (F c + (2 + length (flat a)) + 2) = omega arith in f) i)))))

-- a `}`
kept-close : (ls : List Level) (c : Code) (h : Held) → kept_of (closed ls (flushed c h)) ≡ closed_w (outers_of ls) (flush_w (state_words ls (level c no_pair h)) h)
unfolding kept_of outers_of outer_words
kept-close [] c h = ap ended! (sym (append-nil (flat (flushed c h))) ∙ flush-end [] c h)
kept-close (level d no_pair g ∷ ls) c h =
    ap (λ (x : List ℤ). going x (mark1 (length (outer_words ls ++ flat d))) (outers_of ls) nothing) (sym (close-words ls d (flushed c h) g) ∙ flush-end (level d no_pair g ∷ ls) c h)
kept-close (level d (one_pair a) g ∷ ls) c h =
    ap (λ (x : List ℤ). going x (mark2 (length (outer_words ls ++ flat d)) (length (outer_words ls ++ flat d) + (2 + length (flat a)))) (outers_of ls) nothing) (sym (close-two-words ls d a (flushed c h) g) ∙ flush-end (level d (one_pair a) g ∷ ls) c h)
kept-close (level d (two_pairs a b) g ∷ ls) c h = refl

-- one token
kept_at : (w : ℤ → Count) (ls : List Level) (l : Level) (t : Token) → kept_of (token_at w ls l t) ≡ token_k w (kept_of (within ls l)) t
unfolding token_at token_k token_w kept_of
kept_at w ls (level c no_pair h) opens = kept-cond (ltb (length ls) 7) _ ∙ (λ i. cond (ltb (sym (outers-length ls) i) 7) (kept-first w ls c h i) fails)
kept_at w ls (level c no_pair h) closes = kept-close ls c h
kept_at w ls (level c no_pair h) if_t = refl
kept_at w ls (level c no_pair h) ifelse_t = refl
kept_at w ls (level c no_pair h) copy_t = kept-counted w ls copy c h
kept_at w ls (level c no_pair h) index_t = kept-counted w ls index c h
kept_at w ls (level c no_pair h) roll_t = kept-rolled w ls c h
kept_at w ls (level c no_pair h) (num_t z) = kept-held w ls c h z
kept_at w ls (level c no_pair h) (op_t o) = kept_op w ls c h o
kept_at w ls (level c no_pair h) other = refl
kept_at w ls (level c (one_pair a) h) opens = kept-cond (ltb (length ls) 7) _ ∙ (λ i. cond (ltb (sym (outers-length ls) i) 7) (kept_second w ls c a i) fails)
kept_at w ls (level c (one_pair a) h) closes = refl
kept_at w ls (level c (one_pair a) h) if_t = kept_if w ls c a
kept_at w ls (level c (one_pair a) h) ifelse_t = refl
kept_at w ls (level c (one_pair a) h) copy_t = refl
kept_at w ls (level c (one_pair a) h) index_t = refl
kept_at w ls (level c (one_pair a) h) roll_t = refl
kept_at w ls (level c (one_pair a) h) (num_t z) = refl
kept_at w ls (level c (one_pair a) h) (op_t o) = refl
kept_at w ls (level c (one_pair a) h) other = refl
kept_at w ls (level c (two_pairs a b) h) opens = refl
kept_at w ls (level c (two_pairs a b) h) closes = refl
kept_at w ls (level c (two_pairs a b) h) if_t = refl
kept_at w ls (level c (two_pairs a b) h) ifelse_t = kept-ifelse w ls c a b
kept_at w ls (level c (two_pairs a b) h) copy_t = refl
kept_at w ls (level c (two_pairs a b) h) index_t = refl
kept_at w ls (level c (two_pairs a b) h) roll_t = refl
kept_at w ls (level c (two_pairs a b) h) (num_t z) = refl
kept_at w ls (level c (two_pairs a b) h) (op_t o) = refl
kept_at w ls (level c (two_pairs a b) h) other = refl

pub kept-token : (w : ℤ → Count) (s : State) (t : Token) → kept_of (token w s t) ≡ token_k w (kept_of s) t
unfolding token token_k kept_of flat outers_of outer_words
kept-token w (within ls l) t = kept_at w ls l t
kept-token w (whole c) t = refl
kept-token w start opens = refl
kept-token w start closes = refl
kept-token w start if_t = refl
kept-token w start ifelse_t = refl
kept-token w start copy_t = refl
kept-token w start index_t = refl
kept-token w start roll_t = refl
kept-token w start (num_t z) = refl
kept-token w start (op_t o) = refl
kept-token w start other = refl
kept-token w bad t = refl

-- all of them: the words are those of the program that the text is
pub kept-tokens : (w : ℤ → Count) (s : State) (ts : List Token) → kept_of (tokens w s ts) ≡ tokens_k w (kept_of s) ts
unfolding tokens tokens_k
kept-tokens w s [] = refl
kept-tokens w s (t ∷ ts) = kept-tokens w (token w s t) ts ∙ ap (λ (k : Words). tokens_k w k ts) (kept-token w s t)

pub compiled : (w : ℤ → Count) (ts : List Token) → tokens_k w begin ts ≡ kept_of (parsed w ts)
unfolding kept_of
compiled w ts = sym (kept-tokens w start ts)
