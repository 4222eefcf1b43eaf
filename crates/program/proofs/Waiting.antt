-- The words written while reading tokens are those of the state; an if or ifelse sets the jumps that waited.
use mathlib.Core.Path.{◌≡◌, refl, sym, ap, ◌∙◌}
use mathlib.Core.List.{List, [], ◌∷◌, ◌++◌, append_assoc, append-nil}
use Prim.Native.Nat.{ℕ, suc, ◌+◌}
use native.Mathlib.Omega.{arith}
use lib.IntN.{ℤ, pos}
use lib.ListN.{length, set}
use Rattle.stack.specs.Programs.{Op, Code, done, act, when, either}
use Rattle.stack.specs.Flat.{words_of, when_words, either_words, flat}
use Rattle.program.specs.Parse.{joined, ended, Pairs, no_pair, one_pair, two_pairs, Held, nothing, Level, level}
use Rattle.program.specs.Words.{waiting, opening, outer_words, state_words}

pub joined_words : (c d : Code) → flat (joined c d) ≡ flat c ++ flat d
unfolding flat joined
joined_words done d = refl
joined_words (act o c) d = ap (λ (x : List ℤ). words_of o ++ x) (joined_words c d) ∙ sym (append_assoc (words_of o) (flat c) (flat d))
joined_words (when b c) d = ap (λ (x : List ℤ). when_words (flat b) ++ x) (joined_words c d) ∙ sym (append_assoc (when_words (flat b)) (flat c) (flat d))
joined_words (either a b c) d = ap (λ (x : List ℤ). either_words (flat a) (flat b) ++ x) (joined_words c d) ∙ sym (append_assoc (either_words (flat a) (flat b)) (flat c) (flat d))

-- an operator: its words at the end
pub op-words : (c : Code) (o : Op) → flat (ended c o) ≡ flat c ++ words_of o
unfolding flat
op-words c o = joined_words c (act o done) ∙ ap (λ (x : List ℤ). flat c ++ x) (append-nil (words_of o))

-- a `{` writes the opening of the pair; a `}` writes nothing
pub open-words : (ls : List Level) (c : Code) (p : Pairs) (h : Held) → state_words (level c p h ∷ ls) (level done no_pair nothing) ≡ state_words ls (level c p h) ++ opening p
unfolding flat outer_words
open-words ls c p h = append-nil _ ∙ sym (append_assoc (outer_words ls) (flat c ++ waiting p) (opening p))

pub close-words : (ls : List Level) (d c : Code) (h : Held) → state_words (level d no_pair h ∷ ls) (level c no_pair nothing) ≡ state_words ls (level d (one_pair c) nothing)
unfolding outer_words
close-words ls d c h =
    ap (λ (x : List ℤ). outer_words (level d no_pair h ∷ ls) ++ x) (append-nil (flat c))
    ∙ (append_assoc (outer_words ls) ((flat d ++ []) ++ (pos 5 ∷ pos 0 ∷ [])) (flat c)
    ∙ ap (λ (x : List ℤ). outer_words ls ++ x) (append_assoc (flat d ++ []) (pos 5 ∷ pos 0 ∷ []) (flat c) ∙ ap (λ (x : List ℤ). x ++ (pos 5 ∷ pos 0 ∷ flat c)) (append-nil (flat d))))

-- a store past the first words
set_past : (x l : List ℤ) (n : ℕ) (v : ℤ) → set (x ++ l) (length x + n) v ≡ x ++ set l n v
set_past [] l n v = ap (λ (k : ℕ). set l k v) (let e : 0 + n ≡ n = omega arith in e)
set_past (w ∷ ws) l n v =
    ap (λ (k : ℕ). set (w ∷ (ws ++ l)) k v) (let e : suc (length ws) + n ≡ suc (length ws + n) = omega arith in e)
    ∙ ap (λ (y : List ℤ). w ∷ y) (set_past ws l n v)

patch : (x c r : List ℤ) (q o v : ℤ) → set (x ++ (c ++ (q ∷ o ∷ r))) (length x + (length c + 1)) v ≡ x ++ (c ++ (q ∷ v ∷ r))
patch x c r q o v = set_past x (c ++ (q ∷ o ∷ r)) (length c + 1) v ∙ ap (λ (y : List ℤ). x ++ y) (set_past c (q ∷ o ∷ r) 1 v)

-- an if: the word after the pair's start becomes the pair's length
pub if-words : (x : List ℤ) (c a : Code) → set (x ++ (flat c ++ waiting (one_pair a))) (length x + (length (flat c) + 1)) (pos (length (flat a))) ≡ x ++ flat (joined c (when a done))
unfolding flat
if-words x c a =
    patch x (flat c) (flat a) (pos 5) (pos 0) (pos (length (flat a)))
    ∙ ap (λ (y : List ℤ). x ++ y) (sym (joined_words c (when a done) ∙ ap (λ (y : List ℤ). flat c ++ y) (append-nil (when_words (flat a)))))

-- an ifelse: both jumps
pub ifelse-words : (x : List ℤ) (c a b : Code) → set (set (x ++ (flat c ++ waiting (two_pairs a b))) (length x + (length (flat c) + 1)) (pos (length (flat a) + 2))) (length x + (length (flat c) + (2 + (length (flat a) + 1)))) (pos (length (flat b))) ≡ x ++ flat (joined c (either a b done))
unfolding flat
ifelse-words x c a b =
    ap (λ (y : List ℤ). set y (length x + (length (flat c) + (2 + (length (flat a) + 1)))) (pos (length (flat b)))) (patch x (flat c) (flat a ++ (pos 6 ∷ pos 0 ∷ flat b)) (pos 5) (pos 0) (pos (length (flat a) + 2)))
    ∙ (set_past x _ (length (flat c) + (2 + (length (flat a) + 1))) (pos (length (flat b)))
    ∙ ap (λ (y : List ℤ). x ++ y) (set_past (flat c) _ (2 + (length (flat a) + 1)) (pos (length (flat b)))
    ∙ (ap (λ (y : List ℤ). flat c ++ y) (set_past (pos 5 ∷ pos (length (flat a) + 2) ∷ []) (flat a ++ (pos 6 ∷ pos 0 ∷ flat b)) (length (flat a) + 1) (pos (length (flat b)))
    ∙ ap (λ (y : List ℤ). pos 5 ∷ pos (length (flat a) + 2) ∷ y) (set_past (flat a) (pos 6 ∷ pos 0 ∷ flat b) 1 (pos (length (flat b)))))
    ∙ sym (joined_words c (either a b done) ∙ ap (λ (y : List ℤ). flat c ++ y) (append-nil (either_words (flat a) (flat b)))))))
