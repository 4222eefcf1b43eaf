-- One byte more of a text, and one word more of its program.
use mathlib.Core.Path.{◌≡◌, refl, sym, ◌∙◌}
use mathlib.Core.Bool.{Bool, true, false, cond, not, ◌&&◌}
use mathlib.Core.List.{List, [], ◌∷◌, ◌++◌, append_assoc}
use Prim.Native.Nat.{ℕ, suc, ◌+◌, ◌<◌, ◌≤◌}
use native.Mathlib.Numerals.{add-one}
use native.Mathlib.Omega.{arith}
use borrow.Author.Tests.{le-leb, lt-leb}
use lib.IntN.{ℤ}
use lib.Dec.{eqb}
use lib.ListN.{length, set, take, drop}
use lib.Seq.{take-suc-set}
use Rattle.std.proofs.lemmas.List.{drop-drop}
use Rattle.std.proofs.lemmas.List.Edits.{sets-eq}
use Rattle.std.specs.List.{list_all, position_or_len}
use borrow.Rule.Slice.PartMut.{put_mid}
use Rattle.calculator.specs.Calculator.{put_at, text_byte, text_of, tidy}

-- the first j bytes stand in the room lent, and byte j is stored
pub text-turn : (page : List ℕ) (n j : ℕ) (out : List ℕ) (x : ℕ) → j < length out → take j out ≡ text_of page n j → x ≡ text_byte page n j → take (j + 1) (set out j x) ≡ text_of page n (j + 1)
unfolding text_of
text-turn page n j out x h e f = rw (add-one j) (take-suc-set out j x h ∙ (λ i. e i ++ (f i ∷ [])))

module _ (out : List ℤ) (at : ℕ) (ws : List ℤ) where
  -- there is no room for the words
  pub put-out : length out < at + length ws → out ≡ put_at out at ws
  unfolding put_at
  put-out q = simp (lt-leb (at + length ws) (length out) q)

  -- there is
  pub put_in : (k : ℕ) (u : List ℤ) → at + length ws ≤ length out → k ≡ length ws → u ≡ ws → put_mid at k out u ≡ put_at out at ws
  unfolding put_at
  put_in k u q e f = rw (e, f, drop-drop (length ws) at out) (sym (append_assoc (take at out) ws (drop (at + length ws) out)) ∙ (sym (sets-eq ws out at q) ∙ simp (le-leb (at + length ws) (length out) q)))

-- ---- zeros after a text

-- after a zero byte all are
tidy-met : (l : List ℕ) → list_all (λ b. eqb b 0) l ≡ tidy true l
unfolding tidy
tidy-met [] = refl
tidy-met (x ∷ l) = by (tidy-met l) (eqb x 0)
  where
    by : list_all (λ b. eqb b 0) l ≡ tidy true l → (t : Bool) → (t && list_all (λ b. eqb b 0) l) ≡ cond (true && not t) false (tidy t l)
    by on true = on
    by on false = refl

pub tidy-end : (l : List ℕ) → list_all (λ b. eqb b 0) (drop (position_or_len (λ b. eqb b 0) l) l) ≡ tidy false l
unfolding tidy
tidy-end [] = refl
tidy-end (x ∷ l) = by (tidy-end l) (eqb x 0) refl
  where
    by : list_all (λ b. eqb b 0) (drop (position_or_len (λ b. eqb b 0) l) l) ≡ tidy false l → (t : Bool) → eqb x 0 ≡ t → list_all (λ b. eqb b 0) (drop (cond (not t) (1 + position_or_len (λ b. eqb b 0) l) 0) (x ∷ l)) ≡ tidy t l
    by on true e = rw e (tidy-met l)
    by on false e = let k = position_or_len (λ b. eqb b 0) l in let f : 1 + k ≡ suc k = omega arith in rw f on
