-- The tokens of a text one after the other: white space and comments before a token change nothing, and a run of regular characters is one token.
use mathlib.Core.Path.{◌≡◌, refl, sym, ap, ◌∙◌}
use mathlib.Core.Bool.{Bool, true, false, cond, not, ◌||◌, true≢false}
use mathlib.Core.List.{List, [], ◌∷◌, ◌++◌, append_assoc, append-nil}
use Prim.Native.Nat.{ℕ, suc, ◌+◌, ◌-◌, ◌≤◌, ◌<◌}
use native.Mathlib.Omega.{arith}
use native.Mathlib.Numerals.{add-one}
use borrow.Author.Tests.{ltb-false, eqb-true, eq-eqb, ne_eqb}
use lib.Dec.{eqb, ltb}
use Rattle.std.specs.Prelude.{Some, None}
use Rattle.std.specs.Option.{unwrap_or}
use lib.ListN.{length, take, drop, get_or, drop_of_length-le, length-drop}
use lib.Seq.{drop-cons, drop-drop}
use Rattle.std.specs.List.{position_or_len}
use Rattle.lexical.specs.Chars.{white, delimiter, regular, line_end}
use Rattle.symbols.specs.Tokens.{word_token, brace_token, gap, comment, run, between, lexed}
use Rattle.symbols.specs.Lexing.{place_of, skipped, run_of, after_run}

-- ---- before a token

-- % and white space are not regular
percent-irregular : (b : ℕ) → eqb b 37 ≡ true → (regular b ≡ false) × (white b ≡ false)
unfolding regular white delimiter
percent-irregular b e = let q : b ≡ 37 = eqb-true b 37 e in rw q (refl, refl)

white-irregular : (b : ℕ) → white b ≡ true → regular b ≡ false
unfolding regular
white-irregular b e = ap (λ (t : Bool). not (t || delimiter b)) e

module _ (b : ℕ) (l : List ℕ) where
  -- a step in a gap or in a comment
  gap-on : (IHg : lexed gap l ≡ lexed gap (skipped false l)) (IHc : lexed comment l ≡ lexed gap (skipped true l)) (p w : Bool) → eqb b 37 ≡ p → white b ≡ w → lexed gap (b ∷ l) ≡ lexed gap (cond (eqb (cond p 1 (cond w 0 2)) 2) (b ∷ l) (skipped (eqb (cond p 1 (cond w 0 2)) 1) l))
  unfolding lexed
  gap-on IHg IHc true w e f = let i = percent-irregular b e in rw (i.0, i.1, e) IHc
  gap-on IHg IHc false true e f = rw (white-irregular b f, f) IHg
  gap-on IHg IHc false false e f = refl

  comment-on : (IHg : lexed gap l ≡ lexed gap (skipped false l)) (IHc : lexed comment l ≡ lexed gap (skipped true l)) (t : Bool) → line_end b ≡ t → cond t (lexed gap l) (lexed comment l) ≡ lexed gap (cond (eqb (cond t 0 1) 2) (b ∷ l) (skipped (eqb (cond t 0 1) 1) l))
  comment-on IHg IHc true e = IHg
  comment-on IHg IHc false e = IHc

pub gap-skips : (l : List ℕ) → (lexed gap l ≡ lexed gap (skipped false l)) × (lexed comment l ≡ lexed gap (skipped true l))
unfolding skipped lexed
gap-skips [] = (refl, refl)
gap-skips (b ∷ l) = let i = gap-skips l in (gap-on b l i.0 i.1 (eqb b 37) (white b) refl refl, comment-on b l i.0 i.1 (line_end b) refl)

-- the byte where skipping ends begins a token
cons-eq : (x y : ℕ) (xs ys : List ℕ) → x ∷ xs ≡ y ∷ ys → x ≡ y
cons-eq x y xs ys e = cc

never : (b : ℕ) (r : List ℕ) → [] ≡ b ∷ r → ⊥
never b r e = let z : ◌≡◌ {A = ℕ} 0 1 = cc in absurd (omega arith)

comment-place : (b : ℕ) (t : Bool) → eqb (cond t 0 1) 2 ≡ false
comment-place b true = refl
comment-place b false = refl

pub skipped-head : (c : Bool) (l : List ℕ) (b : ℕ) (r : List ℕ) → skipped c l ≡ b ∷ r → eqb (place_of false b) 2 ≡ true
unfolding skipped
skipped-head c [] b r e = absurd (never b r e)
skipped-head true (x ∷ l) b r e = skipped-head (eqb (place_of true x) 1) l b r (ap (λ (t : Bool). cond t (x ∷ l) (skipped (eqb (place_of true x) 1) l)) (sym (comment-place x (line_end x))) ∙ e)
skipped-head false (x ∷ l) b r e = by (skipped-head (eqb (place_of false x) 1) l b r) (eqb (place_of false x) 2) refl e
  where
    by : (skipped (eqb (place_of false x) 1) l ≡ b ∷ r → eqb (place_of false b) 2 ≡ true) → (t : Bool) → eqb (place_of false x) 2 ≡ t → cond t (x ∷ l) (skipped (eqb (place_of false x) 1) l) ≡ b ∷ r → eqb (place_of false b) 2 ≡ true
    by on true f g = ap (λ (n : ℕ). eqb (place_of false n) 2) (sym (cons-eq x b l r g)) ∙ f
    by on false f g = on g

-- such a byte is no white space and no %
place-begins : (b : ℕ) → eqb (place_of false b) 2 ≡ true → (eqb b 37 ≡ false) × (white b ≡ false)
place-begins b e = by (eqb b 37) (white b) e
  where
    by : (p w : Bool) → eqb (cond p 1 (cond w 0 2)) 2 ≡ true → (p ≡ false) × (w ≡ false)
    by true w e = absurd (true≢false (sym e))
    by false true e = absurd (true≢false (sym e))
    by false false e = (refl, refl)

-- ---- a run of regular characters

run-law : (w l : List ℕ) → lexed (run w) l ≡ word_token (w ++ run_of l) ∷ lexed gap (after_run l)
unfolding lexed run_of after_run
run-law w [] = ap (λ (x : List ℕ). word_token x ∷ []) (sym (append-nil w))
run-law w (b ∷ l) = by (run-law (w ++ (b ∷ [])) l) (regular b) refl
  where
    by : lexed (run (w ++ (b ∷ []))) l ≡ word_token ((w ++ (b ∷ [])) ++ run_of l) ∷ lexed gap (after_run l) → (t : Bool) → regular b ≡ t → cond t (lexed (run (w ++ (b ∷ []))) l) (word_token w ∷ between b (lexed gap l) (lexed comment l)) ≡ word_token (w ++ cond t (b ∷ run_of l) []) ∷ lexed gap (cond t (after_run l) (b ∷ l))
    by on true e = on ∙ ap (λ (x : List ℕ). word_token x ∷ lexed gap (after_run l)) (append_assoc w (b ∷ []) (run_of l))
    by on false e = λ i. word_token (sym (append-nil w) i) ∷ sym (ap (λ (t : Bool). cond t (lexed (run (b ∷ [])) l) (between b (lexed gap l) (lexed comment l))) e) i

word-law : (b : ℕ) (l : List ℕ) → regular b ≡ true → lexed gap (b ∷ l) ≡ word_token (b ∷ run_of l) ∷ lexed gap (after_run l)
unfolding lexed
word-law b l e = ap (λ (t : Bool). cond t (lexed (run (b ∷ [])) l) (between b (lexed gap l) (lexed comment l))) e ∙ run-law (b ∷ []) l

brace-law : (b : ℕ) (l : List ℕ) → regular b ≡ false → eqb (place_of false b) 2 ≡ true → lexed gap (b ∷ l) ≡ brace_token b ∷ lexed gap l
unfolding lexed
brace-law b l e p = let q = place-begins b p in rw (e, q.1, q.0)

-- ---- skipping

-- a byte more
module _ (text : List ℕ) (i : ℕ) (h : i < length text) where
  abbrev at_i : ℕ
  at_i = get_or text i 0

  pub skip-turn : (c : Bool) → skipped c (drop i text) ≡ cond (eqb (place_of c at_i) 2) (at_i ∷ drop (i + 1) text) (skipped (eqb (place_of c at_i) 1) (drop (i + 1) text))
  unfolding skipped
  skip-turn c = rw (add-one i) (ap (skipped c) (drop-cons text i 0 h))

  pub skip-comment : {t : Bool} → t ≡ line_end at_i → skipped true (drop i text) ≡ skipped (not t) (drop (i + 1) text)
  skip-comment {t} e = skip-turn true ∙ by t e
    where
      by : (t : Bool) → t ≡ line_end at_i → cond (eqb (cond (line_end at_i) 0 1) 2) (at_i ∷ drop (i + 1) text) (skipped (eqb (cond (line_end at_i) 0 1) 1) (drop (i + 1) text)) ≡ skipped (not t) (drop (i + 1) text)
      by true e = rw (sym e)
      by false e = rw (sym e)

  pub skip-percent : at_i ≡ 37 → skipped false (drop i text) ≡ skipped true (drop (i + 1) text)
  skip-percent e = skip-turn false ∙ rw (eq-eqb at_i 37 e)

  pub skip-white : (at_i ≡ 37 → ⊥) → white at_i ≡ true → skipped false (drop i text) ≡ skipped false (drop (i + 1) text)
  skip-white n e = skip-turn false ∙ rw (ne_eqb at_i 37 n, e)

  pub skip-stops : (at_i ≡ 37 → ⊥) → white at_i ≡ false → skipped false (drop i text) ≡ drop i text
  skip-stops n e = skip-turn false ∙ rw (ne_eqb at_i 37 n, e, add-one i) (sym (drop-cons text i 0 h))

pub skip-ends : (c : Bool) (text : List ℕ) (i : ℕ) → length text ≤ i → skipped c (drop i text) ≡ []
unfolding skipped
skip-ends c text i h = ap (skipped c) (drop_of_length-le text h)

pub skipped-shorter : (c : Bool) (l : List ℕ) → length (skipped c l) ≤ length l
unfolding skipped
skipped-shorter c [] = omega arith
skipped-shorter c (x ∷ l) = by (skipped-shorter (eqb (place_of c x) 1) l) (eqb (place_of c x) 2)
  where
    by : length (skipped (eqb (place_of c x) 1) l) ≤ length l → (t : Bool) → length (cond t (x ∷ l) (skipped (eqb (place_of c x) 1) l)) ≤ suc (length l)
    by on true = omega arith
    by on false = omega arith

-- ---- a run of regular characters, which goes to the first byte that is not

abbrev pub run_length : List ℕ → ℕ
run_length l = position_or_len (λ b. not (regular b)) l

one-more : (n : ℕ) → 1 + n ≡ suc n
one-more n = omega arith

pub or_length : (p n : ℕ) → p ≤ n → unwrap_or (cond (ltb p n) (Some p) None) n ≡ p
or_length p n h = by (ltb p n) refl
  where
    by : (t : Bool) → ltb p n ≡ t → unwrap_or (cond t (Some p) None) n ≡ p
    by true e = refl
    by false e = let g : n ≤ p = ltb-false p n e in omega arith

pub run-taken : (l : List ℕ) → take (run_length l) l ≡ run_of l
unfolding run_of
run-taken [] = refl
run-taken (x ∷ l) = by (run-taken l) (regular x)
  where
    by : take (run_length l) l ≡ run_of l → (t : Bool) → take (cond (not (not t)) (1 + run_length l) 0) (x ∷ l) ≡ cond t (x ∷ run_of l) []
    by on true = rw (one-more (run_length l)) (ap (λ (y : List ℕ). x ∷ y) on)
    by on false = refl

pub run-dropped : (l : List ℕ) → drop (run_length l) l ≡ after_run l
unfolding after_run
run-dropped [] = refl
run-dropped (x ∷ l) = by (run-dropped l) (regular x)
  where
    by : drop (run_length l) l ≡ after_run l → (t : Bool) → drop (cond (not (not t)) (1 + run_length l) 0) (x ∷ l) ≡ cond t (after_run l) (x ∷ l)
    by on true = rw (one-more (run_length l)) on
    by on false = refl

pub run-more : (b : ℕ) (l : List ℕ) → regular b ≡ true → run_length (b ∷ l) ≡ 1 + run_length l
run-more b l e = rw e refl

-- ---- the next token

pub empty : (l : List ℕ) → length l ≡ 0 → l ≡ []
empty [] e = refl
empty (x ∷ l) e = absurd (omega arith)

pub none-next : (text : List ℕ) → skipped false text ≡ [] → [] ≡ lexed gap text
unfolding lexed
none-next text e = sym ((gap-skips text).0 ∙ ap (lexed gap) e)

module _ (text l : List ℕ) (b : ℕ) (s : skipped false text ≡ b ∷ l) where
  pub word-next : regular b ≡ true → (w r : List ℕ) → w ≡ run_of (b ∷ l) → r ≡ after_run (b ∷ l) → word_token w ∷ lexed gap r ≡ lexed gap text
  unfolding run_of after_run
  word-next g w r e f =
      let ew : w ≡ b ∷ run_of l = rw g at e in
      let er : r ≡ after_run l = rw g at f in
      rw (ew, er) (sym ((gap-skips text).0 ∙ ap (lexed gap) s ∙ word-law b l g))

  pub brace-next : regular b ≡ false → brace_token b ∷ lexed gap l ≡ lexed gap text
  brace-next g = sym ((gap-skips text).0 ∙ ap (lexed gap) s ∙ brace-law b l g (skipped-head false text b l s))

-- ---- what follows a token is the end of the text

pub skipped-part : (c : Bool) (l : List ℕ) → skipped c l ≡ drop (length l - length (skipped c l)) l
unfolding skipped
skipped-part c [] = refl
skipped-part c (b ∷ l) = by (skipped-part (eqb (place_of c b) 1) l) (eqb (place_of c b) 2)
  where
    d : Bool
    d = eqb (place_of c b) 1

    by : skipped d l ≡ drop (length l - length (skipped d l)) l → (t : Bool) → cond t (b ∷ l) (skipped d l) ≡ drop (length (b ∷ l) - length (cond t (b ∷ l) (skipped d l))) (b ∷ l)
    by on true = ap (λ (n : ℕ). drop n (b ∷ l)) (let e : 0 ≡ suc (length l) - suc (length l) = omega arith in e)
    by on false =
        let h : length (skipped d l) ≤ length l = skipped-shorter d l in
        on ∙ ap (λ (n : ℕ). drop n (b ∷ l)) (let e : suc (length l - length (skipped d l)) ≡ suc (length l) - length (skipped d l) = omega arith in e)

-- n bytes more are passed
pub rest-part : (text : List ℕ) (n : ℕ) {s r : List ℕ} → s ≡ skipped false text → n ≤ length s → r ≡ drop n s → r ≡ drop (length text - length r) text
rest-part text n {s} {r} e h f =
    let le : length s ≤ length text = omega (arith, ap length e, skipped-shorter false text) in
    let k : length r ≡ length s - n = ap length f ∙ length-drop n s in
    let p : s ≡ drop (length text - length s) text = e ∙ (skipped-part false text ∙ ap (λ (x : List ℕ). drop (length text - length x) text) (sym e)) in
    f ∙ (ap (drop n) p ∙ (drop-drop n (length text - length s) text ∙ ap (λ (m : ℕ). drop m text) (let g : length text - length s + n ≡ length text - length r = omega arith in g)))
