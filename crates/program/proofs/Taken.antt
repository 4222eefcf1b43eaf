-- The compiler's loop: what is kept, with the tokens still to be read, comes to what all tokens come to.
use mathlib.Core.Path.{◌≡◌, refl, sym, ap, ◌∙◌}
use mathlib.Core.Bool.{Bool, true, false, cond}
use lib.Dec.{leb}
use mathlib.Core.List.{List, [], ◌∷◌}
use Prim.Native.Nat.{ℕ, suc, ◌+◌, ◌≤◌}
use native.Mathlib.Omega.{arith}
use lib.ListN.{length}
use borrow.Author.Tests.{lt-leb, le-leb}
use Rattle.fixed.specs.Sizes.{most_tokens}
use Rattle.symbols.specs.Tokens.{Token, opens}
use Rattle.symbols.specs.Symbols.{token_of}
use Rattle.symbols.specs.declared.types.Symbol.{Symbol}
use Rattle.symbols.specs.declared.types.Symbol.TheVariants.{Open, Close, If, IfElse, Copy, Index, Roll, Number, Operator, Other}
use Rattle.program.specs.Parse.{State, within, whole, start, bad, level, nothing, count_z, tokens, parsed}
use Rattle.program.specs.Words.{Words, Outer, going, mark0, begin, fails, kept_of, token_k, tokens_k}
use Rattle.program.specs.Kept.{keeps, sixteen, wanted, wanted_w}
use Rattle.program.specs.declared.state.State as S
use Rattle.program.specs.declared.state.State.TheVariants as V
use lib.IntN.{ℤ}
use Rattle.program.specs.Texts.{read_by, read_tokens, unread}
use Rattle.program.proofs.Compiled.{compiled}

wanted-is : (ts : List Token) → wanted_w (tokens_k count_z begin ts) ≡ wanted (read_by (parsed count_z ts))
unfolding kept_of
wanted-is ts = ap wanted_w (compiled count_z ts) ∙ by (parsed count_z ts)
  where
    by : (s : State) → wanted_w (kept_of s) ≡ wanted (read_by s)
    by (within ls (level c p h)) = refl
    by (whole c) = refl
    by start = refl
    by bad = refl

-- m tokens are read
pub record Compiling (ts : List Token) (k : Words) (rest : List Token) (m : ℕ) : Type 0 where
  pub same : tokens_k count_z k rest ≡ tokens_k count_z begin ts
  pub count : m + length rest ≡ length ts

module _ (ts : List Token) (k : Words) (rest : List Token) (m : ℕ) (c : Compiling ts k rest m) where
  -- a token more
  pub compiling-turn : (t : Token) (rest' : List Token) (k' : Words) → t ∷ rest' ≡ rest → k' ≡ token_k count_z k t → Compiling ts k' rest' (m + 1)
  unfolding tokens_k
  compiling-turn t rest' k' e ek =
      let l : suc (length rest') ≡ length rest = ap length e in
      let n : m + length rest ≡ length ts = c.count in
      record { same = ap (λ (w : Words). tokens_k count_z w rest') ek ∙ (ap (tokens_k count_z k) e ∙ c.same); count = omega arith }

  -- one token too many
  pub compiling-many : (t : Token) (rest' : List Token) → t ∷ rest' ≡ rest → most_tokens ≤ m → sixteen ≡ wanted (read_tokens ts)
  unfolding read_tokens
  compiling-many t rest' e h =
      let l : suc (length rest') ≡ length rest = ap length e in
      let n : m + length rest ≡ length ts = c.count in
      rw (lt-leb (length ts) most_tokens (omega arith))

  -- the end of the tokens
  pub compiling-end : [] ≡ rest → m ≤ most_tokens → wanted_w k ≡ wanted (read_tokens ts)
  unfolding tokens_k read_tokens
  compiling-end e h =
      let l : 0 ≡ length rest = ap length e in
      let n : m + length rest ≡ length ts = c.count in
      ap wanted_w (ap (tokens_k count_z k) e ∙ c.same) ∙ (wanted-is ts ∙ rw (le-leb (length ts) most_tokens (omega arith)))

-- ---- the first token

fails-stay : (ts : List Token) → tokens_k count_z fails ts ≡ fails
unfolding tokens_k token_k
fails-stay [] = refl
fails-stay (t ∷ ts) = fails-stay ts

pub none-read : (ts : List Token) → [] ≡ ts → sixteen ≡ wanted (read_tokens ts)
unfolding read_tokens tokens
none-read ts e = rw (sym e) refl

-- no program begins with another token than `{`
other-fails : (s : Symbol) → (s ≡ Open → ⊥) → token_k count_z begin (token_of s) ≡ fails
unfolding token_k
other-fails Open n = absurd (n refl)
other-fails Close n = refl
other-fails If n = refl
other-fails IfElse n = refl
other-fails Copy n = refl
other-fails Index n = refl
other-fails Roll n = refl
other-fails (Number z) n = refl
other-fails (Operator o) n = refl
other-fails Other n = refl

pub first-other : (ts rest : List Token) (s : Symbol) → token_of s ∷ rest ≡ ts → (s ≡ Open → ⊥) → sixteen ≡ wanted (read_tokens ts)
unfolding read_tokens tokens_k
first-other ts rest s e n =
    let f : sixteen ≡ wanted (read_by (parsed count_z (token_of s ∷ rest))) = sym (sym (wanted-is (token_of s ∷ rest)) ∙ ap wanted_w (ap (λ (k : Words). tokens_k count_z k rest) (other-fails s n) ∙ fails-stay rest)) in
    rw (sym e) (by (leb (length (token_of s ∷ rest)) most_tokens) f)
  where
    by : (t : Bool) → sixteen ≡ wanted (read_by (parsed count_z (token_of s ∷ rest))) → sixteen ≡ wanted (cond t (read_by (parsed count_z (token_of s ∷ rest))) unread)
    by true f = f
    by false f = refl

pub first-open : (ts rest : List Token) → opens ∷ rest ≡ ts → Compiling ts (going [] mark0 [] nothing) rest 1
unfolding tokens_k token_k
first-open ts rest e =
    let l : suc (length rest) ≡ length ts = ap length e in
    record { same = ap (tokens_k count_z begin) e; count = omega arith }

-- ---- the end

pub not-whole : (s : S.State) (x : List ℤ) (os : List Outer) → (s ≡ V.Whole → ⊥) → sixteen ≡ wanted_w (keeps s x os)
not-whole (V.Within w h) x os n = refl
not-whole V.Whole x os n = absurd (n refl)
not-whole V.Refused x os n = refl
