-- Objects that the parser takes one after the other, whatever comes after them.
use mathlib.Core.Path.{◌≡◌, ap, ◌∙◌}
use mathlib.Core.List.{List, ◌∷◌, foldl}
use Prim.Native.Nat.{ℕ}
use Rattle.lexical.specs.Numbers.{none}
use Rattle.lexer.specs.Scans.{Word, Taken, takes, taken, Progress, going}
use Rattle.lexer.specs.declared.types.Mode.TheVariants.{Gap}
use Rattle.objects.specs.Objects.{Object, name, text, number, whole, opens, closes, begins, ends, spaced}
use Rattle.objects.proofs.Steps.{scan, after_space}
use Rattle.objects.proofs.Written.{step_object, token_of, word_in, read_scan}
use Rattle.reader.specs.Spaces.{Parser}
use Rattle.reader.specs.Tokens.{took}

-- the parser a between two tokens, with the word that was read last, and where
abbrev pub stands : Parser → Word → ℕ → ℕ → Progress Parser
stands a w k f = going (scan Gap none w k f) a

abbrev pub step : ℕ → Progress Parser → Object → Progress Parser
step room = step_object (took room)

-- from p these objects, and any others after them, lead to the parser a with the word w, and on from there
pub record Onward (room : ℕ) (p : Progress Parser) (os : List Object → List Object) (w : Word) (a : Parser) : Type 0 where
  pub seen : ℕ
  pub first : ℕ
  pub is : (rest : List Object) → foldl (step room) p (os rest) ≡ foldl (step room) (stands a w seen first) rest

-- an object whose token is taken
module _ (room : ℕ) (a a' : Parser) (w : Word) (k f : ℕ) where
  taking-on : (o : Object) → took room a (read_scan o w k) (token_of o) ≡ takes a' → (rest : List Object)
      → foldl (step room) (stands a w k f) (o ∷ rest) ≡ foldl (step room) (after_space (spaced o) (going (read_scan o w k) a')) rest
  unfolding taken
  taking-on o e rest = ap (λ (t : Taken Parser). foldl (step room) (after_space (spaced o) (taken (read_scan o w k) t)) rest) e

  pub taking : (o : Object) → took room a (read_scan o w k) (token_of o) ≡ takes a' → Onward room (stands a w k f) (λ r. o ∷ r) (word_in o w) a'
  taking (name v) e = record { seen = _; first = _; is = taking-on (name v) e }
  taking (text v) e = record { seen = _; first = _; is = taking-on (text v) e }
  taking (number z) e = record { seen = _; first = _; is = taking-on (number z) e }
  taking (whole n) e = record { seen = _; first = _; is = taking-on (whole n) e }
  taking opens e = record { seen = _; first = _; is = taking-on opens e }
  taking closes e = record { seen = _; first = _; is = taking-on closes e }
  taking begins e = record { seen = _; first = _; is = taking-on begins e }
  taking ends e = record { seen = _; first = _; is = taking-on ends e }

module _ {room : ℕ} {p : Progress Parser} {os : List Object → List Object} {w : Word} {a : Parser} (x : Onward room p os w a) where
  -- further objects, from where these lead to
  pub then_at : {os' : List Object → List Object} {w' : Word} {a' : Parser}
      → Onward room (stands a w x.seen x.first) os' w' a' → Onward room p (λ r. os (os' r)) w' a'
  then_at {os'} z = record { seen = z.seen; first = z.first; is = λ r. x.is (os' r) ∙ z.is r }

  -- or from wherever that is
  pub then : {os' : List Object → List Object} {w' : Word} {a' : Parser}
      → ((k f : ℕ) → Onward room (stands a w k f) os' w' a') → Onward room p (λ r. os (os' r)) w' a'
  then y = then_at (y x.seen x.first)

  -- the same parser, told in another way
  pub told : {a' : Parser} → a ≡ a' → Onward room p os w a'
  told e =
      record {
        seen = x.seen;
        first = x.first;
        is = λ r. x.is r ∙ ap (λ (b : Parser). foldl (step room) (stands b w x.seen x.first) r) e;
      }
