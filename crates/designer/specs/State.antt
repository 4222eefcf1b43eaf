-- FORMAT.md, Designers' texts: where the reading of a text stands, of a state and the lists that are lent.
use Rattle.std.specs.Prelude.{ℕ, Bool, true, false, cond, List, eqb, ℤ}
use Rattle.lexer.specs.declared.types.Met.{Met}
use Rattle.lexer.specs.declared.types.Met.TheVariants.{Nothing, Complete, Wrong, Past}
use Rattle.lexer.specs.Scans.{Progress, going, stopped, scan_at}
use Rattle.reader.specs.Spaces.{Parser}
use Rattle.reader.specs.Kept.{parser_at}
use Rattle.states.specs.declared.types.State.{State}

-- after a refusal the lists say nothing
unfoldable pub progress_at : State → List ℤ → List ℕ → List ℕ → List ℕ → List ℕ → List ℕ → Progress Parser
progress_at s values word marks names opens bytes =
    cond (eqb s.refusal 0)
    (going (scan_at s.lexer word) (parser_at s.head values marks names opens bytes))
    (stopped s.refusal s.place)

-- a token was met
abbrev pub is_complete : Met → Bool
is_complete Nothing = false
is_complete (Complete t) = true
is_complete Wrong = false
is_complete Past = false
