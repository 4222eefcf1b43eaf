-- FORMAT.md, Designers' texts: the line that the program `reading` writes of a text that is refused.
use Rattle.std.specs.Prelude.{ℕ, List, ◌++◌}
use Rattle.digits.specs.Texts.{text}
use Rattle.digits.specs.Digits.{digits}

-- a designer's text that is refused, at a byte
unfoldable pub unread_text : ℕ → ℕ → List ℕ
unread_text number at = text "refused " ++ digits number ++ text " at " ++ digits at ++ text "\n"
