-- FORMAT.md, Designers' texts: the reply of a designer's text, as C has it. What a reply is stands in
-- `sktelbaan_runner`; the other replies stand in `c_layout`.
use Rattle.std.specs.Prelude.{ℕ, Result, Ok, Err}
use Rattle.judging.specs.declared.types.TextRefusal.{TextRefusal}
use Rattle.sktelbaan_runner.specs.Replies.{in_halves}

-- the end of a text: how many blocks its page has, or a refusal with its byte
abbrev pub page_of : Result ℕ TextRefusal → ℕ
page_of (Ok n) = in_halves 0 n
page_of (Err r) = in_halves r.number r.at
