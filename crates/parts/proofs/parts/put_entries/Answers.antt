-- The first entries are the list of them.
use Rattle.std.proofs.Common.{sym, ap, ◌∙◌, arith}
use lib.Seq.{sets}
use Rattle.parts.proofs.Words.{taken}
use Rattle.parts.proofs.parts.put_entries.Goals as goal

pub returns : goal.returns
returns c = c.put.ensures ∙ ap (sets c.args.words.now c.args.at) (sym (taken c.args.a c.args.m (omega arith)))
