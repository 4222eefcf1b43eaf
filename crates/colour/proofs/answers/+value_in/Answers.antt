-- What the values answer: by the level within, whose rank is lower, or by the closing step of a plain space.
use mathlib.Core.Path.{ap, ◌∙◌}
use native.Mathlib.Omega.{arith}
use borrow.Author.Rules.{rules}
use Rattle.cie.specs.Closings.{closed_by}
use Rattle.cie.proofs.Closes.{closes}
use Rattle.space.specs.Levels.{plain_in, rank_in}
use Rattle.space.proofs.Ends.{whatever}
use Rattle.colour.proofs.Replies.{value-plain, value-blank, wide-count, value-separation, value-calculated, value-indexed}
use Rattle.colour.proofs.answers.+value_in.Goals as goal

pub tint-requires : goal.tint-requires
tint-requires t c =
    wide-count c.args.page.now c.in-Separation.p.alternate (c.count.ensures.is c.args.page.now) c.plain_at-s.ensures.is

pub value_in-requires : goal.value_in-requires
value_in-requires t c =
    (omega (arith, ap rank_in c.in-Separation.is, c.decreases, c.plain_at-s.ensures.falls), tt)

pub value_in-requires-in-Program : goal.value_in-requires-in-Program
value_in-requires-in-Program t c =
    (omega (arith, ap rank_in c.in-Program.is, c.decreases, c.plain_at-s-in-Program.ensures.falls), tt)

pub value_in-requires-in-Indexed : goal.value_in-requires-in-Indexed
value_in-requires-in-Indexed t c = (omega (arith, ap rank_in c.in-Indexed.is, c.decreases, c.tinted_at-s.ensures.falls), tt)

pub returns-in-Plain : goal.returns-in-Plain
returns-in-Plain t c =
    let p = c.in-Plain in
    let m = c.limit_count.ensures.is ∙ (whatever p.q p.c).2 in
    c.close.ensures _ ∙
    closes _ c.limit_all-u.result.values _ (search rules) (search rules) (search rules) (search rules) ∙
    value-plain _ _ p.c p.q p.is m (c.limit_all-u.ensures (plain_in p.c p.q) c.plain_bounds.ensures)

pub returns-in-Blank : goal.returns-in-Blank
unfolding closed_by
returns-in-Blank t c = value-blank _ _ _ c.in-Blank.is

pub returns-in-Separation : goal.returns-in-Separation
returns-in-Separation t c =
    c.value_in.ensures ∙ value-separation _ _ _ c.in-Separation.is c.plain_at-s.ensures.is (c.count.ensures.is _) c.tint.ensures

pub returns-in-Program : goal.returns-in-Program
returns-in-Program t c =
    c.value_in-in-Program.ensures ∙ value-calculated _ _ _ _ _ c.in-Program.is c.plain_at-s-in-Program.ensures.is (c.count-in-Program.ensures.is _) c.calculate.ensures

pub returns-in-Indexed : goal.returns-in-Indexed
returns-in-Indexed t c =
    c.value_in-in-Indexed.ensures ∙ value-indexed _ _ _ _ _ c.in-Indexed.is c.tinted_at-s.ensures.is c.pick_row.ensures
