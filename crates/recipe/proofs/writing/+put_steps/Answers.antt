-- The steps of a level: the head of an Indexed or a Separation and then the steps of the level within, whose rank is lower, or the ends of a plain space.
use mathlib.Core.Path.{refl, sym, ap, ◌∙◌}
use native.Mathlib.Omega.{arith}
use lib.Seq.{sets}
use Rattle.space.specs.Levels.{rank_in}
use Rattle.parts.specs.Parts.{row_words, tint_words, program_words}
use Rattle.parts.proofs.Steps.{steps-blank, wide-count, steps-plain, steps-separation, steps-calculated, steps-indexed, plain-room, head-room, steps-room, steps-set}
use Rattle.recipe.proofs.writing.+put_steps.Goals as goal

pub put_ends-requires : goal.put_ends-requires
put_ends-requires t c =
    plain-room _ c.args.words.now (steps-plain _ c.in-Plain.c c.in-Plain.q c.in-Plain.is) c.requires

pub put_closing-requires : goal.put_closing-requires
put_closing-requires t c =
    plain-room _ c.args.words.now (steps-blank _ _ c.in-Blank.is) c.requires

pub put_tint-next-requires : goal.put_tint-next-requires
put_tint-next-requires t c =
    (wide-count c.args.page.now c.in-Separation.p.alternate (c.count.ensures.is c.args.page.now) c.plain_at-s.ensures.is, head-room _ (tint_words _ _) _ (steps-separation _ c.in-Separation.p c.in-Separation.is c.plain_at-s.ensures.is (c.count.ensures.is _)) _ _ refl c.args.words.now c.requires)

pub put_steps-requires : goal.put_steps-requires
put_steps-requires t c = (
  omega (arith, ap rank_in c.in-Separation.is, c.decreases, c.plain_at-s.ensures.falls),
  steps-room _ (tint_words _ _) _ (steps-separation _ c.in-Separation.p c.in-Separation.is c.plain_at-s.ensures.is (c.count.ensures.is _)) _ _ c.put_tint-next.ensures.next c.args.words.now c.put_tint-next.new.words c.requires c.put_tint-next.auto.words,
)

pub put_program-next-requires : goal.put_program-next-requires
put_program-next-requires t c =
    (c.count-in-Program.ensures.small, head-room _ (program_words _ _ _) _ (steps-calculated _ _ _ _ c.in-Program.is c.plain_at-s-in-Program.ensures.is (c.count-in-Program.ensures.is _)) _ _ refl c.args.words.now c.requires)

pub put_steps-requires-in-Program : goal.put_steps-requires-in-Program
put_steps-requires-in-Program t c = (
  omega (arith, ap rank_in c.in-Program.is, c.decreases, c.plain_at-s-in-Program.ensures.falls),
  steps-room _ (program_words _ _ _) _ (steps-calculated _ _ _ _ c.in-Program.is c.plain_at-s-in-Program.ensures.is (c.count-in-Program.ensures.is _)) _ _ c.put_program-next.ensures.next c.args.words.now c.put_program-next.new.words c.requires c.put_program-next.auto.words,
)

pub put_row-next-requires : goal.put_row-next-requires
put_row-next-requires t c =
    head-room _ (row_words _ _ _ _) _ (steps-indexed _ _ _ _ c.in-Indexed.is c.tinted_at-s.ensures.is) _ _ refl c.args.words.now c.requires

pub put_steps-requires-in-Indexed : goal.put_steps-requires-in-Indexed
put_steps-requires-in-Indexed t c = (
  omega (arith, ap rank_in c.in-Indexed.is, c.decreases, c.tinted_at-s.ensures.falls),
  steps-room _ (row_words _ _ _ _) _ (steps-indexed _ _ _ _ c.in-Indexed.is c.tinted_at-s.ensures.is) _ _ c.put_row-next.ensures.next c.args.words.now c.put_row-next.new.words c.requires c.put_row-next.auto.words,
)

pub returns-in-Plain : goal.returns-in-Plain
returns-in-Plain t c =
    c.put_ends.ensures ∙ sym (ap (sets c.args.words.now c.args.at) (steps-plain _ c.in-Plain.c c.in-Plain.q c.in-Plain.is))

pub returns-in-Blank : goal.returns-in-Blank
returns-in-Blank t c =
    c.put_closing.ensures ∙ sym (ap (sets c.args.words.now c.args.at) (steps-blank _ _ c.in-Blank.is))

pub returns-in-Separation : goal.returns-in-Separation
returns-in-Separation t c =
    steps-set _ (tint_words _ _) _ (steps-separation _ c.in-Separation.p c.in-Separation.is c.plain_at-s.ensures.is (c.count.ensures.is _)) _ _ c.put_tint-next.ensures.next _ _ _ c.put_tint-next.ensures.stores c.put_steps.ensures

pub returns-in-Program : goal.returns-in-Program
returns-in-Program t c =
    steps-set _ (program_words _ _ _) _ (steps-calculated _ _ _ _ c.in-Program.is c.plain_at-s-in-Program.ensures.is (c.count-in-Program.ensures.is _)) _ _ c.put_program-next.ensures.next _ _ _ c.put_program-next.ensures.stores c.put_steps-in-Program.ensures

pub returns-in-Indexed : goal.returns-in-Indexed
returns-in-Indexed t c =
    steps-set _ (row_words _ _ _ _) _ (steps-indexed _ _ _ _ c.in-Indexed.is c.tinted_at-s.ensures.is) _ _ c.put_row-next.ensures.next _ _ _ c.put_row-next.ensures.stores c.put_steps-in-Indexed.ensures
