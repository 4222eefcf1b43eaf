-- `words_in`: it calls itself on the level within, whose rank is lower, and adds what document 01 says.
use mathlib.Core.Path.{ap, ◌∙◌}
use native.Mathlib.Omega.{arith}
use Rattle.space.specs.Levels.{space_in, rank_in}
use Rattle.space.proofs.Ends.{whatever}
use Rattle.space.proofs.Counts.{few-entries, words-separation, words-calculated, words-indexed}
use borrow.Author.Rules.{rules}
use Prim.Native.Nat.{ℕ, ◌+◌}
use Rattle.tables.proofs.lengths.+words_in.Goals as goal

pub words_in-requires : goal.words_in-requires
words_in-requires t c =
    (omega (arith, ap rank_in c.in-Separation.is, c.decreases, c.plain_at-s.ensures.falls), tt)

pub overflow_add-result-in-Separation : goal.overflow_add-result-in-Separation
overflow_add-result-in-Separation t c = omega (arith, c.count.ensures.small, c.words_in.ensures.small, c.plain_at-s.ensures.falls)

pub overflow_add-result-in-Program : goal.overflow_add-result-in-Program
overflow_add-result-in-Program t c = omega (arith, c.run_words.ensures.small, c.head_size.ensures.small)

pub words_in-requires-in-Program : goal.words_in-requires-in-Program
words_in-requires-in-Program t c =
    (omega (arith, ap rank_in c.in-Program.is, c.decreases, c.plain_at-s-in-Program.ensures.falls), tt)

pub overflow_add-result-in-Program-2 : goal.overflow_add-result-in-Program-2
overflow_add-result-in-Program-2 t c =
    omega (arith, c.run_words.ensures.small, c.words_in-in-Program.ensures.small, c.head_size.ensures.small, c.plain_at-s-in-Program.ensures.falls)

pub overflow_mul-result-in-Indexed : goal.overflow_mul-result-in-Indexed
overflow_mul-result-in-Indexed t c =
    omega (arith, few-entries c.count-in-Indexed.result c.in-Indexed.hival c.count-in-Indexed.ensures.small (search rules))

pub overflow_add-result-in-Indexed-2 : goal.overflow_add-result-in-Indexed-2
overflow_add-result-in-Indexed-2 t c =
    omega (arith, few-entries c.count-in-Indexed.result c.in-Indexed.hival c.count-in-Indexed.ensures.small (search rules))

pub words_in-requires-in-Indexed : goal.words_in-requires-in-Indexed
words_in-requires-in-Indexed t c = (omega (arith, ap rank_in c.in-Indexed.is, c.decreases, c.tinted_at-s.ensures.falls), tt)

pub overflow_add-result-in-Indexed-3 : goal.overflow_add-result-in-Indexed-3
overflow_add-result-in-Indexed-3 t c =
    omega (arith, few-entries c.count-in-Indexed.result c.in-Indexed.hival c.count-in-Indexed.ensures.small (search rules), c.words_in-in-Indexed.ensures.small, c.tinted_at-s.ensures.falls)

pub returns-in-Plain : goal.returns-in-Plain
unfolding space_in
returns-in-Plain t c =
    record { is = rw c.in-Plain.is (c.plain_words.ensures.is ∙ (whatever _ c.in-Plain.c).1); small = omega (arith, c.plain_words.ensures.small) }

pub returns-in-Blank : goal.returns-in-Blank
unfolding space_in
returns-in-Blank t c = record { is = rw c.in-Blank.is; small = omega arith }

pub returns-in-Separation : goal.returns-in-Separation
returns-in-Separation t c =
    record { is = words-separation _ (c.count.ensures.is _) c.words_in.ensures.is _ c.in-Separation.is c.plain_at-s.ensures.is; small = omega (arith, ap rank_in c.in-Separation.is, c.count.ensures.small, c.words_in.ensures.small, c.plain_at-s.ensures.falls) }

pub returns-in-Program : goal.returns-in-Program
returns-in-Program t c =
    let head = c.head_size.ensures in
    let run = c.run_words.ensures in (record { is = ap (λ (h : ℕ). h + c.run_words.result + c.words_in-in-Program.result) head.is ∙ words-calculated _ c.words_in-in-Program.ensures.is _ _ _ _ _ c.in-Program.is c.plain_at-s-in-Program.ensures.is c.program_run.ensures.is run.is; small = omega (arith, ap rank_in c.in-Program.is, head.small, run.small, c.words_in-in-Program.ensures.small, c.plain_at-s-in-Program.ensures.falls) })

pub returns-in-Indexed : goal.returns-in-Indexed
returns-in-Indexed t c =
    record { is = words-indexed _ (c.count-in-Indexed.ensures.is _) c.words_in-in-Indexed.ensures.is _ _ _ c.in-Indexed.is c.tinted_at-s.ensures.is; small = omega (arith, ap rank_in c.in-Indexed.is, few-entries c.count-in-Indexed.result c.in-Indexed.hival c.count-in-Indexed.ensures.small (search rules), c.words_in-in-Indexed.ensures.small, c.tinted_at-s.ensures.falls) }
