-- 12 m n, or 13 t m n, and the n words of the program's flat form; the place after them.
use mathlib.Core.Path.{◌≡◌}
use native.Mathlib.Omega.{arith}
use lib.ListN.{length}
use Rattle.fixed.proofs.Signs.{signed_is}
use Rattle.parts.proofs.Programs.{size_few, program-length, program-set}
use Rattle.parts.proofs.parts.put_program.Goals as goal

pub overflow_cast-size : goal.overflow_cast-size
overflow_cast-size c = omega (arith, size_few _ _ c.program_run.ensures.is c.put_run-size.ensures.is)

pub word_of-requires-2 : goal.word_of-requires-2
word_of-requires-2 c = omega (arith, size_few _ _ c.program_run.ensures.is c.put_run-size.ensures.is)

pub put_head-requires : goal.put_head-requires
put_head-requires c =
    let whole = program-length _ _ c.program_run.ensures.is c.put_run-size.ensures.is c.args.tints c.args.m in
    let e : length c.put_run-size.new.out ≡ length c.args.words.now = c.put_run-size.auto.out in
    omega (arith, c.requires.1, whole, e)

pub overflow_add-result-2 : goal.overflow_add-result-2
overflow_add-result-2 c =
    let whole = program-length _ _ c.program_run.ensures.is c.put_run-size.ensures.is c.args.tints c.args.m in
    omega (arith, size_few _ _ c.program_run.ensures.is c.put_run-size.ensures.is, c.head_size-head.ensures.small, c.head_size-head.ensures.is, c.requires.1, whole)

pub returns : goal.returns
returns c =
    record { stores = (program-set _ _ c.program_run.ensures.is c.put_run-size.ensures.is c.args.tints c.args.m _ _ _ c.head_size-head.ensures.is c.requires.1 c.put_run-size.ensures.stores (signed_is _ c.word_of.type_inv c.word_of.ensures) (signed_is _ c.word_of-2.type_inv c.word_of-2.ensures) c.put_head.ensures).0; next = (program-set _ _ c.program_run.ensures.is c.put_run-size.ensures.is c.args.tints c.args.m _ _ _ c.head_size-head.ensures.is c.requires.1 c.put_run-size.ensures.stores (signed_is _ c.word_of.type_inv c.word_of.ensures) (signed_is _ c.word_of-2.type_inv c.word_of-2.ensures) c.put_head.ensures).1 }
