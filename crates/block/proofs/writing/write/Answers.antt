-- `write`: each exit is one law; the last has what the record's store leaves.
use mathlib.Core.Path.{sym, ◌∙◌}
use native.Mathlib.Omega.{arith}
use Rattle.std.proofs.lemmas.Result.{err_from_is_err_and}
use Rattle.fixed.proofs.Numbered.{some_number}
use Rattle.block.proofs.Exits.{number_short, number-fault, write-refused, write_done}
use Rattle.block.proofs.writing.write.Goals as goal

pub returns-then-out-ne512 : goal.returns-then-out-ne512
returns-then-out-ne512 c =
    let both = write-refused _ _ 10 (number_short c.args.r c.args.out.now c.if-out-ne512.true) (λ z. omega arith) in
    record { replies = both.0; leaves = both.1 }

pub returns-in_err-fault : goal.returns-in_err-fault
returns-in_err-fault c =
    let p = err_from_is_err_and c.from_residual.result c.from_residual.ensures.1 in
    let both = write-refused _ _ _ (number-fault c.args.r c.args.out.now c.if-out-ne512.false ∙ sym c.in_err-fault.ensures) (some_number c.in_err-fault.field-0.0) in
    rw (p.1, p.2) (record { replies = both.0; leaves = both.1 })

pub returns : goal.returns
returns c =
    let both = write_done c.args.r c.args.out.now _ (number-fault c.args.r c.args.out.now c.if-out-ne512.false ∙ sym c.in_ok-fault.ensures) c.put_record.ensures in
    record { replies = both.0; leaves = both.1 }
