-- `read`: each exit is one law: the number of the refusal, or the record read.
use mathlib.Core.Path.{refl, sym, ap, ◌∙◌}
use native.Mathlib.Omega.{arith}
use Rattle.std.proofs.lemmas.Result.{err_from_is_err_and}
use Rattle.fixed.proofs.Numbered.{some_number}
use Rattle.block.proofs.Exits.{read_short, read-unchecked, read-unknown, read-fault, read-refused, read_done}
use Rattle.record.specs.Rules.{fault_of}
use Rattle.block.proofs.reading.read.Goals as goal

pub returns-then-b-ne512 : goal.returns-then-b-ne512
returns-then-b-ne512 c =
    let b = c.args.b.now in
    let both = read-refused b 10 (read_short b c.if-b-ne512.true) (λ z. omega arith) refl refl in
    record { replies = both.0; finds = both.1 }

pub returns-then-not-is_checked : goal.returns-then-not-is_checked
returns-then-not-is_checked c =
    let b = c.args.b.now in
    let unchecked = sym c.is_checked.ensures ∙ c.if-not-is_checked.true in
    let both = read-refused b 2 (read-unchecked b c.if-b-ne512.false unchecked) (λ z. omega arith) refl refl in
    record { replies = both.0; finds = both.1 }

pub returns-then-not-is_well_laid : goal.returns-then-not-is_well_laid
returns-then-not-is_well_laid c =
    let b = c.args.b.now in
    let checked = sym c.is_checked.ensures ∙ c.if-not-is_checked.false in
    let unknown = sym c.is_well_laid.ensures ∙ c.if-not-is_well_laid.true in
    let both = read-refused b 3 (read-unknown b c.if-b-ne512.false checked unknown) (λ z. omega arith) refl refl in
    record { replies = both.0; finds = both.1 }

pub returns-in_err-fault : goal.returns-in_err-fault
returns-in_err-fault c =
    let p = err_from_is_err_and c.from_residual.result c.from_residual.ensures.1 in
    let b = c.args.b.now in
    let checked = sym c.is_checked.ensures ∙ c.if-not-is_checked.false in
    let well_laid = sym c.is_well_laid.ensures ∙ c.if-not-is_well_laid.false in
    let number = read-fault b c.if-b-ne512.false checked well_laid ∙ ap fault_of (sym c.record_at-r.ensures) ∙ sym c.in_err-fault.ensures in
    let both = read-refused b _ number (some_number c.in_err-fault.field-0.0) refl refl in
    rw (p.1, p.2) (record { replies = both.0; finds = both.1 })

pub returns : goal.returns
returns c =
    let b = c.args.b.now in
    let checked = sym c.is_checked.ensures ∙ c.if-not-is_checked.false in
    let well_laid = sym c.is_well_laid.ensures ∙ c.if-not-is_well_laid.false in
    let number = read-fault b c.if-b-ne512.false checked well_laid ∙ ap fault_of (sym c.record_at-r.ensures) ∙ sym c.in_ok-fault.ensures in
    let both = read_done b _ number c.record_at-r.ensures in
    record { replies = both.0; finds = both.1 }
