-- Each return is a clause of `checks` at this word; the table is the whole one, of which `checks` sees the rest.
use mathlib.Core.Path.{◌∙◌, ap, sym, refl}
use native.Mathlib.Omega.{arith}
use Prim.Native.Nat.{ℕ, ◌+◌}
use lib.ListN.{length}
use Rattle.std.specs.Prelude.{Option}
use Rattle.form.specs.Table.{bits_of, places_from, passed}
use Rattle.form.proofs.Passes.{bits-kinds, pass-free, pass-met, pass-unmet, pass-ill, pass-item}
use Rattle.form.proofs.checking.pass.Goals as goal

pub returns-in-None-clause-is : goal.returns-in-None-clause-is
returns-in-None-clause-is c = pass-free c.args.words.now c.args.t.now c.args.p c.requires.0 c.args.m c.if-m-gt0.true c.in-None.ensures

pub returns-in-Some-clause-is : goal.returns-in-Some-clause-is
returns-in-Some-clause-is c = pass-met c.args.words.now c.args.t.now c.args.p c.requires.0 c.args.m c.if-m-gt0.true c.in-Some.field-0 c.in-Some.ensures

pub returns-in_err-head-clause-is : goal.returns-in_err-head-clause-is
returns-in_err-head-clause-is c =
    ap (λ (r : Option ℕ). passed r c.args.words.now c.args.p (places_from c.args.t.now 0 (length c.args.words.now + 1))) c.from_residual.ensures
    ∙ pass-unmet c.args.words.now c.args.t.now c.args.p c.requires.0 c.args.m c.if-m-gt0.false c.in_err-head.ensures

pub returns-in_err-item-clause-is : goal.returns-in_err-item-clause-is
returns-in_err-item-clause-is c =
    ap (λ (r : Option ℕ). passed r c.args.words.now c.args.p (places_from c.args.t.now 0 (length c.args.words.now + 1))) c.from_residual-in_err-item.ensures
    ∙ pass-ill c.args.words.now c.args.t.now c.args.p c.requires.0 c.args.m c.if-m-gt0.false c.in_ok-head.field-0 c.in_ok-head.ensures c.in_err-item.ensures c.bring.ensures refl

pub leave-requires : goal.leave-requires
leave-requires c =
    (c.requires.1, c.requires.2, omega (arith, c.requires.0), ap bits_of c.bring.ensures ∙ (bits-kinds c.args.t.now c.args.p c.in_ok-head.field-0 ∙ sym c.bring.ensures))

pub returns-in_err-held-clause-is : goal.returns-in_err-held-clause-is
returns-in_err-held-clause-is c =
    ap (λ (r : Option ℕ). passed r c.args.words.now c.args.p (places_from c.leave.new.t 0 (length c.args.words.now + 1))) c.from_residual-in_err-held.ensures
    ∙ pass-ill c.args.words.now c.args.t.now c.args.p c.requires.0 c.args.m c.if-m-gt0.false c.in_ok-head.field-0 c.in_ok-head.ensures c.in_ok-item.ensures c.bring.ensures c.in_err-held.ensures.is

pub returns-clause-is : goal.returns-clause-is
returns-clause-is c =
    pass-item c.args.words.now c.args.t.now c.args.p c.requires.0 c.args.m c.if-m-gt0.false c.in_ok-head.field-0 c.in_ok-head.ensures c.in_ok-item.ensures c.bring.ensures c.in_ok-held.ensures.is c.width.ensures
