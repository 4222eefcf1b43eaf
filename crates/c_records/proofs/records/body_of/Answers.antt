-- Each arm of the match is a kind of the definition.
use mathlib.Core.Path.{refl, ap}
use Rattle.fixed.proofs.Decide.{eq_no}
use Rattle.record.specs.declared.types.Body.TheVariants.{CalGray, CalRgb, Lab, Separation}
use Rattle.c_records.specs.Records.{body_of}
use Rattle.c_records.proofs.records.body_of.Goals as goal

pub returns-in-1 : goal.returns-in-1
unfolding body_of
returns-in-1 c = rw c.in-1.is (ap CalGray c.gray_of.ensures)

pub returns-in-2 : goal.returns-in-2
unfolding body_of
returns-in-2 c = rw c.in-2.is (ap CalRgb c.rgb_of.ensures)

pub returns-in-3 : goal.returns-in-3
unfolding body_of
returns-in-3 c = rw c.in-3.is (ap Lab c.lab_of.ensures)

pub returns-in-4 : goal.returns-in-4
unfolding body_of
returns-in-4 c = rw c.in-4.is c.indexed_of.ensures

pub returns-in-5 : goal.returns-in-5
unfolding body_of
returns-in-5 c = rw c.in-5.is (ap Separation c.ink_of.ensures)

pub returns-in-6 : goal.returns-in-6
unfolding body_of
returns-in-6 c = rw c.in-6.is

pub returns-in-7 : goal.returns-in-7
unfolding body_of
returns-in-7 c = rw c.in-7.is

pub returns-in-8 : goal.returns-in-8
unfolding body_of
returns-in-8 c = rw c.in-8.is c.device_n_of.ensures

pub returns-in_default : goal.returns-in_default
unfolding body_of
returns-in_default c =
    let r = c.in_default.in_default-own.rest in
    eq_no _ 1 _ _ _ refl r.0.0.0.0.0.0.0.1
    (eq_no _ 2 _ _ _ refl r.0.0.0.0.0.0.1
    (eq_no _ 3 _ _ _ refl r.0.0.0.0.0.1
    (eq_no _ 4 _ _ _ refl r.0.0.0.0.1 (eq_no _ 5 _ _ _ refl r.0.0.0.1 (eq_no _ 6 _ _ _ refl r.0.0.1 (eq_no _ 7 _ _ _ refl r.0.1 (eq_no _ 8 _ _ _ refl r.1 refl)))))))
