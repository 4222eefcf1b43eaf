-- Each return is a case of `comes`: past the end, a place not met, one met with the same height, or another.
use mathlib.Core.Path.{◌∙◌, sym, ap}
use mathlib.Core.Bool.{false}
use Prim.Native.Nat.{ℕ}
use Rattle.stack.specs.Stack.{same_kinds}
use Rattle.form.specs.Table.{bits_of, kinds_at}
use Rattle.form.proofs.Tables.{come-past, come-new, come-old, same-high}
use Rattle.form.proofs.table.arrive.Goals as goal

pub returns-then-n-q-clause-is : goal.returns-then-n-q-clause-is
returns-then-n-q-clause-is c = come-past c.args.t.now c.args.n c.args.q (bits_of c.args.stack.now) c.if-n-q.true

pub returns-in-None-clause-is : goal.returns-in-None-clause-is
returns-in-None-clause-is c = come-new c.args.t.now c.args.n c.args.q (bits_of c.args.stack.now) c.if-n-q.false c.in-None.ensures c.requires.1 _ c.store.ensures

pub returns-in-Some-clause-is : goal.returns-in-Some-clause-is
returns-in-Some-clause-is c =
    come-old c.args.t.now c.args.n c.args.q (bits_of c.args.stack.now) c.if-n-q.false c.in-Some.h c.in-Some.ensures c.same.result
    (c.same.ensures ∙ ap (λ (h : ℕ). same_kinds (bits_of c.args.stack.now) (kinds_at c.args.t.now c.args.q h)) (sym (c.if-h-height.true ∙ c.height.ensures.is)))

pub returns-in-Some-2-clause-is : goal.returns-in-Some-2-clause-is
returns-in-Some-2-clause-is c =
    come-old c.args.t.now c.args.n c.args.q (bits_of c.args.stack.now) c.if-n-q.false c.in-Some.h c.in-Some.ensures false
    (sym (same-high c.args.t.now c.args.q c.in-Some.h c.args.stack.now (λ e. c.if-h-height.false (e ∙ sym c.height.ensures.is))))
