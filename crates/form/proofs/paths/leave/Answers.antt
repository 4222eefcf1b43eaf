-- The kinds after an operator are those of `act` on kinds.
use Rattle.stack.specs.Meant.{op_meant, item_meant}
use Rattle.stack.specs.declared.items.Item.{Item}
use Rattle.stack.specs.Flat.{counts_of}
use lib.ListN.{length}
use Rattle.form.specs.Paths.{met}
use Rattle.form.specs.Table.{places_from, bits_of, leaves_at}
use Rattle.std.proofs.lemmas.Option.{IfSome_then}
use Rattle.form.proofs.Passes.{leave-wrong, leave-op, bits-kept}
use mathlib.Core.Path.{◌≡◌, ◌∙◌, sym, ap}
use Rattle.form.proofs.paths.leave.Goals as goal

pub returns-then-not-fine-clause-is : goal.returns-then-not-fine-clause-is
returns-then-not-fine-clause-is c =
    leave-wrong c.args.stack.now c.args.p (places_from c.args.t.now 0 c.args.n) (op_meant c.in-Op.op) (length (counts_of (op_meant c.in-Op.op))) c.if-not-fine.ensures ∙ ap (λ (i : Item). leaves_at (item_meant i) c.args.stack.now c.args.p (places_from c.args.t.now 0 c.args.n)) (sym c.in-Op.is)

pub returns-else-not-fine-clause-is : goal.returns-else-not-fine-clause-is
returns-else-not-fine-clause-is c =
    c.come.ensures.is ∙ leave-op c.args.stack.now c.args.p (places_from c.args.t.now 0 c.args.n) (op_meant c.in-Op.op) (length (counts_of (op_meant c.in-Op.op))) c.if-not-fine.ensures c.requires.3 c.act.ensures c.width.ensures.is ∙ ap (λ (i : Item). leaves_at (item_meant i) c.args.stack.now c.args.p (places_from c.args.t.now 0 c.args.n)) (sym c.in-Op.is)

-- the kinds that the path brought are the stack's
pub returns-else-not-fine-clause-stands : goal.returns-else-not-fine-clause-stands
returns-else-not-fine-clause-stands c =
    let bits : bits_of c.act.new.self ≡ c.act.new.self = ap bits_of c.act.ensures ∙ (bits-kept (op_meant c.in-Op.op) c.args.stack.now c.requires.3 ∙ sym c.act.ensures) in
    IfSome_then c.come.result c.come.ensures.stands (λ q f. f.1 ∙ ap met bits)
