-- The lower kinds are compared with the first word, and those above, where these agree, with the second.
use mathlib.Core.Path.{◌≡◌, ◌∙◌, ap, sym}
use mathlib.Core.List.{List}
use Prim.Native.Nat.{ℕ, ◌/◌}
use lib.IntN.{ℤ}
use lib.ListN.{length}
use Rattle.stack.specs.Stack.{same_kinds}
use Rattle.stack.specs.Memory.{stack_of}
use Rattle.stack.proofs.Stacks.{stack-length}
use Rattle.form.specs.Table.{kinds_by, kinds_at, first_at, second_at, bits_of}
use Rattle.form.proofs.Packed.{row-high, row-low}
use Rattle.form.proofs.table.same.Goals as goal

-- from the values in the array to the stack
seen : (t : List ℕ) (q : ℕ) (a s : List ℤ) → stack_of a (length a) ≡ s → same_kinds (bits_of (stack_of a (length a))) (kinds_at t q (length a)) ≡ same_kinds (bits_of s) (kinds_at t q (length s))
seen t q a s e = λ i. same_kinds (bits_of (e i)) (kinds_at t q ((sym (stack-length a (length a)) ∙ ap length e) i))

pub returns-then-is_packed : goal.returns-then-is_packed
unfolding kinds_by
returns-then-is_packed c =
    let a = c.values-kinds.result.now in
    row-high a (length a) (first_at c.args.t.now c.args.q / 128) (second_at c.args.t.now c.args.q) c.low_part-m.result c.low_part-m.ensures c.is_packed.result c.is_packed.ensures c.if-is_packed.true c.is_packed-then-is_packed.result c.is_packed-then-is_packed.ensures
    ∙ seen c.args.t.now c.args.q a c.args.stack.now c.values-kinds.ensures.is

pub returns-else-is_packed : goal.returns-else-is_packed
unfolding kinds_by
returns-else-is_packed c =
    let a = c.values-kinds.result.now in
    c.if-is_packed.false
    ∙ (row-low a (length a) (first_at c.args.t.now c.args.q / 128) (second_at c.args.t.now c.args.q) c.low_part-m.result c.low_part-m.ensures c.is_packed.result c.is_packed.ensures c.if-is_packed.false
    ∙ seen c.args.t.now c.args.q a c.args.stack.now c.values-kinds.ensures.is)
