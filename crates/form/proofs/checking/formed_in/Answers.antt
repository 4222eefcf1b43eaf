-- So many numbers come to the first place of an empty table; at the end the kinds are compared with those of as many numbers.
use mathlib.Core.Path.{◌≡◌, ◌∙◌, ap, sym}
use Prim.Native.Nat.{◌+◌}
use native.Mathlib.Omega.{arith}
use lib.IntN.{pos}
use lib.ListN.{length, replicate, length-replicate}
use Rattle.stack.specs.Stack.{same_kinds}
use Rattle.form.specs.Paths.{met, comes, formed}
use Rattle.form.specs.Table.{arrived, bits_of, kinds_at, places_from}
use Rattle.form.proofs.Forms.{form-right, form-wrong, same_some, other_some, start-stands}
use Rattle.form.proofs.checking.formed_in.Goals as goal
use Rattle.form.proofs.checking.formed_in.Goals.{After-arrive}

-- the numbers come to the first place of a table of zeros
start : (c : After-arrive) → arrived c.arrive.result (places_from c.arrive.new.t 0 (length c.args.words.now + 1)) ≡ comes (bits_of (replicate c.args.taken (pos 0))) 0 (places_from (replicate (length c.args.t.now) 0) 0 (length c.args.words.now + 1))
start c = c.arrive.ensures.is ∙ (λ i. comes (bits_of (c.numbers.ensures i)) 0 (places_from (c.requires.3 i) 0 (length c.args.words.now + 1)))

pub check-requires : goal.check-requires
check-requires c =
    (omega (arith, c.requires.0), c.arrive.ensures.low, start-stands (length c.args.t.now) c.args.taken (length c.args.words.now) c.arrive.result c.arrive.new.t (start (goal.at.check-requires c).After-arrive) ∙ ap met (sym c.numbers.ensures))

pub returns-then-ne : goal.returns-then-ne
unfolding formed
returns-then-ne c =
    form-wrong (length c.args.t.now) c.args.taken (length c.args.words.now) c.arrive.result c.arrive.new.t (start (goal.at.returns-then-ne c).After-arrive)
    c.args.words.now c.check.result c.check.new.t c.check.ensures.is c.args.count (other_some c.check.result c.args.count c.if-ne.ensures)

pub returns : goal.returns
unfolding formed
returns c =
    let count : length c.numbers-2.new.stack ≡ c.args.count = ap length c.numbers-2.ensures ∙ length-replicate c.args.count (pos 0) in
    form-right (length c.args.t.now) c.args.taken (length c.args.words.now) c.arrive.result c.arrive.new.t (start (goal.at.returns c).After-arrive)
    c.args.words.now c.check.result c.check.new.t c.check.ensures.is c.args.count (same_some c.check.result c.args.count c.if-ne.ensures) c.same.result
    (c.same.ensures ∙ (λ i. same_kinds (bits_of (c.numbers-2.ensures i)) (kinds_at c.check.new.t (length c.args.words.now) (count i))))
