use mathlib.Core.Path.{◌∙◌, ap}
use mathlib.Core.List.{List}
use native.Mathlib.Omega.{arith}
use lib.IntN.{ℤ}
use Rattle.runner.specs.Runs.{runs}
use Rattle.runner.proofs.Stepped.{part-is, none_read, one-read}
use borrow.Author.Rules.{rules}
use Rattle.runner.proofs.running.run_steps.Goals as goal

pub loop-s-init : goal.loop-s-init
loop-s-init c =
    let a = c.args in
    (search rules, ap (λ (l : List ℤ). runs a.n a.count l a.given) (part-is a.words.now 1))

pub returns-in_default : goal.returns-in_default
returns-in_default c =
    let w = c.loop-s in
    rw (c.into.ensures, c.of_block.ensures.is, c.of_block.ensures.about)
    (none_read _ _ w.rest.now _ c.step_of.ensures c.in_default.is ∙ w.invariant.1)

pub end-requires : goal.end-requires
end-requires c = (one-read c.args.n c.args.count c.loop-s.rest.now c.loop-s.v c.step_of.ensures c.in-Some.s c.in-Some.size c.in-Some.is).stands _ c.in-Close.is

pub returns-in-Close : goal.returns-in-Close
returns-in-Close c = c.end.ensures ∙ ((one-read c.args.n c.args.count c.loop-s.rest.now c.loop-s.v c.step_of.ensures c.in-Some.s c.in-Some.size c.in-Some.is).ends _ c.in-Close.is ∙ c.loop-s.invariant.1)

pub act-v-requires : goal.act-v-requires
act-v-requires c = (one-read c.args.n c.args.count c.loop-s.rest.now c.loop-s.v c.step_of.ensures c.in-Some.s c.in-Some.size c.in-Some.is).range

pub offset_bounds-rest-size : goal.offset_bounds-rest-size
offset_bounds-rest-size c = let k = (one-read c.args.n c.args.count c.loop-s.rest.now c.loop-s.v c.step_of.ensures c.in-Some.s c.in-Some.size c.in-Some.is) in omega arith

pub slice_bounds-rest-count-in-loop-s : goal.slice_bounds-rest-count-in-loop-s
slice_bounds-rest-count-in-loop-s c = (one-read c.args.n c.args.count c.loop-s.rest.now c.loop-s.v c.step_of.ensures c.in-Some.s c.in-Some.size c.in-Some.is).high

pub slice_bounds-rest-start-in-loop-s : goal.slice_bounds-rest-start-in-loop-s
slice_bounds-rest-start-in-loop-s c = (one-read c.args.n c.args.count c.loop-s.rest.now c.loop-s.v c.step_of.ensures c.in-Some.s c.in-Some.size c.in-Some.is).high

pub loop-s-smaller : goal.loop-s-smaller
loop-s-smaller c = let k = (one-read c.args.n c.args.count c.loop-s.rest.now c.loop-s.v c.step_of.ensures c.in-Some.s c.in-Some.size c.in-Some.is) in omega arith

pub loop-s-preserved : goal.loop-s-preserved
loop-s-preserved c =
    (search rules, (one-read c.args.n c.args.count c.loop-s.rest.now c.loop-s.v c.step_of.ensures c.in-Some.s c.in-Some.size c.in-Some.is).leaves _ c.in_default-s.not-Close c.act-v.ensures ∙ c.loop-s.invariant.1)
