-- What a byte ends and joins is the definition's turn.
use mathlib.Core.Path.{◌∙◌}
use borrow.Author.Rules.{rules}
use Rattle.lexer.proofs.Findings.{found-end, found-past, found-stop, found-met, found_turn}
use Rattle.lexer.proofs.scans.look.Goals as goal

pub returns-then-s-ge-BOUND : goal.returns-then-s-ge-BOUND
returns-then-s-ge-BOUND c = found-past _ _ _ c.in-Some.ensures.lookup.3.0 c.if-s-ge-BOUND.true ∙ c.loop-b.invariant.1

pub returns-then-not-is_nothing : goal.returns-then-not-is_nothing
returns-then-not-is_nothing c =
    let byte = c.in-Some.ensures.lookup.3 in
    found-stop _ _ _ byte.0 _ (byte.1 0) c.if-s-ge-BOUND.false _ _ _ c.end_byte-e.ensures.is c.end_byte-e.ensures.meets c.is_nothing.ensures
    c.if-not-is_nothing.true ∙ c.loop-b.invariant.1

pub returns-then-not-is_nothing-2 : goal.returns-then-not-is_nothing-2
returns-then-not-is_nothing-2 c =
    let byte = c.in-Some.ensures.lookup.3 in
    found-met _ _ _ byte.0 _ (byte.1 0) c.if-s-ge-BOUND.false _ _ _ c.end_byte-e.ensures.is c.end_byte-e.ensures.meets c.is_nothing.ensures
    c.if-not-is_nothing.false _ _ _ c.join_byte-j.ensures.is c.join_byte-j.ensures.meets c.is_nothing-in-Some.ensures c.if-not-is_nothing-2.true
    ∙ c.loop-b.invariant.1

pub loop-b-preserved-then-has_plain : goal.loop-b-preserved-then-has_plain
loop-b-preserved-then-has_plain c =
    let byte = c.in-Some.ensures.lookup.3 in (
      search rules,
      c.pass_over-r.ensures.is
          ∙ found_turn _ _ _ byte.0 _ (byte.1 0) c.if-s-ge-BOUND.false _ _ _ c.end_byte-e.ensures.is c.end_byte-e.ensures.meets c.is_nothing.ensures
          c.if-not-is_nothing.false _ _ _ c.join_byte-j.ensures.is c.join_byte-j.ensures.meets c.is_nothing-in-Some.ensures c.if-not-is_nothing-2.false
          ∙ c.loop-b.invariant.1,
    )

pub loop-b-preserved : goal.loop-b-preserved
loop-b-preserved c =
    let byte = c.in-Some.ensures.lookup.3 in (
      search rules,
      found_turn _ _ _ byte.0 _ (byte.1 0) c.if-s-ge-BOUND.false _ _ _ c.end_byte-e.ensures.is c.end_byte-e.ensures.meets c.is_nothing.ensures
          c.if-not-is_nothing.false _ _ _ c.join_byte-j.ensures.is c.join_byte-j.ensures.meets c.is_nothing-in-Some.ensures c.if-not-is_nothing-2.false
          ∙ c.loop-b.invariant.1,
    )

pub returns : goal.returns
returns c = found-end _ _ _ c.in_default.ensures.lookup.3 ∙ c.loop-b.invariant.1
