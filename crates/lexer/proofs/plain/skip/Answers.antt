-- A plain byte is passed over, and the mode stays.
use mathlib.Core.Path.{refl, sym, ◌∙◌}
use native.Mathlib.Omega.{arith}
use borrow.Author.Rules.{rules}
use Rattle.lexer.specs.Scans.{scan_at}
use Rattle.lexer.proofs.Passing.{plain_turn, plain-in, found_in}
use Rattle.lexer.proofs.plain.skip.Goals as goal

pub loop-b-preserved : goal.loop-b-preserved
loop-b-preserved c =
    let loop = c.loop-b in
    let text = c.args.text.now in
    let byte = c.in-Some.ensures.lookup.3 in
    let plain = plain-in loop.s _ loop.invariant.2 _ (sym c.is_plain.ensures ∙ c.if-not-is_plain.false) in (
      omega arith,
      search rules,
      refl,
      found_in c.pass.result _ (c.pass.ensures.stays ∙ loop.invariant.2) _ _
          ∙ plain_turn (scan_at loop.s loop.word) text loop.i _ byte.0 _ (byte.1 0) c.if-s-ge-BOUND.false plain c.pass.ensures.is ∙ loop.invariant.3,
    )
