-- A pair of digits is passed over.
use mathlib.Core.Path.{◌≡◌, ap, ◌∙◌}
use Prim.Native.Nat.{◌+◌}
use native.Mathlib.Omega.{arith}
use lib.ListN.{set, get_or}
use borrow.Author.Rules.{rules}
use Rattle.lexical.specs.Chars.{hex_of}
use Rattle.lexer.proofs.Passing.{pair-again}
use Rattle.lexer.proofs.plain.skip_pairs.Goals as goal

pub loop-a-preserved : goal.loop-a-preserved
loop-a-preserved c =
    let loop = c.loop-a in
    let text = c.args.text.now in
    let x = c.in-Some-Some.ensures.lookup.3 in
    let y = c.in-Some-Some.ensures'.lookup.3 in
    let next : c.saturating_add.result ≡ loop.i + 1 = omega (arith, c.saturating_add.ensures, x.0, y.0) in (
      omega arith,
      search rules,
      pair-again c.args.l.number loop.size loop.seen c.args.l.first loop.i _ _ _ text loop.word _ loop.invariant.1
          (omega (arith, y.0, next)) (omega arith) (c.hex_of-a.ensures.is ∙ ap hex_of (x.1 0))
          (c.hex_of-b.ensures.is ∙ ap hex_of (y.1 0 ∙ ap (λ k. get_or text k 0) next)) c.if-a-ge16.false c.if-b-ge16.false
          (c.note.ensures ∙ ap (set loop.word loop.size) c.hex_byte.ensures) c.deeper-size.ensures ∙ loop.invariant.2,
    )

pub returns-clause-is : goal.returns-clause-is
returns-clause-is c = rw c.requires.1 c.loop-a.invariant.2
