-- The length byte of the innermost space, where there is one.
use native.Mathlib.Omega.{arith}
use Rattle.reader.proofs.Rings.{name-none, name-some}
use Rattle.reader.proofs.frames.name_length.Goals as goal

pub returns-then-n-eq0 : goal.returns-then-n-eq0
returns-then-n-eq0 c =
    let args = c.args in
    let pre = c.requires in (record { is = λ marks. (name-none marks args.names.now args.x pre.1 pre.0 args.n c.if-n-eq0.true).0; room = λ marks. (name-none marks args.names.now args.x pre.1 pre.0 args.n c.if-n-eq0.true).1; small = omega arith })

pub returns : goal.returns
returns c =
    let if1 = c.if-n-eq0 in
    let args = c.args in
    let pre = c.requires in (record { is = λ marks. (name-some marks args.names.now args.x pre.1 pre.0 args.n if1.false).0; room = λ marks. (name-some marks args.names.now args.x pre.1 pre.0 args.n if1.false).1; small = omega arith })
