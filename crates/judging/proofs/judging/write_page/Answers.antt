use mathlib.Core.Path.{◌∙◌, refl, ap}
use mathlib.Core.List.{List, ◌++◌}
use Prim.Native.Nat.{ℕ, ◌≤◌}
use native.Mathlib.Omega.{arith}
use borrow.Author.Rules.{rules}
use lib.ListN.{length, drop}
use Rattle.std.proofs.lemmas.List.{take_all}
use Rattle.judging.proofs.Judged.{copy-turn, copied}
use Rattle.judging.proofs.judging.write_page.Goals as goal

pub loop-i-init : goal.loop-i-init
loop-i-init c = (refl, refl)

pub loop-i-preserved : goal.loop-i-preserved
loop-i-preserved c = (search rules, copy-turn _ c.args.page.now c.loop-i.i (omega arith) c.loop-i.invariant.1)

pub returns : goal.returns
returns c =
    let n = length c.args.page.now in
    let le : n ≤ n = omega arith in
    copied c.args.out.now c.args.page.now n c.loop-i.i (omega arith) c.requires le c.loop-i.invariant.1
    ∙ ap (λ (l : List ℕ). l ++ drop n c.args.out.now) (take_all n c.args.page.now le)
