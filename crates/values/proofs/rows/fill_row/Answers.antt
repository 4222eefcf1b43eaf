use mathlib.Core.Path.{◌≡◌, refl, ◌∙◌, sym}
use Prim.Native.Nat.{◌<◌, ◌+◌, ◌*◌}
use native.Mathlib.Nat.{mul-add-mod_self_right, mod-eq_of_lt}
use native.Mathlib.Omega.{arith}
use Rattle.fixed.specs.Values.{filled}
use Rattle.fixed.proofs.Signs.{signed_is}
use Rattle.fixed.proofs.Listed.{filled-turn}
use Rattle.space.specs.Pages.{entry_of}
use Rattle.values.proofs.rows.fill_row.Goals as goal

pub loop-k-init : goal.loop-k-init
unfolding filled
loop-k-init c = λ s r. refl

pub entry-requires : goal.entry-requires
entry-requires c = (omega arith, omega arith, c.requires.2)

pub loop-k-preserved : goal.loop-k-preserved
loop-k-preserved c =
    let few : c.loop-k.k < c.args.m = omega arith in
    let component = sym (mul-add-mod_self_right c.args.row c.args.m c.loop-k.k ∙ mod-eq_of_lt few) in
    λ s r. filled-turn (λ j. entry_of c.args.page.now c.args.n s (c.args.row * c.args.m + j)) _ _ (c.loop-k.invariant s r) (signed_is _ c.entry.type_inv (c.entry.ensures s c.args.m r component))

pub returns : goal.returns
returns c = let e : c.loop-k.k ≡ c.args.m = omega arith in λ s r. c.loop-k.invariant s r ∙ rw e
