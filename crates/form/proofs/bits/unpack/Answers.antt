use mathlib.Core.Path.{◌∙◌, ap, sym}
use Prim.Native.Nat.{◌-◌, ◌<◌}
use native.Mathlib.Omega.{arith}
use lib.ListN.{length}
use mir.Syntax.{w32}
use mir.Val.{to_z, of_z}
use Rattle.fixed.proofs.Signs.{signed_is}
use Rattle.form.proofs.Tables.{unpack-turn, up_none, pushed-length}
use Rattle.form.proofs.bits.unpack.Goals as goal

pub loop-i-preserved : goal.loop-i-preserved
loop-i-preserved c =
    let room : length c.loop-i.stack < 100 = omega arith in
    (omega (arith, ap length c.push.ensures, pushed-length (to_z w32 (of_z w32 c.truth.result)) c.loop-i.stack room), unpack-turn c.loop-i.stack c.args.n c.loop-i.i c.loop-i.rest _ c.loop-i-test.true room (signed_is c.truth.result c.truth.type_inv c.truth.ensures) c.push.ensures c.loop-i.invariant.1)

pub returns : goal.returns
returns c = sym (up_none c.loop-i.rest (c.args.n - c.loop-i.i) c.loop-i.stack (omega arith)) ∙ c.loop-i.invariant.1
