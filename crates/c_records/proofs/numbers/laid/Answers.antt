-- Each number is its field, once its bits are read back: three at a time.
use mathlib.Core.Path.{◌≡◌, refl}
use mathlib.Core.List.{List, ◌∷◌}
use Prim.Native.Nat.{◌<◌, ◌^◌}
use native.Mathlib.Omega.{arith}
use lib.IntN.{ℤ}
use lib.Signed.{mag}
use mir.Syntax.{w32}
use mir.ValLaws.{to_z_pos}
use Rattle.fixed.proofs.Signs.{signed-within, signed_back}
use Rattle.record.proofs.Fours.{through}
use Rattle.record.specs.declared.types.Triple.{Triple}
use Rattle.c_records.specs.Records.{three}
use Rattle.c_records.proofs.numbers.laid.Goals as goal

-- three numbers, before others
back : (t : Triple) {zs ys : List ℤ} → mag t.x < 2 ^ 31 → mag t.y < 2 ^ 31 → mag t.z < 2 ^ 31 → zs ≡ ys
    → through t.x ∷ through t.y ∷ through t.z ∷ zs ≡ three t ys
back t hx hy hz e = λ i. signed-within t.x hx i ∷ signed-within t.y hy i ∷ signed-within t.z hz i ∷ e i

pub returns : goal.returns
returns c =
    let p = c.struct_told-1.given in
    let q = c.struct_told-2-1.given in
    let r = c.struct_told-3-1.given in
    let a = c.struct_told-4-1.given in
    let b = c.struct_told-5-1.given in
    let d = c.struct_told-6-1.given in
    let rest =
    back _ p.0.1 p.1.0.1 p.1.1.0.1
    (back _ q.0.1 q.1.0.1 q.1.1.0.1
    (back _ r.0.1 r.1.0.1 r.1.1.0.1
    (back _ a.0.1 a.1.0.1 a.1.1.0.1
    (back _ b.0.1 b.1.0.1 b.1.1.0.1
    (back _ d.0.1 d.1.0.1 d.1.1.0.1 refl))))) in
    λ i. to_z_pos w32 c.args.own (omega arith) i ∷ signed_back c.ranges.kind i ∷ rest i
