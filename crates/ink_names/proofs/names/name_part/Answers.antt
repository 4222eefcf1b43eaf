-- `name_part`: the part from the place of a name on has as many bytes as are asked for, and stands there.
use mathlib.Core.Path.{◌≡◌, refl}
use Prim.Native.Nat.{◌+◌, ◌-◌}
use native.Mathlib.Omega.{arith}
use Rattle.ink_names.specs.Names.{name_start}
use Rattle.ink_names.proofs.names.name_part.Goals as goal

pub returns : goal.returns
returns c =
    let start = c.name_start-from in
    let a = c.args in
    let size : name_start a.n + a.size - name_start a.n ≡ a.size = omega arith in
    record {
      bytes = rw (start.ensures, size);
      memory = refl;
      offset = omega (arith, start.ensures);
    }
