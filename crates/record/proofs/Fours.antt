-- Ranges of a* and b* that are made of four numbers, each through its bits, are those numbers.
use mathlib.Core.Path.{◌≡◌, ap}
use Prim.Native.Nat.{◌<◌, ◌^◌}
use lib.IntN.{ℤ}
use lib.Signed.{mag}
use mir.Syntax.{w32}
use mir.Val.{to_z, of_z}
use Rattle.fixed.proofs.Signs.{signed_is}
use Rattle.record.specs.declared.types.Ranges.{Ranges}
use Rattle.record.specs.declared.types.Four.{Four}

-- a number that went through its bits
abbrev pub through : ℤ → ℤ
through z = to_z w32 (of_z w32 z)

-- four numbers as ranges
abbrev pub well_named : ℤ → ℤ → ℤ → ℤ → Ranges
well_named a b c d = record { amin = a; amax = b; bmin = c; bmax = d }

pub ranged : (q : Four) {p : Four} → mag q.a < 2 ^ 31 → mag q.b < 2 ^ 31 → mag q.c < 2 ^ 31 → mag q.d < 2 ^ 31 → q ≡ p
    → well_named (through q.a) (through q.b) (through q.c) (through q.d) ≡ well_named p.a p.b p.c p.d
ranged q ha hb hc hd e = λ i.
    record {
      amin = signed_is _ ha (ap (λ (x : Four). x.a) e) i;
      amax = signed_is _ hb (ap (λ (x : Four). x.b) e) i;
      bmin = signed_is _ hc (ap (λ (x : Four). x.c) e) i;
      bmax = signed_is _ hd (ap (λ (x : Four). x.d) e) i;
    }
