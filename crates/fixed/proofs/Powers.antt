-- The powers of a tint: their bounds, and a turn of the loop that makes them.
use mathlib.Core.Path.{◌≡◌, ◌∙◌}
use Prim.Native.Nat.{ℕ, zero, suc, ◌+◌, ◌-◌, ◌*◌, ◌/◌, ◌≤◌, ◌<◌}
use native.Mathlib.Nat.{mul-le-mul, div-lt_iff_lt-mul}
use native.Mathlib.Numerals.{add-one}
use native.Mathlib.Omega.{arith}
use lib.Dec.{lit<}
use Rattle.fixed.specs.Numbers.{tint_power}

pub power_small : (q x : ℕ) → q ≤ 1000000 → x ≤ 1000000 → q * x ≤ 1000000000000
power_small q x hq hx = mul-le-mul hq hx

pub power_le : (q x : ℕ) → q ≤ 1000000 → x ≤ 1000000 → (2 * (q * x) + 1000000) / 2000000 ≤ 1000000
power_le q x hq hx =
    let p = power_small q x hq hx in
    let d : 0 < 2000000 = lit< tt in
    let f : 2 * (q * x) + 1000000 < 1000001 * 2000000 = omega arith in
    let g : (2 * (q * x) + 1000000) / 2000000 < 1000001 = (div-lt_iff_lt-mul d).1 f in
    omega arith

pub power-turn : (q x i : ℕ) → 1 ≤ i → q ≡ tint_power x i → (2 * (q * x) + 1000000) / 2000000 ≡ tint_power x (i + 1)
unfolding tint_power
power-turn q x zero h e = absurd (omega arith)
power-turn q x (suc i) h e = rw (add-one, e)

pub power-end : (q x e i : ℕ) → 1 ≤ i → e ≤ i → i ≤ (e - 1) + 1 → q ≡ tint_power x i → q ≡ tint_power x e
unfolding tint_power
power-end q x zero i h l m p = let z : i ≡ 1 = omega arith in p ∙ rw z
power-end q x (suc e) i h l m p = let z : i ≡ suc e = omega arith in p ∙ rw z
