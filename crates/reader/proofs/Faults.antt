-- What it says that a number is not refused, and how large a palette is.
use mathlib.Core.Path.{◌≡◌, refl, sym}
use mathlib.Core.Bool.{Bool, true, false, ◌&&◌, ◌||◌, not, cond, true≢false}
use Prim.Native.Nat.{ℕ, ◌+◌, ◌*◌, ◌/◌, ◌%◌, ◌≤◌}
use native.Mathlib.Omega.{arith}
use native.Mathlib.Nat.{mul-le-mul}
use borrow.Author.Tests.{eq-eqb, leb-true}
use lib.Dec.{eqb, leb}
use Rattle.fixed.proofs.Decide.{and_left, and_right}
use Rattle.lexical.specs.declared.types.Number.{Number}
use Rattle.lexical.specs.Numbers.{millionths, fits, whole_in, exactly}
use Rattle.keys.specs.Entries.{number_fault}

faultless : (a f w : Bool) → ◌≡◌ {A = ℕ} (cond a 12 (cond f (cond w 5 0) 13)) 0 → (f ≡ true) × (w ≡ false)
faultless true f w h = absurd (omega arith)
faultless false true true h = absurd (omega arith)
faultless false true false h = (refl, refl)
faultless false false w h = absurd (omega arith)

module _ (key index : ℕ) (n : Number) (h : number_fault key index n ≡ 0) where
  no-fault : (fits n ≡ true) × ((eqb key 10 && not (whole_in n 1 4)) ≡ false)
  unfolding number_fault
  no-fault = faultless ((eqb key 6 && not (exactly n 2)) || (eqb key 7 && not (exactly n index))) (fits n) (eqb key 10 && not (whole_in n 1 4)) h

  pub fault-fits : fits n ≡ true
  fault-fits = no-fault.0

pub whole-high : (n : Number) (lo hi : ℕ) → whole_in n lo hi ≡ true → millionths n / 1000000 ≤ hi
unfolding whole_in
whole-high n lo hi h =
    let a = eqb (millionths n % 1000000) 0 in
    let b = leb lo (millionths n / 1000000) in
    let c = leb (millionths n / 1000000) hi in
    let d = not n.minus || eqb (millionths n) 0 in
    leb-true (millionths n / 1000000) hi (and_left c d (and_right b (c && d) (and_right a (b && (c && d)) h)))

-- where the first test holds, the second one is not missing
held : (a b : Bool) → (a && not b) ≡ false → a ≡ true → b ≡ true
held true true h e = refl
held true false h e = absurd (true≢false h)
held false b h e = absurd (true≢false (sym e))

pub fault-whole : (key index : ℕ) (n : Number) → number_fault key index n ≡ 0 → key ≡ 10 → millionths n / 1000000 ≤ 255
fault-whole key index n h e =
    let w : whole_in n 1 4 ≡ true = held (eqb key 10) (whole_in n 1 4) (no-fault key index n h).1 (eq-eqb key 10 e) in
    let z : millionths n / 1000000 ≤ 4 = whole-high n 1 4 w in omega arith

pub palette-room : (c v : ℕ) → c ≤ 255 → v ≤ 65535 → c * (v + 1) ≤ 16711680
palette-room c v h k = let o : v + 1 ≤ 65536 = omega arith in mul-le-mul {n₂ = 255} {m₂ = 65536} h o
