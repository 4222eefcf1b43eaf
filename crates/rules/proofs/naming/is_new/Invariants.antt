-- None of the names passed so far is that at q; `at` is where the next one stands.
use mathlib.Core.Path.{◌≡◌}
use mathlib.Core.Bool.{Bool, not}
use mathlib.Core.List.{List}
use Prim.Native.Nat.{ℕ, ◌*◌, ◌≤◌}
use Rattle.fixed.proofs.Scans.{Passing}
use Rattle.record.specs.Reading.{same_names, name_place}
use Rattle.rules.proofs.naming.is_new.Given as goal

-- name j is another than that at q
abbrev pub Other : List ℕ → ℕ → ℕ → Bool
Other s q j = not (same_names s (name_place s j) q)

abbrev pub invariant-loop : goal.invariant-loop
invariant-loop l = (l.at ≡ name_place l.s l.counter) × (l.at ≤ 256 * l.counter) × Passing (Other l.s l.q) 0 l.k l.counter
