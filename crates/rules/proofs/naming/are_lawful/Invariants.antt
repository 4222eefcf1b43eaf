-- The names below k are in order.
use mathlib.Core.Bool.{Bool, not, ◌&&◌, ◌||◌}
use mathlib.Core.List.{List}
use Prim.Native.Nat.{ℕ}
use Rattle.fixed.proofs.Scans.{Passing}
use Rattle.fixed.specs.Loops.{all_between}
use Rattle.record.specs.Reading.{the_none, the_all, name_is, same_names, name_place}
use Rattle.rules.proofs.naming.are_lawful.Given as goal

-- name k is in order
abbrev pub Fair : List ℕ → ℕ → Bool
Fair s k = not (name_is s (name_place s k) the_all) && (name_is s (name_place s k) the_none || all_between (λ j. not (same_names s (name_place s j) (name_place s k))) 0 k)

abbrev pub invariant-loop-k : goal.invariant-loop-k
invariant-loop-k l = Passing (Fair l.s) 0 l.n l.k
