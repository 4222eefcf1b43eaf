-- What is left to check from p on is what there was to check; the stack has the kinds of the place `held`.
use mathlib.Core.Path.{◌≡◌}
use Prim.Native.Nat.{◌+◌}
use lib.ListN.{length, drop}
use Rattle.form.specs.Paths.{met, checks, at}
use Rattle.form.specs.Table.{Low, place_at, places_from}
use Rattle.form.proofs.checking.check.Given as goal

abbrev pub invariant-loop-p : goal.invariant-loop-p
invariant-loop-p l = Low l.t × (place_at l.t l.held ≡ met l.stack) × (checks (drop l.p l.words) l.m (at (drop l.p (places_from l.t 0 (length l.words + 1)))) ≡ checks l.words 0 (at (places_from l.initial.t 0 (length l.words + 1))))
