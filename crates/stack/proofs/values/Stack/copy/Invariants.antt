-- The loop has pushed the first i of the top n, which `copied` has in front.
use mathlib.Core.Path.{◌≡◌}
use mathlib.Core.List.{◌++◌}
use Prim.Native.Nat.{◌-◌}
use lib.ListN.{drop, take}
use Rattle.stack.proofs.values.Stack.copy.Given as goal

abbrev pub invariant-loop-i : goal.invariant-loop-i
invariant-loop-i l = l.self ≡ drop (l.n - l.i) (take l.n l.initial.self) ++ l.initial.self
