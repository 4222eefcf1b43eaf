-- A table against a rule: one test, which antt computes over all the entries, and the law that turns it into the rule at each of them.
use mathlib.Core.Path.{◌≡◌, sym, ap}
use mathlib.Core.Bool.{Bool, true, false, true≢false}
use mathlib.Core.List.{List}
use Prim.Native.Nat.{ℕ, ◌<◌}
use native.Mathlib.Nat.{zero-add}
use borrow.Author.Tests.{eqb-true}
use lib.Dec.{eqb}
use lib.IntN.{ℤ, pos, negsuc}
use lib.ListN.{get_or}
use Rattle.fixed.specs.Loops.{all_from}
use Rattle.fixed.proofs.Scans.{all-each}

-- whether a whole number is n
abbrev pub is_number : ℤ → ℕ → Bool
is_number (pos m) n = eqb m n
is_number (negsuc m) n = false

is-number : (z : ℤ) (n : ℕ) → is_number z n ≡ true → pos n ≡ z
is-number (pos m) n e = ap pos (sym (eqb-true m n e))
is-number (negsuc m) n e = absurd (true≢false (sym e))

module _ (rule : ℕ → ℤ) (table : List ℕ) where
  -- entry k is the rule's number
  abbrev pub right : ℕ → Bool
  right k = is_number (rule k) (get_or table k 0)

  pub entry-is : (n : ℕ) → all_from right 0 n ≡ true → (k : ℕ) → k < n → pos (get_or table k 0) ≡ rule k
  entry-is n all k below = is-number (rule k) (get_or table k 0) (rw (zero-add k) at (all-each right 0 n all k below))
