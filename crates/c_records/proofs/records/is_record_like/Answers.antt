-- The two tests of the definition, on the kind that was read.
use mathlib.Core.Path.{sym, ap, ◌∙◌}
use mathlib.Core.Bool.{◌&&◌}
use Prim.Native.Nat.{ℕ}
use native.Mathlib.Omega.{arith}
use borrow.Author.Tests.{le-leb, lt-leb}
use lib.Dec.{leb}
use Rattle.c_records.specs.Records.{body_of, named_count, zero_from, record_like}
use Rattle.c_records.proofs.records.is_record_like.Goals as goal

pub returns-then-kind-le8 : goal.returns-then-kind-le8
unfolding record_like
returns-then-kind-le8 c =
    let v = c.args.v.now in
    let kind = c.small_at-kind in
    let zero = c.is_zero_from.ensures ∙ ap (zero_from v) (c.named_count.ensures v) in
    (λ i. sym (le-leb kind.result 8 (omega arith)) i && zero i) ∙ ap (λ (k : ℕ). leb k 8 && zero_from v (named_count (body_of k v))) kind.ensures

pub returns-else-kind-le8 : goal.returns-else-kind-le8
unfolding record_like
returns-else-kind-le8 c =
    let v = c.args.v.now in
    let kind = c.small_at-kind in
    let unknown = lt-leb kind.result 8 (omega arith) in
    unknown ∙ (λ i. sym unknown i && zero_from v (named_count (body_of kind.result v))) ∙ ap (λ (k : ℕ). leb k 8 && zero_from v (named_count (body_of k v))) kind.ensures
