use mathlib.Core.Path.{◌≡◌, refl, ◌∙◌}
use Prim.Native.Nat.{◌+◌}
use native.Mathlib.Omega.{arith}
use native.Mathlib.Numerals.{add-one}
use mir.Syntax.{w32}
use mir.Val.{to_z, of_z}
use borrow.Author.Rules.{rules}
use Rattle.fixed.specs.Values.{value, limit_step}
use Rattle.space.specs.Spaces.{low_of, high_of}
use Rattle.space.proofs.Ends.{low-at, high-at}
use Rattle.values.specs.Limits.{limited_to}
use Rattle.values.proofs.limits.limit_all.Goals as goal

pub loop-k-init : goal.loop-k-init
unfolding limited_to
loop-k-init c = λ s r. refl

pub loop-k-preserved : goal.loop-k-preserved
unfolding limited_to
loop-k-preserved c =
    λ s r.
    let k = c.loop-k.k in
    let b = c.args.bounds in
    let lo : to_z w32 (of_z w32 (value b.lo k)) ≡ value b.lo k = search rules in
    let hi : to_z w32 (of_z w32 (value b.hi k)) ≡ value b.hi k = search rules in
    let low = lo ∙ low-at r k (omega arith) in
    let high = hi ∙ high-at r k (omega arith) in
    let next : limit_step k (low_of s k) (high_of s k) (limited_to s k c.args.c) ≡ limited_to s (k + 1) c.args.c = rw add-one in
    c.limited-colour.ensures ∙ (λ i. limit_step k (low i) (high i) (c.loop-k.invariant s r i)) ∙ next

pub returns : goal.returns
returns c = let e : c.loop-k.k ≡ c.args.m = omega arith in λ s r. c.loop-k.invariant s r ∙ rw e
