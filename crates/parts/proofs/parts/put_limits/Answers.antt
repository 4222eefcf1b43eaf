use mathlib.Core.Path.{◌≡◌, refl, ◌∙◌}
use native.Mathlib.Omega.{arith}
use mir.Syntax.{w32}
use mir.Val.{to_z, of_z}
use borrow.Author.Rules.{rules}
use Rattle.fixed.specs.Values.{value}
use Rattle.fixed.proofs.Signs.{signed_is}
use Rattle.space.proofs.Ends.{low-at, high-at}
use Rattle.parts.specs.Recipes.{limits_of}
use Rattle.parts.proofs.Words.{limits-turn}
use Rattle.parts.proofs.parts.put_limits.Goals as goal

pub loop-k-init : goal.loop-k-init
unfolding limits_of
loop-k-init c = record { room = refl; stored = λ s r. refl }

pub put-requires : goal.put-requires
put-requires c = omega (arith, c.loop-k.invariant.room)

pub loop-k-preserved : goal.loop-k-preserved
loop-k-preserved c =
    let k = c.loop-k.k in
    let b = c.args.bounds in
    let lo : to_z w32 (of_z w32 (value b.lo k)) ≡ value b.lo k = search rules in
    let hi : to_z w32 (of_z w32 (value b.hi k)) ≡ value b.hi k = search rules in
    record {
      room = c.put.auto.words ∙ c.loop-k.invariant.room;
      stored = λ s r.
          limits-turn s _ _ k (c.loop-k.invariant.stored s r) (signed_is _ c.word_of.type_inv c.word_of.ensures)
          (lo ∙ low-at r k (omega arith)) (hi ∙ high-at r k (omega arith)) c.put.ensures;
    }

pub shape_of-words : goal.shape_of-words
shape_of-words c = c.loop-k.invariant.room

pub returns : goal.returns
returns c = let e : c.loop-k.k ≡ c.args.m = omega arith in λ s r. c.loop-k.invariant.stored s r ∙ rw e
