use mathlib.Core.Path.{◌≡◌, refl, ap, ◌∙◌, sym}
use Prim.Native.Nat.{ℕ, ◌<◌, ◌+◌, ◌%◌}
use native.Mathlib.Nat.{zero-mod, mod_self, mod-eq_of_lt, mod-add-mod}
use native.Mathlib.Omega.{arith}
use lib.ListN.{length-set}
use Rattle.fixed.specs.Values.{listed}
use Rattle.fixed.proofs.Signs.{signed_is}
use Rattle.fixed.proofs.Listed.{listed-turn}
use Rattle.space.specs.Pages.{entry_of}
use Rattle.parts.proofs.parts.put_table.Goals as goal
use Rattle.parts.proofs.parts.put_table.Goals.{then-k-m, else-k-m}

-- the component of the entry after j
next : (m j k : ℕ) → k ≡ j % m → (k + 1) % m ≡ (j + 1) % m
next m j k e = ap (λ (x : ℕ). (x + 1) % m) e ∙ mod-add-mod j m 1

pub loop-j-init : goal.loop-j-init
unfolding listed
loop-j-init c = record { room = refl; stored = λ s r. refl; low = omega arith; component = sym (zero-mod _) }

pub entry-requires : goal.entry-requires
entry-requires c = (omega arith, omega arith, c.requires.4)

pub bounds-words-at : goal.bounds-words-at
bounds-words-at c = omega (arith, c.loop-j.invariant.room)

pub loop-j-preserved : goal.loop-j-preserved
loop-j-preserved c =
    let turn = c.loop-j in
    let a = c.args in
    let after = next a.m turn.j turn.k turn.invariant.component in
    record {
      room = simp length-set turn.invariant.room;
      stored = λ s r. listed-turn (entry_of a.page.now a.n s) _ _ _ (turn.invariant.stored s r) (signed_is _ c.entry.type_inv (c.entry.ensures s a.m r turn.invariant.component));
      low = elim c.if-k-m.branch [ then-k-m w ↦ rw w.k-is (omega arith) | else-k-m w ↦ rw w.k-is (omega arith) ];
      component = elim c.if-k-m.branch [
        | then-k-m w ↦ w.k-is ∙ sym (mod_self a.m) ∙ ap (λ (x : ℕ). x % a.m) (sym w.if-k-m.true) ∙ after
        | else-k-m w ↦
            let few : turn.k + 1 < a.m = omega (arith, w.if-k-m.false) in
            w.k-is ∙ sym (mod-eq_of_lt few) ∙ after
      ];
    }

pub shape_of-words : goal.shape_of-words
shape_of-words c = c.loop-j.invariant.room

pub returns : goal.returns
returns c = let e : c.loop-j.j ≡ c.args.size = omega arith in λ s r. c.loop-j.invariant.stored s r ∙ rw e
