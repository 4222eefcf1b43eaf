-- Where there are n, the array's top n are rotated; else nothing turns.
use mathlib.Core.Path.{◌≡◌, ◌∙◌, ap, sym}
use Prim.Native.Nat.{ℕ, ◌-◌}
use lib.IntN.{nat_abs}
use mir.Syntax.{w32}
use mir.Val.{to_z, of_z}
use borrow.Rule.Slice.PartMut.{mid_of}
use Rattle.std.specs.Int.{int_rem_euclid}
use Rattle.std.specs.List.{slice_rotate_right}
use Rattle.std.proofs.lemmas.Int.{to_z_pos}
use Rattle.fixed.proofs.Signs.{signed_back, signed_is}
use native.Mathlib.Omega.{arith}
use Rattle.stack.specs.Stack.{rolled, turns}
use Rattle.stack.specs.Memory.{stack_of}
use Rattle.stack.proofs.Stacks.{stack-length, rolled-short, rolled-none, roll_is, turns_is, turns_le}
use Rattle.stack.proofs.values.Stack.roll.Goals as goal
use Rattle.stack.proofs.values.Stack.roll.Goals.{else-n-gt0-via-then-n-gt0+else-n-self, else-n-gt0-via-else-n-gt0}

pub returns-then-n-self : goal.returns-then-n-self
returns-then-n-self c =
    let s = c.self.inside in
    let k : nat_abs (to_z w32 (of_z w32 c.rem_euclid-k.result)) ≡ turns c.args.j c.args.n =
    ap nat_abs (signed_is c.rem_euclid-k.result c.rem_euclid-k.type_inv (c.rem_euclid-k.ensures.value ∙ (λ i. int_rem_euclid (signed_back c.ranges.j i) (to_z_pos w32 c.args.n (omega arith) i)) ∙ turns_is c.args.j c.args.n)) in
    roll_is s.items c.turn.new.values s.height c.args.n (turns c.args.j c.args.n) (omega arith) c.if-n-self.true (turns_le c.args.j c.args.n c.if-n-gt0.true) (c.turn.ensures ∙ ap (slice_rotate_right (mid_of (s.height - c.args.n) (s.height - (s.height - c.args.n)) s.items)) k) ∙ ap (rolled c.args.n (turns c.args.j c.args.n)) c.self.view_is

pub returns-else-n-gt0 : goal.returns-else-n-gt0
returns-else-n-gt0 c =
    let s = c.self.inside in
    let k = turns c.args.j c.args.n in
    sym c.self.view_is
    ∙ elim c.else-n-gt0.branch [
      | else-n-gt0-via-then-n-gt0+else-n-self w ↦ rolled-short c.args.n k (stack_of s.items s.height) (rw (stack-length s.items s.height) (omega arith))
      | else-n-gt0-via-else-n-gt0 w ↦ rolled-none k (stack_of s.items s.height) ∙ ap (λ (n : ℕ). rolled n k (stack_of s.items s.height)) (let e : 0 ≡ c.args.n = omega arith in e)
    ]
    ∙ ap (rolled c.args.n k) c.self.view_is
