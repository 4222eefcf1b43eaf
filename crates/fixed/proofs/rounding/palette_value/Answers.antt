-- Over 0..1 by the table, over every other range by the division: the half-up rounding that `part_way` gives is the nearest.
use borrow.Author.Rules.{rules}
use mathlib.Core.Path.{◌≡◌, ap, ◌∙◌, sym}
use Prim.Native.Nat.{ℕ, ◌+◌, ◌*◌, ◌/◌, ◌<◌, ◌≤◌}
use native.Mathlib.Nat.{div-lt_iff_lt-mul}
use native.Mathlib.Omega.{arith}
use lib.Dec.{lit<}
use lib.IntN.{pos, nat_abs}
use mir.Syntax.{w32}
use mir.Val.{to_z}
use mir.ValLaws.{to_z-of_z, to_z_pos}
use Rattle.fixed.specs.Numbers.{palette_value, OverOne}
use Rattle.fixed.proofs.Nearest.{palette-half-up}
use Rattle.fixed.proofs.rounding.palette_value.Goals as goal

-- over 0..1 no value is above 1
at_most_one : (b n : ℕ) → b ≤ 255 → pos n ≡ palette_value b (pos 0) (pos 1000000) → n ≤ 1000000
unfolding palette_value
at_most_one b n h e =
    let some : 0 < 255 = lit< tt in
    let few : b * 1000000 + 127 < 1000001 * 255 = omega arith in
    let q : (b * 1000000 + 127) / 255 < 1000001 = (div-lt_iff_lt-mul some).1 few in
    let is : n ≡ 0 + (b * 1000000 + 127) / 255 = ap nat_abs e in
    omega arith

-- what is known where the table has the byte, and the range is 0..1
module _ (c : goal.After-row_known-1) where
  abbrev read : ℕ
  read = c.in-Some.field-0.now

  is : pos read ≡ palette_value c.args.b (pos 0) (pos 1000000)
  unfolding OverOne
  is = let found = c.in-Some.ensures.lookup in ap pos (found.4 (omega arith) 0) ∙ c.requires.1 c.args.b found.3.0

  small : read ≤ 1000000
  small = at_most_one c.args.b read c.requires.0 is

pub overflow_cast-result : goal.overflow_cast-result
overflow_cast-result c = record { sfits = omega (arith, small c) }

pub returns-in-Some : goal.returns-in-Some
returns-in-Some c =
    let low : c.args.lo ≡ pos 0 = sym (to_z-of_z w32 _ c.ranges.lo) ∙ ap (to_z w32) c.if-lo-eq0.true in
    let high : c.args.hi ≡ pos 1000000 = sym (to_z-of_z w32 _ c.ranges.hi) ∙ ap (to_z w32) c.if-hi-eq1000000.true in
    to_z_pos w32 (read c) (omega (arith, small c)) ∙ is c ∙ (λ i. palette_value c.args.b (sym low i) (sym high i))

pub returns-in_default : goal.returns-in_default
returns-in_default c =
    let s = c.ranges in
    search rules ∙ simp (to_z-of_z w32 _ s.lo, to_z-of_z w32 _ s.hi) at c.part_way.ensures ∙ sym (palette-half-up c.args.b c.args.lo c.args.hi)
