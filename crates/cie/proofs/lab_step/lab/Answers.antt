-- `cie::lab_step::lab` meets its contract. Each step on whole numbers is answered by its expression (`Exp`), and each float by what `share_of` ensures.
-- Assumes nothing.
use mathlib.Core.Path.{◌≡◌, refl, ◌∙◌}
use lib.IntN.{ℤ}
use lib.Ieee.{binary64, of_int, of_bits}
use mir.Syntax.{w32}
use mir.Val.{SFits}
use mir.Facts.{to_z-of_z}
use Rattle.cie.specs.Steps.{first_cubed, second_cubed, third_cubed, first, second, third, share, whole}
use Rattle.cie.proofs.Exp.{Exp, i32, num, ◌⊕◌, ◌⊖◌, ◌⊗◌, fits, is, floats}
use Rattle.cie.proofs.lab_step.lab.Goals as goal

-- ---- the whole numbers of the source
module _ {l : ℤ} (f : SFits w32 l) where
  abbrev M : Exp
  M = i32 f ⊕ num 16000000

  abbrev L : Exp
  L = num 108 ⊗ i32 f

module _ {l x : ℤ} (f : SFits w32 l) (g : SFits w32 x) where
  abbrev P : Exp
  P = num 125 ⊗ M f ⊕ num 29 ⊗ i32 g

  abbrev P₀ : Exp
  P₀ = num 108 ⊗ (P ⊖ num 2000000000)

  abbrev N : Exp
  N = num 50 ⊗ M f ⊖ num 29 ⊗ i32 g

  abbrev N₀ : Exp
  N₀ = num 108 ⊗ (N ⊖ num 800000000)

-- ---- the program's literals are those of the definition
x-lits : (of_bits binary64 0x420b_0223_8800_0000 ≡ whole 14500000000) × (of_bits binary64 0x42a6_2e81_ae72_0000 ≡ whole 12194500000000)
unfolding of_bits of_int
x-lits = (refl, refl)

y-lits : (of_bits binary64 0x419b_a814_0000_0000 ≡ whole 116000000) × (of_bits binary64 0x4236_b6ca_6d00_0000 ≡ whole 97556000000)
unfolding of_bits of_int
y-lits = (refl, refl)

z-lits : (of_bits binary64 0x41f5_9b4f_a000_0000 ≡ whole 5800000000) × (of_bits binary64 0x4291_bece_2528_0000 ≡ whole 4877800000000)
unfolding of_bits of_int
z-lits = (refl, refl)

-- ---- the needs
pub returns : goal.returns
unfolding first second third
returns c =
    let f = c.ranges in
    rw (
      c.share_of-x.ensures
          ∙ (λ i. share (first_cubed (is (P f.l f.a) tt i)) (is (P f.l f.a) tt i) (x-lits.0 i) (is (P₀ f.l f.a) tt i) (x-lits.1 i)),
      c.share_of-y.ensures
          ∙ (λ i. share (second_cubed (to_z-of_z f.l i)) (is (M f.l) tt i) (y-lits.0 i) (is (L f.l) tt i) (y-lits.1 i)),
      c.share_of-z.ensures
          ∙ (λ i. share (third_cubed (is (N f.l f.b) tt i)) (is (N f.l f.b) tt i) (z-lits.0 i) (is (N₀ f.l f.b) tt i) (z-lits.1 i)),
    )

pub overflow_cast-m : goal.overflow_cast-m
overflow_cast-m = (λ c. fits (i32 c.ranges.l) tt)

pub overflow_add-m : goal.overflow_add-m
overflow_add-m = (λ c. fits (M c.ranges.l) tt)

pub overflow_mul-p : goal.overflow_mul-p
overflow_mul-p = (λ c. fits (num 125 ⊗ M c.ranges.l) tt)

pub overflow_cast-p : goal.overflow_cast-p
overflow_cast-p = (λ c. fits (i32 c.ranges.a) tt)

pub overflow_mul-p-2 : goal.overflow_mul-p-2
overflow_mul-p-2 = (λ c. fits (num 29 ⊗ i32 c.ranges.a) tt)

pub overflow_add-p : goal.overflow_add-p
overflow_add-p = (λ c. fits (P c.ranges.l c.ranges.a) tt)

pub overflow_mul-n : goal.overflow_mul-n
overflow_mul-n = (λ c. fits (num 50 ⊗ M c.ranges.l) tt)

pub overflow_cast-n : goal.overflow_cast-n
overflow_cast-n = (λ c. fits (i32 c.ranges.b) tt)

pub overflow_mul-n-2 : goal.overflow_mul-n-2
overflow_mul-n-2 = (λ c. fits (num 29 ⊗ i32 c.ranges.b) tt)

pub overflow_sub-n : goal.overflow_sub-n
overflow_sub-n = (λ c. fits (N c.ranges.l c.ranges.b) tt)

pub overflow_sub-p : goal.overflow_sub-p
overflow_sub-p = (λ c. fits (P c.ranges.l c.ranges.a ⊖ num 2000000000) tt)

pub overflow_mul-p-3 : goal.overflow_mul-p-3
overflow_mul-p-3 = (λ c. fits (P₀ c.ranges.l c.ranges.a) tt)

pub share_of-x-requires : goal.share_of-x-requires
share_of-x-requires = (λ c. (floats (P c.ranges.l c.ranges.a) tt, floats (P₀ c.ranges.l c.ranges.a) tt))

pub overflow_cast-l : goal.overflow_cast-l
overflow_cast-l = (λ c. fits (i32 c.ranges.l) tt)

pub overflow_mul-l : goal.overflow_mul-l
overflow_mul-l = (λ c. fits (L c.ranges.l) tt)

pub share_of-y-requires : goal.share_of-y-requires
share_of-y-requires = (λ c. (floats (M c.ranges.l) tt, floats (L c.ranges.l) tt))

pub overflow_sub-n-2 : goal.overflow_sub-n-2
overflow_sub-n-2 = (λ c. fits (N c.ranges.l c.ranges.b ⊖ num 800000000) tt)

pub overflow_mul-n-3 : goal.overflow_mul-n-3
overflow_mul-n-3 = (λ c. fits (N₀ c.ranges.l c.ranges.b) tt)

pub share_of-z-requires : goal.share_of-z-requires
share_of-z-requires = (λ c. (floats (N c.ranges.l c.ranges.b) tt, floats (N₀ c.ranges.l c.ranges.b) tt))
