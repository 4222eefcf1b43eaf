-- FORMAT.md, Recipes: "the input count, steps, one closing step, nothing more". What a list of words replies to components.
use Rattle.std.specs.Prelude.{ℕ, zero, suc, pred, ◌+◌, cond, Some, None, List, [], ◌∷◌, ℤ, ltb, eqb, length, drop}
use Rattle.fixed.specs.Values.{value, small_of, places, fills, started, limit_step, row_step, tint_step}
use Rattle.fixed.specs.Sizes.{longest}
use Rattle.fixed.specs.declared.values.Colour.{Colour}
use Rattle.form.specs.Steps.{part_of, form_step}
use Rattle.cie.specs.Answers.{Reply, refusal}
use Rattle.cie.specs.Closings.{closed}
use Rattle.cie.specs.declared.Closing.{Closing}
use Rattle.steps.specs.Steps.{step_of}
use Rattle.steps.specs.declared.Step.{Step}
use Rattle.steps.specs.declared.Step.TheVariants.{Limit, Row, Tint, Program, Close}

-- what one step comes to: the reply, or the colour after it
pub data Turn : Type 0 where
  done : Reply → Turn
  more : Colour → Turn

-- at a closing step of `size` words: 11 where anything follows it, then 9 where not n components but c were given, then the answer
unfoldable pub ended : List ℤ → ℕ → ℕ → Closing → ℕ → Colour → Reply
ended l n c k size v = cond (eqb size (length l)) (cond (eqb c n) (closed k v) (refusal 9 0)) (refusal 11 0)

-- the colour after a step that does not close, whose words stand at the front of l
abbrev pub stepped : List ℤ → Colour → Step → Colour
stepped l v (Limit k lo hi) = limit_step k lo hi v
stepped l v (Row m h) = row_step m h (drop 3 l) v
stepped l v (Tint e m) = tint_step e m (drop 3 l) (drop (3 + m) l) v
stepped l v (Program t m at n) = form_step t m (part_of l at n) v
stepped l v (Close k) = v

-- one step, whose words stand at the front of l
abbrev pub turn_of : List ℤ → ℕ → ℕ → Colour → ℕ → Step → Turn
turn_of l n c v size (Limit k lo hi) = more (stepped l v (Limit k lo hi))
turn_of l n c v size (Row m h) = more (stepped l v (Row m h))
turn_of l n c v size (Tint e m) = more (stepped l v (Tint e m))
turn_of l n c v size (Program t m at k) = more (stepped l v (Program t m at k))
turn_of l n c v size (Close k) = done (ended l n c k size v)

-- the steps after k words that are passed over; 11 where none is read
unfoldable pub runs_after : ℕ → ℕ → List ℤ → ℕ → Colour → Reply
runs_after n c [] k v = refusal 11 0
runs_after n c (w ∷ ws) (suc k) v = runs_after n c ws k v
runs_after n c (w ∷ ws) zero v =
    elim (step_of (w ∷ ws)) [
      | Some (s, size) ↦ elim (turn_of (w ∷ ws) n c v size s) [ done r ↦ r | more u ↦ runs_after n c ws (pred size) u ]
      | None ↦ refusal 11 0
    ]

-- the steps that stand in l, from the colour v on
abbrev pub runs : ℕ → ℕ → List ℤ → Colour → Reply
runs n c l v = runs_after n c l 0 v

-- the input count, then the steps
abbrev pub counted : ℕ → List ℤ → List ℤ → Reply
counted n ws cs = cond (fills n) (runs n (length cs) (drop 1 ws) (started places cs)) (refusal 11 0)

unfoldable pub ran : List ℤ → List ℤ → Reply
ran ws cs = cond (ltb longest (length ws)) (refusal 11 0) (counted (small_of (value ws 0)) ws cs)
