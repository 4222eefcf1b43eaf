-- What a caller has that was told of n words written: the page was accepted, so by RecipeServes they are the recipe, and running them replies what
-- the page replies.
use mathlib.Core.Path.{◌≡◌, refl, sym, ap, ◌∙◌}
use mathlib.Core.Bool.{Bool, true, false}
use mathlib.Core.List.{List, ◌++◌}
use Prim.Native.Nat.{ℕ, ◌≤◌}
use native.Mathlib.Decide.{dec_le}
use native.Mathlib.Omega.{arith}
use lib.IntN.{ℤ}
use lib.ListN.{length, take, drop, length-append}
use lib.Seq.{take-append_seam}
use Rattle.page.specs.Outcomes.{Outcome, accepted, refused}
use Rattle.page.specs.Validation.{validated}
use Rattle.space.specs.Numbers.{asked}
use Rattle.colour.specs.Evaluating.{evaluated}
use Rattle.recipe.specs.SpaceWrites.{wrote, refusal as unwritten}
use Rattle.recipe.specs.PageWrites.{write_reply, write_words}
use Rattle.recipe.proofs.Replies.{page-refused}
use Rattle.runner.specs.Runs.{ran}
use Rattle.agreement.specs.Demand.{Serves}
use Rattle.agreement.proofs.Demand.{recipe-serves}

-- a recipe of n words, for which there was room
record Got (page : List ℕ) (number : ℕ) (words : List ℤ) (n : ℕ) : Type 0 where
  recipe : List ℤ
  serves : Serves page number recipe
  is : n ≡ length recipe
  room : length recipe ≤ length words

module _ (page : List ℕ) (number : ℕ) (words : List ℤ) (n : ℕ) (e : wrote n ≡ write_reply page number words) where
  -- it was no refusal
  never : (why block : ℕ) → write_reply page number words ≡ unwritten why block → Got page number words n
  never why block f = absurd (let z : ◌≡◌ {A = ℕ} 0 1 = cc in omega arith)

  by-room : (recipe : List ℤ) → Serves page number recipe → Dec (length recipe ≤ length words) → Got page number words n
  by-room recipe s (yes room) = let f = s.written words room in record { recipe = recipe; serves = s; is = cc; room = room }
  by-room recipe s (no less) = never 10 0 (s.refused words (omega arith))

  by_number : validated page ≡ accepted → (t : Bool) → asked page number ≡ t → Got page number words n
  by_number ok true a = let p = recipe-serves.serves page number ok a in by-room p.0 p.1 (dec_le _ _)
  by_number ok false a = never 8 0 ((recipe-serves.eight page number ok a).recipe words)

  by-outcome : (o : Outcome) → validated page ≡ o → Got page number words n
  by-outcome accepted v = by_number v (asked page number) refl
  by-outcome (refused why block) v = never why block (sym (page-refused page number words why block (sym v)).0)

  got : Got page number words n
  got = by-outcome (validated page) refl

  left : write_words page number words ≡ got.recipe ++ drop (length got.recipe) words
  left = got.serves.left words got.room

  -- the words are that many
  pub wrote-room : n ≤ length (write_words page number words)
  wrote-room = omega (arith, got.is, ap length left ∙ length-append got.recipe (drop (length got.recipe) words))

  -- running the first n of them replies what the page replies
  pub wrote-replies : (components : List ℤ) → ran (take n (write_words page number words)) components ≡ evaluated page number components
  wrote-replies components =
      let recipe = got.recipe in
      let first : take n (write_words page number words) ≡ recipe =
      ap (λ (j : ℕ). take j (write_words page number words)) got.is ∙ (ap (take (length recipe)) left ∙ take-append_seam recipe (drop (length recipe) words)) in
      ap (λ (l : List ℤ). ran l components) first ∙ got.serves.replies components
