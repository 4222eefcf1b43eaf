-- Refusal 8, then 10, then the recipe: its count, and its steps from word 1 on.
use mathlib.Core.Path.{◌≡◌, sym, ap, ◌∙◌}
use mathlib.Core.List.{List}
use native.Mathlib.Omega.{arith}
use lib.IntN.{ℤ}
use lib.ListN.{length-set}
use lib.Seq.{sets}
use Rattle.fixed.proofs.Signs.{signed_is}
use Rattle.space.specs.Spaces.{Space, count_of, words_of}
use Rattle.space.proofs.Levels.{level-space, space-read}
use Rattle.parts.specs.Recipes.{steps_of, recipe_of}
use Rattle.recipe.proofs.Longest.{length_at, length-in}
use Rattle.recipe.proofs.Replies.{reply-none, reply-short, reply-words}
use Rattle.recipe.proofs.writing.write_space.Goals as goal

-- the steps of one space are those of another that it is
moved : (d : List ℤ) {y : List ℤ} {r s : Space} → r ≡ s → y ≡ sets d 1 (steps_of r) → y ≡ sets d 1 (steps_of s)
moved d e h = h ∙ ap (λ (x : Space). sets d 1 (steps_of x)) e

pub returns-then-m-eq0 : goal.returns-then-m-eq0
returns-then-m-eq0 c =
    let m = space-read _ _ c.level_at-l.ensures count_of (c.count-m.ensures.is _) in
    let both = reply-none _ _ _ m c.if-m-eq0.true in
    rw (c.of_block.ensures.is, c.of_block.ensures.about) (record { result_value = both.0; words_after = both.1 })

pub returns-then-words-size : goal.returns-then-words-size
returns-then-words-size c =
    let m = space-read _ _ c.level_at-l.ensures count_of (c.count-m.ensures.is _) in
    let r = space-read _ _ c.level_at-l.ensures words_of c.words_in-size.ensures.is ∙ sym (length_at c.args.page.now c.args.n) in
    let both = reply-short _ _ _ m c.if-m-eq0.false _ r c.if-words-size.true in
    rw (c.of_block-then-words-size.ensures.is, c.of_block-then-words-size.ensures.about) (record { result_value = both.0; words_after = both.1 })

pub bounds-words-0 : goal.bounds-words-0
unfolding recipe_of
bounds-words-0 c =
    omega (arith, c.words_in-size.ensures.is, length-in _ _ c.level_at-l.ensures, c.if-words-size.false)

pub put_steps-requires : goal.put_steps-requires
unfolding recipe_of
put_steps-requires c =
    simp length-set (omega (arith, c.words_in-size.ensures.is, length-in _ _ c.level_at-l.ensures, c.if-words-size.false))

pub shape_of-words : goal.shape_of-words
shape_of-words c = c.put_steps.auto.words ∙ simp length-set

pub returns : goal.returns
returns c =
    let m = space-read _ _ c.level_at-l.ensures count_of (c.count-m.ensures.is _) in
    let r = space-read _ _ c.level_at-l.ensures words_of c.words_in-size.ensures.is ∙ sym (length_at c.args.page.now c.args.n) in
    let both = reply-words _ _ _ m c.if-m-eq0.false _ r _ _ (signed_is _ c.word_of.type_inv c.word_of.ensures) c.if-words-size.false
    (moved _ (level-space _ _ c.level_at-l.ensures) c.put_steps.ensures) in
    record { result_value = both.0; words_after = both.1 }
