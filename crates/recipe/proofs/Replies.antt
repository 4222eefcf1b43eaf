-- What writing replies and leaves: validation's refusal, then 8, then 10, then the recipe.
use mathlib.Core.Path.{◌≡◌, refl, sym, ap, ◌∙◌}
use mathlib.Core.List.{List}
use Prim.Native.Nat.{ℕ, ◌<◌, ◌≤◌}
use native.Mathlib.Omega.{arith}
use lib.IntN.{ℤ, pos}
use lib.ListN.{length, set}
use lib.Seq.{sets}
use borrow.Author.Tests.{le-leb, lt-leb, eq-eqb, ne_eqb}
use Rattle.fixed.proofs.Stores.{sets-front}
use Rattle.page.specs.Outcomes.{accepted, refused}
use Rattle.page.specs.Validation.{validated}
use Rattle.space.specs.Spaces.{Space, count_of}
use Rattle.space.specs.Pages.{space_at}
use Rattle.parts.specs.Recipes.{steps_of, recipe_of}
use Rattle.recipe.specs.SpaceWrites.{Reply, wrote, refusal, replied, words_after}
use Rattle.recipe.specs.PageWrites.{write_reply, write_words}

-- m being the space's count, and r the words of its recipe
module _ (s : Space) (d : List ℤ) (m : ℕ) (em : m ≡ count_of s) where
  pub reply-none : m ≡ 0 → (refusal 8 0 ≡ replied s d) × (d ≡ words_after s d)
  unfolding replied words_after
  reply-none z = let k = eq-eqb (count_of s) 0 (sym em ∙ z) in (simp k, simp k)

  module _ (some : m ≡ 0 → ⊥) (r : ℕ) (er : r ≡ length (recipe_of s)) where
    some' : count_of s ≡ 0 → ⊥
    some' z = some (em ∙ z)

    pub reply-short : length d < r → (refusal 10 0 ≡ replied s d) × (d ≡ words_after s d)
    unfolding replied words_after
    reply-short h =
        let k = lt-leb (length (recipe_of s)) (length d) (omega arith) in
        let z = ne_eqb (count_of s) 0 some' in
        (simp (z, k), simp (z, k))

    pub reply-words : (w : ℤ) (y : List ℤ) → w ≡ pos m → r ≤ length d → y ≡ sets (set d 0 w) 1 (steps_of s) → (wrote r ≡ replied s d) × (y ≡ words_after s d)
    unfolding replied words_after recipe_of
    reply-words w y ew h ey =
        let l : length (recipe_of s) ≤ length d = omega arith in
        let k = le-leb (length (recipe_of s)) (length d) l in
        let z = ne_eqb (count_of s) 0 some' in
        let f : y ≡ sets d 0 (recipe_of s) = ey ∙ ap (λ (x : ℤ). sets (set d 0 x) 1 (steps_of s)) (ew ∙ ap pos em) in (
          ap wrote er ∙ simp (z, k),
          f ∙ (sets-front (recipe_of s) d l ∙ simp (z, k)),
        )

-- on a page that is accepted, and on one that is refused
module _ (page : List ℕ) (n : ℕ) (d : List ℤ) where
  pub page-accepted : (r : Reply) (y : List ℤ) → accepted ≡ validated page → (r ≡ replied (space_at page n) d) × (y ≡ words_after (space_at page n) d)
      → (r ≡ write_reply page n d) × (y ≡ write_words page n d)
  unfolding write_reply write_words
  page-accepted r y e h = rw (← e) h

  pub page-refused : (number block : ℕ) → refused number block ≡ validated page → (refusal number block ≡ write_reply page n d) × (d ≡ write_words page n d)
  unfolding write_reply write_words
  page-refused number block e = rw (← e) (refl, refl)
