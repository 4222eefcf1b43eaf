-- What specs/Demand.antt states, from the definitions: the recipe is that of the space at the number, which is well made on an accepted page.
use mathlib.Core.Path.{◌≡◌, refl, sym, subst, ◌∙◌}
use mathlib.Core.Bool.{true, false}
use mathlib.Core.List.{List, ◌++◌}
use Prim.Native.Nat.{ℕ, ◌≤◌, ◌<◌}
use native.Mathlib.Omega.{arith}
use lib.IntN.{ℤ}
use lib.Dec.{ltb}
use lib.ListN.{length, drop}
use borrow.Author.Tests.{ltb-true, ltb-false, ne_eqb, le-leb}
use Rattle.fixed.specs.Values.{places, started}
use Rattle.fixed.specs.declared.values.Colour.{Colour}
use Rattle.cie.specs.Closings.{closed_by}
use Rattle.page.specs.Outcomes.{accepted}
use Rattle.page.specs.Validation.{validated}
use Rattle.page.proofs.WellMade.{well-made-at}
use Rattle.space.specs.Numbers.{asked}
use Rattle.space.specs.Spaces.{Space, none, gray, rgb, cmyk, cal_gray, cal_rgb, lab, no_mark, every_ink, separation, calculated, indexed, count_of}
use Rattle.space.specs.Pages.{space_at}
use Rattle.space.specs.WellMade.{WellMade}
use Rattle.space.proofs.Asked.{asked-space}
use Rattle.colour.specs.Colours.{valued, answered}
use Rattle.colour.proofs.Replies.{answered-8, answered-9, answered-as, page-accepted}
use Rattle.parts.specs.Recipes.{recipe_of}
use Rattle.recipe.specs.SpaceWrites.{wrote, refusal as unwritten, replied, words_after}
use Rattle.recipe.specs.PageWrites.{write_reply, write_words}
use Rattle.recipe.proofs.Longest.{recipe-short}
use Rattle.recipe.proofs.Replies.{reply-none, reply-short, page-accepted as write-accepted}
use Rattle.agreement.specs.Demand.{IsAnswer, Serves, MeetsEight, RecipeServes}
use Rattle.agreement.proofs.Spaces.{recipe-replies}

-- the values of a space that is well made have an answer
answers : (s : Space) → WellMade s → (v : Colour) → IsAnswer (valued s v)
unfolding WellMade valued closed_by
answers none w v = absurd w
answers gray w v = tt
answers rgb w v = tt
answers cmyk w v = tt
answers (cal_gray k) w v = tt
answers (cal_rgb k) w v = tt
answers (lab k al ah bl bh) w v = tt
answers (no_mark i) w v = tt
answers every_ink w v = tt
answers (separation e c0 c1 s) w v = answers s w.5 _
answers (calculated i c s) w v = answers s w.3 _
answers (indexed h t s) w v = answers s w.3 _

module _ (page : List ℕ) (number : ℕ) (ok : validated page ≡ accepted) where
  abbrev space : Space
  space = space_at page number

  -- a number has components just where it is one that may be asked for
  counts : ltb 0 (count_of space) ≡ asked page number
  counts = asked-space page number

  some-asked : asked page number ≡ true → 1 ≤ count_of space
  some-asked e = ltb-true 0 (count_of space) (counts ∙ e)

  none-asked : asked page number ≡ false → count_of space ≡ 0
  none-asked e = omega (arith, ltb-false 0 (count_of space) (counts ∙ e))

  module _ (some : 1 ≤ count_of space) where
    whole : WellMade space
    whole = well-made-at page number ok some

    not_none : count_of space ≡ 0 → ⊥
    not_none z = omega arith

    -- writing
    fits : (words : List ℤ) → length (recipe_of space) ≤ length words
        → (write_reply page number words ≡ wrote (length (recipe_of space))) × (write_words page number words ≡ recipe_of space ++ drop (length (recipe_of space)) words)
    unfolding write_reply write_words replied words_after
    fits words room =
        let z = ne_eqb (count_of space) 0 not_none in
        let k = le-leb (length (recipe_of space)) (length words) room in
        (simp (ok, z, k), simp (ok, z, k))

    short : (words : List ℤ) → length words < length (recipe_of space) → (unwritten 10 0 ≡ write_reply page number words) × (words ≡ write_words page number words)
    short words less =
        write-accepted page number words _ _ (sym ok) (reply-short space words (count_of space) refl not_none (length (recipe_of space)) refl less)

    -- running
    right : (components : List ℤ) → length components ≡ count_of space → IsAnswer (answered space components)
    right components e =
        subst IsAnswer (answered-as space components (count_of space) refl not_none (started places components) e refl) (answers space whole _)

    served : Serves page number (recipe_of space)
    served =
        record {
          short = recipe-short space whole;
          written = λ words room. (fits words room).0;
          left = λ words room. (fits words room).1;
          refused = λ words less. sym (short words less).0;
          unaltered = λ words less. sym (short words less).1;
          replies = λ components. recipe-replies space whole components ∙ page-accepted page number components (sym ok);
          right = λ components e. subst IsAnswer (sym (recipe-replies space whole components)) (right components e);
          wrong = λ components h. recipe-replies space whole components ∙ sym (answered-9 space components (count_of space) refl not_none h);
        }

  -- where there are none
  none-served : count_of space ≡ 0 → MeetsEight page number
  none-served z =
      record {
        colour = λ components. sym (answered-8 space components (count_of space) refl z ∙ page-accepted page number components (sym ok));
        recipe = λ words. sym (writes words).0;
        unaltered = λ words. sym (writes words).1;
      }
    where
      writes : (words : List ℤ) → (unwritten 8 0 ≡ write_reply page number words) × (words ≡ write_words page number words)
      writes words = write-accepted page number words _ _ (sym ok) (reply-none space words (count_of space) refl z)

pub recipe-serves : RecipeServes
recipe-serves =
    record {
      serves = λ page number ok e. (recipe_of (space_at page number), served page number ok (some-asked page number ok e));
      eight = λ page number ok e. none-served page number ok (none-asked page number ok e);
    }
