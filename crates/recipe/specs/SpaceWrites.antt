-- What writing a recipe replies, and what it leaves in the words lent (FORMAT.md, Operations).
use Rattle.std.specs.Prelude.{ℕ, cond, List, ◌++◌, ℤ, eqb, leb, length, drop, Result, Ok, Err}
use Rattle.fixed.specs.Refusals.{number_of}
use Rattle.fixed.specs.declared.refusals.Refused.{Refused}
use Rattle.space.specs.Spaces.{Space, count_of}
use Rattle.parts.specs.Recipes.{recipe_of}

-- a reply: the recipe's count of words, or a refusal with its number and block
pub data Reply : Type 0 where
  wrote : ℕ → Reply
  refusal : ℕ → ℕ → Reply

-- what a `Result` says
abbrev pub meaning : Result ℕ Refused → Reply
meaning (Ok n) = wrote n
meaning (Err e) = refusal (number_of e.refusal) e.block

-- 8 where there is no space, then 10 where the words lent are fewer than the recipe's, then its count
unfoldable pub replied : Space → List ℤ → Reply
replied s words =
    cond (eqb (count_of s) 0) (refusal 8 0)
    (cond (leb (length (recipe_of s)) (length words)) (wrote (length (recipe_of s))) (refusal 10 0))

-- the recipe, and the words after it as they were; on a refusal all as they were
unfoldable pub words_after : Space → List ℤ → List ℤ
words_after s words =
    cond (eqb (count_of s) 0) words
    (cond (leb (length (recipe_of s)) (length words)) (recipe_of s ++ drop (length (recipe_of s)) words) words)
