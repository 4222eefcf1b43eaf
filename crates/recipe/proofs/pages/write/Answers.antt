-- What validation finds is given, and only on an accepted page is the recipe written.
use Rattle.std.proofs.lemmas.Result.{err_from_is_err_and}
use Rattle.recipe.proofs.Replies.{page-accepted, page-refused}
use Rattle.recipe.proofs.pages.write.Goals as goal

pub returns-in_err-validate : goal.returns-in_err-validate
returns-in_err-validate c =
    let both = page-refused _ _ _ _ _ c.in_err-validate.ensures in
    let p = err_from_is_err_and c.from_residual.result c.from_residual.ensures.1 in
    rw (p.1, p.2) (record { result_value = both.0; words_after = both.1 })

pub returns : goal.returns
returns c =
    let both = page-accepted _ _ _ _ _ c.in_ok-validate.ensures (c.write_space.ensures.result_value, c.write_space.ensures.words_after) in
    record { result_value = both.0; words_after = both.1 }
