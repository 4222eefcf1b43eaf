-- A part of a slice that is written over is a run of stores.
use Rattle.std.proofs.Common.{◌≡◌, ◌+◌, ◌-◌, ◌≤◌, ◌++◌, ℕ, List, length, take, drop, append_assoc, sym, ap, ◌∙◌, arith}
use lib.IntN.{ℤ}
use borrow.Rule.Slice.PartMut.{put_mid}
use Rattle.std.proofs.lemmas.List.Edits.{sets, sets-eq}
use Rattle.std.proofs.lemmas.Grind.{common_steps}
use Rattle.parts.proofs.stores.put.Goals as goal

put-sets : (a k : ℕ) (xs ys : List ℤ) → k ≡ length ys → a + length ys ≤ length xs → put_mid a k xs ys ≡ sets xs a ys
put-sets a k xs ys e h =
    let rest : drop k (drop a xs) ≡ drop (a + length ys) xs = grind (arith, common_steps) in
    sym (append_assoc (take a xs) ys (drop k (drop a xs))) ∙ ap (λ (r : List ℤ). take a xs ++ ys ++ r) rest ∙ sym (sets-eq ys xs a h)

pub returns : goal.returns
returns c =
    let n = c.args.at + length c.args.some.now - c.args.at in
    ap (put_mid c.args.at n c.args.words.now) c.copy_from_slice.ensures.after ∙ put-sets c.args.at n _ _ (omega arith) c.requires
