-- Bytes that a reader loses bit by bit, and that stand in a slice one after another.
use Rattle.std.proofs.Common.{◌≡◌, ℕ, ◌+◌, ◌≤◌, List, [], ◌∷◌, ◌++◌, length, take, get_or, zero, suc, refl, sym, ap, ◌∙◌, append_assoc, arith}
use Rattle.std.proofs.Math.Seq.{take-suc, take-append-add, take-take}
use Rattle.std.proofs.lemmas.List.{length-take-le}
use Rattle.std.proofs.lemmas.Slice.{take-put_mid}
use Rattle.std.specs.Prelude.{Option, None, Some, All}
use Rattle.std.specs.Io.KnownBytes.{Consumes}
use borrow.Rule.Slice.PartMut.{put_mid}

-- none were read yet
pub consumes-none : (o : Option (List ℕ)) → Consumes o o []
consumes-none None = tt
consumes-none (Some xs) = refl

-- what is read after what was
pub consumes-more : (a b c : Option (List ℕ)) (p q : List ℕ) → Consumes a b p → Consumes b c q → Consumes a c (p ++ q)
consumes-more None b c p q h k = tt
consumes-more (Some xs) None c p q h k = absurd h
consumes-more (Some xs) (Some ys) None p q h k = absurd k
consumes-more (Some xs) (Some ys) (Some zs) p q h k = h ∙ ap (λ t. p ++ t) k ∙ sym (append_assoc p q zs)

-- a byte that was read into room for one
pub take-one : (b : List ℕ) (n : ℕ) → length b ≡ 1 → n ≡ 1 → take n b ≡ get_or b 0 0 ∷ []
take-one b n l e = ap (λ m. take m b) e ∙ take-suc b 0 0 (omega arith)

-- what holds of an element holds of the list that has just it
pub all-one : (P : ℕ → Type 0) (x : ℕ) → P x → All P (x ∷ [])
all-one P x p zero d h = p
all-one P x p (suc k) d h = absurd (omega arith)

-- the first m of the elements that were put after the first a
pub take-put_some : (a k : ℕ) (xs ys : List ℕ) (m : ℕ) → m ≤ length ys → a ≤ length xs → take (a + m) (put_mid a k xs ys) ≡ take a xs ++ take m ys
take-put_some a k xs ys m h q =
    let whole : take (a + length ys) (put_mid a k xs ys) ≡ take a xs ++ ys = take-put_mid a k xs ys _ refl q in
    let front : take (a + m) (take (a + length ys) (put_mid a k xs ys)) ≡ take (a + m) (put_mid a k xs ys) = take-take _ _ _ (omega arith) in
    let parts : take (length (take a xs) + m) (take a xs ++ ys) ≡ take a xs ++ take m ys = take-append-add (take a xs) ys m in
    sym front ∙ ap (take (a + m)) whole ∙ ap (λ j. take (j + m) (take a xs ++ ys)) (sym (length-take-le a xs q)) ∙ parts
