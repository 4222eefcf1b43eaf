-- The end of a text: what each way out comes to.
use mathlib.Core.Path.{◌≡◌, sym, ap, ◌∙◌}
use mathlib.Core.List.{List, ◌++◌}
use Rattle.std.specs.Prelude.{Result, Ok, Err}
use Prim.Native.Nat.{ℕ, ◌+◌, ◌/◌, ◌≤◌, ◌<◌}
use native.Mathlib.Omega.{arith}
use lib.ListN.{length, set, take, drop, get_or}
use lib.Seq.{sets, sets-eq, length-take-le}
use Rattle.reader.proofs.Rings.{name-turn}
use Rattle.page.specs.Outcomes.{Outcome, accepted, refused}
use Rattle.reader.specs.Spaces.{Parser}
use Rattle.reader.specs.Texts.{Answer, page, refusal, room_after, judged}
use Rattle.judging.specs.declared.types.TextRefusal.{TextRefusal}
use Rattle.judging.specs.Replies.{replied, Ends}

-- ---- the copy

pub copy-turn : (d b : List ℕ) (i : ℕ) {x : List ℕ} → i < length b → x ≡ sets d 0 (take i b) → set x i (get_or b i 0) ≡ sets d 0 (take (i + 1) b)
copy-turn d b i {x} h e = let z : 0 + i ≡ i = omega arith in ap (λ (k : ℕ). set x k (get_or b i 0)) (sym z) ∙ name-turn d 0 b i h e

pub copied : (d b : List ℕ) (n i : ℕ) {x : List ℕ} → i ≡ n → n ≤ length d → n ≤ length b → x ≡ sets d 0 (take i b) → x ≡ take n b ++ drop n d
copied d b n i e o p q =
    let l : length (take n b) ≡ n = length-take-le n b p in
    let z : 0 + length (take n b) ≡ n = omega arith in
    let r : 0 + length (take n b) ≤ length d = omega arith in
    q ∙ ap (λ (k : ℕ). sets d 0 (take k b)) e ∙ sets-eq (take n b) d 0 r ∙ ap (λ (k : ℕ). take n b ++ drop k d) z

-- ---- what each way out comes to

pub ends-refused : (n at : ℕ) (d : List ℕ) {a : Answer} → a ≡ refusal n at → Ends (Err (record { number = n; at = at })) d d a
unfolding replied room_after
ends-refused n at d e = (sym (ap replied e), sym (ap (λ (x : Answer). room_after x d) e))

ends-page : (p d d' : List ℕ) (n : ℕ) {a : Answer} → a ≡ page p → n ≡ length p → d' ≡ p ++ drop n d → Ends (Ok (n / 512)) d d' a
unfolding replied room_after
ends-page p d d' n e f g =
    (ap (λ (k : ℕ). Ok (k / 512)) f ∙ sym (ap replied e), g ∙ ap (λ (k : ℕ). p ++ drop k d) f ∙ sym (ap (λ (x : Answer). room_after x d) e))

pub judged-page : (s : Parser) (o : Outcome) (q d d' : List ℕ) (n : ℕ) → o ≡ accepted → q ≡ s.made.page → n ≡ length s.made.page → d' ≡ q ++ drop n d
    → Ends (Ok (n / 512)) d d' (judged s o)
unfolding judged
judged-page s o q d d' n e f g k =
    ends-page s.made.page d d' n (ap (judged s) e) g (k ∙ ap (λ (p : List ℕ). p ++ drop n d) f)

pub judged-refused : (s : Parser) (o : Outcome) (k i at : ℕ) (d : List ℕ) → o ≡ refused k i → at ≡ get_or s.made.opens i 0 → Ends (Err (record { number = k; at = at })) d d (judged s o)
unfolding judged
judged-refused s o k i at d e f = ends-refused k at d (ap (judged s) e ∙ ap (refusal k) (sym f))

pub ends_same : (r : Result ℕ TextRefusal) (d d' : List ℕ) {a b : Answer} → Ends r d d' a → a ≡ b → Ends r d d' b
ends_same r d d' h e = (h.0 ∙ ap replied e, h.1 ∙ ap (λ (x : Answer). room_after x d) e)
