-- What follows from the meaning of a text: any cuts give the same answer, a refusal stays and leaves the room as it was, and a text that is accepted gives a
-- page that validation accepts.
use mathlib.Core.Path.{◌≡◌, refl, sym, ap, ◌∙◌}
use mathlib.Core.Bool.{Bool, true, false, ◌&&◌, cond}
use mathlib.Core.List.{List, foldl}
use Prim.Native.Nat.{ℕ, ◌*◌}
use native.Mathlib.Omega.{arith}
use lib.Dec.{ltb, leb}
use Rattle.page.specs.Outcomes.{Outcome, accepted, refused}
use Rattle.page.specs.Validation.{validated}
use Rattle.lexer.specs.Moves.{is_gap}
use Rattle.lexer.specs.Scans.{Progress, going, stopped, whole_of, finished}
use Rattle.lexer.proofs.Texts.{fed-parts, fed-stopped}
use Rattle.reader.specs.Spaces.{Parser}
use Rattle.reader.specs.Tokens.{took}
use Rattle.reader.specs.Texts.{Answer, page, refusal, room_after, is_top, judged, concluded, settled, part_of, start, text_of}

never : (n at : ℕ) (p : List ℕ) → refusal n at ≡ page p → ⊥
never n at p e = let z : ◌≡◌ {A = ℕ} 0 1 = cc in omega arith

judged-page : (a : Parser) (o : Outcome) (p : List ℕ) → judged a o ≡ page p → (o ≡ accepted) × (a.made.page ≡ p)
unfolding judged
judged-page a accepted p e = (refl, cc)
judged-page a (refused n i) p e = absurd (never _ _ p e)

concluded-by : (a : Parser) (t u : Bool) (k l m n : ℕ) (p : List ℕ)
    → cond t (cond u (refusal k l) (judged a (validated a.made.page))) (refusal m n) ≡ page p → validated p ≡ accepted
concluded-by a true true k l m n p e = absurd (never k l p e)
concluded-by a true false k l m n p e = let h = judged-page a (validated a.made.page) p e in sym (ap validated h.1) ∙ h.0
concluded-by a false u k l m n p e = absurd (never m n p e)

concluded-accepted : (room : ℕ) (x : Progress Parser) (p : List ℕ) → concluded room x ≡ page p → validated p ≡ accepted
unfolding concluded
concluded-accepted room (stopped n at) p e = absurd (never n at p e)
concluded-accepted room (going s a) p e =
    concluded-by a (is_gap s.mode && (is_top a.want && leb 1 a.made.next)) (ltb room (512 * a.made.next)) 10 s.seen 12 s.seen p e

-- of every state, also one that no text leads to
pub settled-accepted : (room : ℕ) (x : Progress Parser) (p : List ℕ) → settled room x ≡ page p → validated p ≡ accepted
unfolding settled
settled-accepted room x p e = concluded-accepted room (finished (took room) x) p e

pub text-accepted : (room : ℕ) (l p : List ℕ) → text_of room l ≡ page p → validated p ≡ accepted
unfolding text_of
text-accepted room l p e = settled-accepted room (part_of room start l) p e

-- however a text is cut into parts, the answer is that of the whole text
pub text-parts : (room : ℕ) (ps : List (List ℕ)) → settled room (foldl (part_of room) start ps) ≡ text_of room (whole_of ps)
unfolding text_of part_of
text-parts room ps = ap (settled room) (fed-parts (took room) start ps)

-- a refusal once met stays, whatever comes after it
pub refusal-stays : (room n at : ℕ) (l : List ℕ) → settled room (part_of room (stopped n at) l) ≡ refusal n at
unfolding settled part_of concluded finished
refusal-stays room n at l = ap (λ (q : Progress Parser). concluded room (finished (took room) q)) (fed-stopped (took room) n at l)

-- and leaves the room as it was
pub refused-room : (room : ℕ) (l d : List ℕ) (n at : ℕ) → text_of room l ≡ refusal n at → room_after (text_of room l) d ≡ d
unfolding room_after
refused-room room l d n at e = ap (λ (x : Answer). room_after x d) e
