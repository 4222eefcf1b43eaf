-- The statement of the reader of texts: every line of it is a law of folds, of the end, or of the definitions.
use mathlib.Core.Path.{◌≡◌, refl, ap, ◌∙◌}
use mathlib.Core.List.{List, [], ◌∷◌, foldl}
use Prim.Native.Nat.{ℕ}
use native.Mathlib.Omega.{arith}
use Rattle.page.specs.Outcomes.{accepted}
use Rattle.page.specs.Validation.{validated}
use Rattle.lexer.specs.declared.types.Mode.{Mode}
use Rattle.lexer.specs.declared.types.Mode.TheVariants.{Gap, Comment, Regular, Name, Hash, HashDigit, Less, Greater, Hex, HexDigit, Text, Return, Escape, Octal, Octals}
use Rattle.lexer.specs.Moves.{last_move}
use Rattle.lexer.specs.declared.types.Token.TheVariants.{NameToken, RegularToken}
use Rattle.lexer.specs.Scans.{Scan, Taken, takes, refuses, Progress, going, stopped, moved, after, moved_by, met_by, taken, handed, whole_of, finished}
use Rattle.lexer.proofs.Texts.{fed-parts, fed-stopped}
use Rattle.reader.specs.Spaces.{Parser}
use Rattle.reader.specs.Tokens.{took}
use Rattle.reader.specs.Texts.{Answer, page, refusal, start, part_of, concluded, settled, text_of, room_after}
use Rattle.reader.proofs.Meanings.{settled-accepted}
use Rattle.designer.specs.Lent.{View, stands, foreign, part_view, end_view, answer_of}
use Rattle.designer.specs.TextReads.{TextReads}

-- ---- any cuts

parts-stand : (room : ℕ) (p : Progress Parser) (ps : List (List ℕ)) → foldl (part_view room) (stands p) ps ≡ stands (foldl (part_of room) p ps)
unfolding part_view
parts-stand room p [] = refl
parts-stand room p (l ∷ ps) = parts-stand room (part_of room p l) ps

parts-foreign : (room : ℕ) (v : View) (ps : List (List ℕ)) → ((l : List ℕ) → part_view room v l ≡ v) → foldl (part_view room) v ps ≡ v
parts-foreign room v [] h = refl
parts-foreign room v (l ∷ ps) h = ap (λ (w : View). foldl (part_view room) w ps) (h l) ∙ parts-foreign room v ps h

text-parts : (room : ℕ) (v : View) (ps : List (List ℕ)) → foldl (part_view room) v ps ≡ part_view room v (whole_of ps)
unfolding part_view part_of
text-parts room (stands p) ps = parts-stand room p ps ∙ ap stands (fed-parts (took room) p ps)
text-parts room (foreign m) ps = parts-foreign room (foreign m) ps (λ l. refl)

text-whole : (room : ℕ) (l : List ℕ) → answer_of room (part_view room (stands start) l) ≡ text_of room l
unfolding answer_of part_view text_of
text-whole room l = refl

-- ---- a refusal

stays : (room n at : ℕ) (l : List ℕ) → part_view room (stands (stopped n at)) l ≡ stands (stopped n at)
unfolding part_view part_of
stays room n at l = ap stands (fed-stopped (took room) n at l)

repeats : (room n at : ℕ) → answer_of room (stands (stopped n at)) ≡ refusal n at
unfolding answer_of settled concluded finished
repeats room n at = refl

-- ---- the end, asked for again: it leaves nothing that it ends

module _ (room : ℕ) where
  taken-again : (s : Scan) (r : Taken Parser)
      → finished (took room) (taken (moved s Gap s.number s.word) r) ≡ taken (moved s Gap s.number s.word) r
  unfolding finished taken handed after
  taken-again s (takes a) = refl
  taken-again s (refuses n) = refl

  ended-again : (s : Scan) (a : Parser) (m : Mode)
      → finished (took room) (handed (took room) a (moved_by s (last_move m)) (met_by (last_move m).event))
      ≡ handed (took room) a (moved_by s (last_move m)) (met_by (last_move m).event)
  unfolding finished handed after
  ended-again s a Gap = refl
  ended-again s a Comment = refl
  ended-again s a Regular = taken-again s (took room a (moved s Gap s.number s.word) RegularToken)
  ended-again s a Name = taken-again s (took room a (moved s Gap s.number s.word) NameToken)
  ended-again s a Hash = refl
  ended-again s a (HashDigit d) = refl
  ended-again s a Less = refl
  ended-again s a Greater = refl
  ended-again s a Hex = refl
  ended-again s a (HexDigit d) = refl
  ended-again s a (Text d) = refl
  ended-again s a (Return d) = refl
  ended-again s a (Escape d) = refl
  ended-again s a (Octal d v) = refl
  ended-again s a (Octals d v) = refl

  finished-again : (p : Progress Parser) → finished (took room) (finished (took room) p) ≡ finished (took room) p
  unfolding finished
  finished-again (going s a) = ended-again s a s.mode
  finished-again (stopped n at) = refl

again : (room : ℕ) (v : View) → answer_of room (end_view room v) ≡ answer_of room v
unfolding answer_of end_view settled
again room (stands p) = ap (concluded room) (finished-again room p)
again room (foreign m) = refl

-- ---- the room

only-pages : (a : Answer) (d : List ℕ) → ((p : List ℕ) → a ≡ page p → ⊥) → room_after a d ≡ d
unfolding room_after
only-pages (page p) d h = absurd (h p refl)
only-pages (refusal n at) d h = refl

accepts : (room : ℕ) (v : View) (p : List ℕ) → answer_of room v ≡ page p → validated p ≡ accepted
unfolding answer_of
accepts room (stands q) p e = settled-accepted room q p e
accepts room (foreign m) p e = let z : ◌≡◌ {A = ℕ} 0 1 = cc in absurd (omega arith)

pub text-reads : TextReads
text-reads =
    record {
      parts = text-parts;
      whole = text-whole;
      stays = stays;
      repeats = repeats;
      again = again;
      writes = λ room v d h. only-pages (answer_of room v) d h;
      accepts = accepts;
    }
