-- The end of a text: what a state comes to.
use mathlib.Core.Path.{◌≡◌, sym, ap, ◌∙◌}
use mathlib.Core.Bool.{true, false, ◌&&◌}
use mathlib.Core.List.{List}
use Prim.Native.Nat.{ℕ, ◌*◌, ◌≤◌, ◌<◌}
use borrow.Author.Tests.{lt-ltb, le-ltb}
use lib.Dec.{leb}
use lib.IntN.{ℤ}
use lib.ListN.{take}
use Rattle.page.specs.Validation.{validated}
use Rattle.lexer.specs.Moves.{is_gap}
use Rattle.reader.specs.Kept.{parser_at}
use Rattle.reader.specs.Texts.{refusal, is_top, judged, concluded}
use Rattle.states.specs.declared.types.State.{State}
use Rattle.designer.specs.State.{progress_at}
use Rattle.designer.proofs.Progresses.{reads_on, reads-off}

-- what a state comes to, once the end has ended its last token
module _ (room : ℕ) (s : State) (values : List ℤ) (word marks names opens blocks : List ℕ) where
  pub concluded-refused : (s.refusal ≡ 0 → ⊥) → concluded room (progress_at s values word marks names opens blocks) ≡ refusal s.refusal s.place
  unfolding concluded
  concluded-refused e = ap (concluded room) (reads-off room s values word marks names opens blocks e)

  module _ (on : s.refusal ≡ 0) where
    pub concluded-unfinished : (is_gap s.lexer.mode && (is_top s.head.want && leb 1 s.head.next)) ≡ false
        → concluded room (progress_at s values word marks names opens blocks) ≡ refusal 12 s.lexer.seen
    unfolding concluded
    concluded-unfinished t = ap (concluded room) (reads_on room s values word marks names opens blocks on) ∙ rw t

    module _ (whole : (is_gap s.lexer.mode && (is_top s.head.want && leb 1 s.head.next)) ≡ true) where
      pub concluded-short : room < 512 * s.head.next → concluded room (progress_at s values word marks names opens blocks) ≡ refusal 10 s.lexer.seen
      unfolding concluded
      concluded-short o = ap (concluded room) (reads_on room s values word marks names opens blocks on) ∙ rw (whole, lt-ltb room (512 * s.head.next) o)

      pub concluded-judged : 512 * s.head.next ≤ room
          → judged (parser_at s.head values marks names opens blocks) (validated (take (512 * s.head.next) blocks))
          ≡ concluded room (progress_at s values word marks names opens blocks)
      unfolding concluded
      concluded-judged o = sym (ap (concluded room) (reads_on room s values word marks names opens blocks on) ∙ rw (whole, le-ltb room (512 * s.head.next) o))
