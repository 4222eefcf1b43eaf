-- Memory of the right lengths and of others, as the three operations find it and leave it.
use mathlib.Core.Path.{◌≡◌, sym, ap, ◌∙◌}
use mathlib.Core.Bool.{Bool, true, false, ◌&&◌}
use mathlib.Core.List.{List}
use Prim.Native.Nat.{ℕ, ◌*◌}
use borrow.Author.Tests.{eqb-true}
use lib.Dec.{eqb}
use lib.ListN.{length}
use Rattle.fixed.specs.Bytes.{blocks}
use Rattle.fixed.proofs.Decide.{and_left, and_right}
use Rattle.lexer.specs.Scans.{Progress, longest, finished}
use Rattle.reader.specs.Spaces.{Parser}
use Rattle.keys.specs.Entries.{defaults}
use Rattle.reader.specs.Kept.{ring}
use Rattle.reader.specs.Tokens.{took}
use Rattle.reader.specs.Texts.{Answer, refusal, room_after, start, part_of, settled, concluded}
use Rattle.tokens.specs.Sizes.{Sizes}
use Rattle.states.specs.declared.types.State.{State}
use Rattle.states.specs.Words.{state_in}
use Rattle.std.specs.Prelude.{Result, Err}
use Rattle.judging.specs.declared.types.TextRefusal.{TextRefusal}
use Rattle.judging.specs.Replies.{replied, Ends}
use Rattle.designer.specs.State.{progress_at}
use Rattle.designer.specs.Lent.{Memory, sized, is_sized, progress_in, View, stands, foreign, view_of, lent_fault, begun_view, part_view, end_view, answer_of}

-- ---- the lengths

module _ (words values word marks names opens page : ℕ) (h : sized words values word marks names opens page ≡ true) where
  abbrev last : Bool
  last = eqb opens blocks && eqb page (512 * blocks)

  abbrev named : Bool
  named = eqb names (128 * ring) && last

  abbrev marked : Bool
  marked = eqb marks ring && named

  abbrev worded : Bool
  worded = eqb word longest && marked

  abbrev valued : Bool
  valued = eqb values 30 && worded

  pub sized-words : words ≡ 25
  unfolding sized
  sized-words = eqb-true words 25 (and_left (eqb words 25) valued h)

  pub sized-lists : Sizes values word marks names opens page
  unfolding sized
  sized-lists =
      let a : valued ≡ true = and_right (eqb words 25) valued h in
      let b : worded ≡ true = and_right (eqb values 30) worded a in
      let c : marked ≡ true = and_right (eqb word longest) marked b in
      let d : named ≡ true = and_right (eqb marks ring) named c in
      let e : last ≡ true = and_right (eqb names (128 * ring)) last d in
      record {
        v = eqb-true values 30 (and_left (eqb values 30) worded a);
        w = eqb-true word longest (and_left (eqb word longest) marked b);
        m = eqb-true marks ring (and_left (eqb marks ring) named c);
        n = eqb-true names (128 * ring) (and_left (eqb names (128 * ring)) last d);
        o = eqb-true opens blocks (and_left (eqb opens blocks) (eqb page (512 * blocks)) e);
        p = eqb-true page (512 * blocks) (and_right (eqb opens blocks) (eqb page (512 * blocks)) e);
      }

-- lists of the same lengths
pub record Alike (m m' : Memory) : Type 0 where
  pub words : length m'.words ≡ length m.words
  pub values : length m'.values ≡ length m.values
  pub word : length m'.word ≡ length m.word
  pub marks : length m'.marks ≡ length m.marks
  pub names : length m'.names ≡ length m.names
  pub opens : length m'.opens ≡ length m.opens
  pub page : length m'.page ≡ length m.page

same-sizes : (m m' : Memory) → Alike m m' → is_sized m ≡ true → is_sized m' ≡ true
same-sizes m m' a h =
    (λ i. sized (a.words i) (a.values i) (a.word i) (a.marks i) (a.names i) (a.opens i) (a.page i)) ∙ h

-- ---- other lengths: nothing is altered

module _ (m : Memory) (h : is_sized m ≡ false) where
  pub view-foreign : view_of m ≡ foreign m
  unfolding view_of
  view-foreign = rw h

  pub fault-foreign : 10 ≡ lent_fault m
  unfolding lent_fault
  fault-foreign = rw h

  pub begun-foreign : view_of m ≡ begun_view (view_of m)
  unfolding begun_view
  begun-foreign = view-foreign ∙ ap begun_view (sym view-foreign)

  pub part-foreign : (room : ℕ) (l : List ℕ) → view_of m ≡ part_view room (view_of m) l
  unfolding part_view
  part-foreign room l = view-foreign ∙ ap (λ (v : View). part_view room v l) (sym view-foreign)

  pub end-foreign : (room : ℕ) → view_of m ≡ end_view room (view_of m)
  unfolding end_view
  end-foreign room = view-foreign ∙ ap (end_view room) (sym view-foreign)

  pub answer-foreign : (room : ℕ) → answer_of room (view_of m) ≡ refusal 10 0
  unfolding answer_of
  answer-foreign room = ap (answer_of room) view-foreign

  pub ends_foreign : (room : ℕ) (d : List ℕ) → Ends (Err (record { number = 10; at = 0 })) d d (answer_of room (view_of m))
  unfolding replied room_after
  ends_foreign room d = (sym (ap replied (answer-foreign room)), sym (ap (λ (a : Answer). room_after a d) (answer-foreign room)))

-- ---- the right lengths

module _ (m : Memory) (h : is_sized m ≡ true) where
  pub view-stands : view_of m ≡ stands (progress_in m)
  unfolding view_of
  view-stands = rw h

  pub fault-stands : 0 ≡ lent_fault m
  unfolding lent_fault
  fault-stands = rw h

  module _ (m' : Memory) (a : Alike m m') where
    same_view : view_of m' ≡ stands (progress_in m')
    unfolding view_of
    same_view = rw (same-sizes m m' a h)

    pub begun-stands : {t : State} → state_in m'.words ≡ t → m'.values ≡ defaults
        → progress_at t defaults m'.word m'.marks m'.names m'.opens m'.page ≡ start → view_of m' ≡ begun_view (view_of m)
    unfolding begun_view
    begun-stands s v e =
        same_view
        ∙ ap stands ((λ i. progress_at (s i) (v i) m'.word m'.marks m'.names m'.opens m'.page) ∙ e)
        ∙ ap begun_view (sym view-stands)

    module _ (room : ℕ) {s t : State} (loaded : s ≡ state_in m.words) (saved : state_in m'.words ≡ t) where
      pub part-stands : (l : List ℕ)
          → progress_at t m'.values m'.word m'.marks m'.names m'.opens m'.page
          ≡ part_of room (progress_at s m.values m.word m.marks m.names m.opens m.page) l → view_of m' ≡ part_view room (view_of m) l
      unfolding part_view
      part-stands l e =
          same_view
          ∙ ap stands ((λ i. progress_at (saved i) m'.values m'.word m'.marks m'.names m'.opens m'.page) ∙ e
          ∙ (λ i. part_of room (progress_at (loaded i) m.values m.word m.marks m.names m.opens m.page) l))
          ∙ ap (λ (v : View). part_view room v l) (sym view-stands)

      pub end-stands :
          progress_at t m'.values m'.word m'.marks m'.names m'.opens m'.page
          ≡ finished (took room) (progress_at s m.values m.word m.marks m.names m.opens m.page) → view_of m' ≡ end_view room (view_of m)
      unfolding end_view
      end-stands e =
          same_view
          ∙ ap stands ((λ i. progress_at (saved i) m'.values m'.word m'.marks m'.names m'.opens m'.page) ∙ e
          ∙ (λ i. finished (took room) (progress_at (loaded i) m.values m.word m.marks m.names m.opens m.page)))
          ∙ ap (end_view room) (sym view-stands)

  pub ends-stands : (room : ℕ) {s : State} {p : Progress Parser} (r : Result ℕ TextRefusal) (d d' : List ℕ) → s ≡ state_in m.words
      → p ≡ finished (took room) (progress_at s m.values m.word m.marks m.names m.opens m.page) → Ends r d d' (concluded room p)
      → Ends r d d' (answer_of room (view_of m))
  unfolding answer_of settled
  ends-stands room {s} {p} r d d' loaded e g =
      let q : concluded room p ≡ answer_of room (view_of m) =
      ap (concluded room) (e ∙ (λ i. finished (took room) (progress_at (loaded i) m.values m.word m.marks m.names m.opens m.page)))
      ∙ ap (answer_of room) (sym view-stands) in
      (g.0 ∙ ap replied q, g.1 ∙ ap (λ (a : Answer). room_after a d) q)
