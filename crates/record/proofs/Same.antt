-- What is read of a block is read of its 512 bytes: two lists that agree on those say the same.
use mathlib.Core.Path.{◌≡◌, refl, sym, ap, ◌∙◌}
use mathlib.Core.Bool.{true, ◌&&◌, cond}
use mathlib.Core.List.{List, ◌∷◌, ◌++◌}
use Prim.Native.Nat.{ℕ, zero, suc, ◌+◌, ◌-◌, ◌*◌, ◌≤◌, ◌<◌}
use native.Mathlib.Omega.{arith}
use lib.ListN.{get_or, drop, replicate}
use lib.Seq.{get_or-drop}
use lib.Dec.{eqb, leb}
use Rattle.fixed.specs.Bytes.{byte_at, two_at, number_at}
use Rattle.fixed.specs.Loops.{zero_between}
use Rattle.fixed.proofs.Scans.{all_same}
use Rattle.fixed.proofs.Totals.{total-same}
use Rattle.layout.specs.Field.{padded}
use Rattle.record.specs.Layout.{room, names_room, named_to, plain, weighed, checked}
use Rattle.record.specs.Reading.{kind_at, own_at, triple_at, four_numbers_at, gray_at, rgb_at, lab_at, separation_at, body_by, body_at, name_from, names_at, SameBytes}
use Rattle.record.specs.Rules.{well_laid, name_shown, well_formed}
use Rattle.record.specs.declared.types.Body.{Body}
use Rattle.record.specs.declared.types.Body.TheVariants.{Free, CalGray, CalRgb, Lab, Indexed, Separation, Palette, Program, DeviceN}
use Rattle.record.proofs.Shapes.{name-same}

-- the first n bytes of two lists that agree on them
padded-same : (n : ℕ) (s t : List ℕ) → ((i : ℕ) → i < n → get_or s i 0 ≡ get_or t i 0) → padded n s ≡ padded n t
unfolding padded
padded-same zero s t h = refl
padded-same (suc n) s t h =
    λ j. h 0 (omega arith) j ∷ padded-same n (drop 1 s) (drop 1 t) (λ i l. get_or-drop 1 s i 0 ∙ (h (1 + i) (omega arith) ∙ sym (get_or-drop 1 t i 0))) j

module _ (b c : List ℕ) (same : SameBytes b c) where
  -- numbers
  two-same : (at : ℕ) → at < 511 → two_at b at ≡ two_at c at
  two-same at l = rw (same at (omega arith), same (at + 1) (omega arith))

  number_same : (at : ℕ) → at < 509 → number_at b at ≡ number_at c at
  unfolding number_at
  number_same at l =
      rw (same at (omega arith), same (at + 1) (omega arith), same (at + 2) (omega arith), same (at + 3) (omega arith))

  zero_same : (from to : ℕ) → to ≤ 512 → zero_between b from to ≡ zero_between c from to
  unfolding zero_between
  zero_same from to l = all_same _ _ from from (to - from) (λ i m. ap (λ (x : ℕ). eqb x 0) (same (from + i) (omega arith)))

  -- the check and the own number
  pub checked-same : checked b ≡ checked c
  unfolding checked plain weighed
  checked-same =
      rw (
        two-same 508 (omega arith),
        two-same 510 (omega arith),
        total-same (λ i. byte_at b i) (λ i. byte_at c i) 508 (λ k l. same k (omega arith)),
        total-same (λ i. (508 - i) * byte_at b i) (λ i. (508 - i) * byte_at c i) 508 (λ k l. ap (λ (x : ℕ). (508 - k) * x) (same k (omega arith))),
      )

  pub own_same : own_at b ≡ own_at c
  own_same = two-same 2 (omega arith)

  -- the body, field by field
  triple-same : (at : ℕ) → at < 500 → triple_at b at ≡ triple_at c at
  triple-same at l = λ i. record { x = number_same at (omega arith) i; y = number_same (at + 4) (omega arith) i; z = number_same (at + 8) (omega arith) i }

  four_same : (at : ℕ) → at < 490 → four_numbers_at b at ≡ four_numbers_at c at
  four_same at l = λ i. record { a = number_same at (omega arith) i; b = number_same (at + 4) (omega arith) i; c = number_same (at + 8) (omega arith) i; d = number_same (at + 12) (omega arith) i }

  gray-same : gray_at b ≡ gray_at c
  gray-same = λ i. record { white = triple-same 4 (omega arith) i; black = triple-same 16 (omega arith) i; gamma = number_same 28 (omega arith) i }

  rgb-same : rgb_at b ≡ rgb_at c
  rgb-same =
      λ i. record {
        white = triple-same 4 (omega arith) i;
        black = triple-same 16 (omega arith) i;
        gammas = triple-same 28 (omega arith) i;
        a = triple-same 40 (omega arith) i;
        b = triple-same 52 (omega arith) i;
        c = triple-same 64 (omega arith) i;
      }

  lab-same : lab_at b ≡ lab_at c
  lab-same =
      λ i. record {
        white = triple-same 4 (omega arith) i;
        black = triple-same 16 (omega arith) i;
        range =
            record {
              amin = number_same 28 (omega arith) i;
              amax = number_same 32 (omega arith) i;
              bmin = number_same 36 (omega arith) i;
              bmax = number_same 40 (omega arith) i;
            };
      }

  separation-same : separation_at b ≡ separation_at c
  separation-same =
      λ i. record {
        alternate = two-same 4 (omega arith) i;
        exponent = same 6 (omega arith) i;
        name_len = same 7 (omega arith) i;
        c0 = four_same 136 (omega arith) i;
        c1 = four_same 152 (omega arith) i;
      }

  by_kind : (k : ℕ) → body_by k b ≡ body_by k c
  unfolding body_by
  by_kind k =
      λ i. cond (eqb k 1) (CalGray (gray-same i))
      (cond (eqb k 2) (CalRgb (rgb-same i))
      (cond (eqb k 3) (Lab (lab-same i))
      (cond (eqb k 4) (Indexed (two-same 4 (omega arith) i) (two-same 6 (omega arith) i))
      (cond (eqb k 5) (Separation (separation-same i))
      (cond (eqb k 6) Palette
      (cond (eqb k 7) Program
      (cond (eqb k 8) (DeviceN (two-same 4 (omega arith) i) (same 6 (omega arith) i)) Free)))))))

  pub body_same : body_at b ≡ body_at c
  body_same = by_kind (kind_at b) ∙ ap (λ (k : ℕ). body_by k c) (same 0 (omega arith))

  -- refusal 3, but the own number
  known_same : well_laid b ≡ well_laid c
  unfolding well_laid
  known_same =
      let z : zero_between b (named_to (body_at b)) 508 ≡ zero_between c (named_to (body_at c)) 508 =
      ap (λ (y : Body). zero_between b (named_to y) 508) body_same ∙ zero_same (named_to (body_at c)) 508 (omega arith) in
      λ i. leb (same 0 (omega arith) i) 8 && (eqb (same 1 (omega arith) i) 0 && (z i && cond (eqb (same 0 (omega arith) i) 8) (eqb (same 7 (omega arith) i) 0) true))

  -- the names of a DeviceN, as the room has them
  pub names_same : names_at b ≡ names_at c
  names_same = ap (λ (l : List ℕ). l ++ replicate (room - names_room) 0) (padded-same names_room (drop name_from b) (drop name_from c) (λ i l. get_or-drop name_from b i 0 ∙ (same (name_from + i) (omega arith) ∙ sym (get_or-drop name_from c i 0))))

  shown-same : name_shown b ≡ name_shown c
  unfolding name_shown
  shown-same =
      rw (same 0 (omega arith), same 6 (omega arith), same 7 (omega arith), names_same, name-same b c 8 8 (byte_at c 7) (λ i l. same (8 + i) (omega arith)))

  pub formed-same : well_formed b ≡ well_formed c
  unfolding well_formed
  formed-same = rw (known_same, shown-same)
