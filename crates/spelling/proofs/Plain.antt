-- The families that are a dictionary alone: CalGray, CalRGB and Lab.
use mathlib.Core.Path.{◌≡◌, refl}
use mathlib.Core.Bool.{true, false}
use mathlib.Core.List.{List, [], ◌∷◌}
use Prim.Native.Nat.{ℕ, ◌+◌, ◌*◌, ◌≤◌}
use native.Mathlib.Omega.{arith}
use lib.Dec.{eqb}
use lib.IntN.{ℤ}
use lib.ListN.{length, set}
use lib.Seq.{sets}
use Rattle.fixed.specs.Bytes.{blocks}
use Rattle.record.specs.declared.types.CalGray.{CalGray as GraySpace}
use Rattle.record.specs.declared.types.CalRgb.{CalRgb as RgbSpace}
use Rattle.record.specs.declared.types.Lab.{Lab as LabSpace}
use Rattle.record.specs.declared.types.Triple.{Triple}
use Rattle.lexer.specs.Moves.{more}
use Rattle.lexer.specs.Scans.{Word, takes}
use Rattle.lexer.specs.declared.types.Token.TheVariants.{NameToken, RegularToken}
use Rattle.objects.specs.Objects.{name, number, opens, begins, small}
use Rattle.objects.proofs.Digits.{number_fits, number-value}
use Rattle.objects.proofs.Steps.{word}
use Rattle.objects.proofs.Written.{read_scan}
use Rattle.reader.specs.declared.types.Want.TheVariants.{Dict, Key, Value}
use Rattle.reader.specs.declared.types.Entry.{Entry}
use Rattle.reader.specs.declared.types.Inner.{Inner}
use Rattle.lexical.specs.Names.{same}
use Rattle.keys.specs.Names.{family_named, key_named}
use Rattle.keys.specs.Entries.{key_of, length_of, met_in, complete, number_fault, place_of, defaults}
use Rattle.reader.specs.Spaces.{Parser, Frame, Made, with, around, name_of, body_of, record_of, run_of, run_blocks, made_with}
use Rattle.reader.specs.Tokens.{took, took_by, sort_of, wanted_by, took_key, took_name, keyed, took_value, took_number, valued, closed, count_of}
use Rattle.spelling.specs.Names.{the_cal_gray, the_cal_rgb, the_lab, the_white_point, the_black_point, the_gamma, the_matrix, the_range}
use Rattle.spelling.specs.Spaces.{cal_gray, cal_rgb, lab, entry, three, four, nine, Fitting, AllSmall}
use Rattle.spelling.proofs.Onward.{stands, Onward, taking, then, told}
use Rattle.spelling.proofs.Entries.{at, entry_read}
use Rattle.spelling.proofs.Arrays.{Level, want_at, kind_at, frames_of, made, SpaceRead, open-read, family-read, dict-read, end_read, shut-read}

-- CalGray's Gamma is a number with no brackets
module _ (room : ℕ) (v : List ℤ) (i : Inner) (fs : List Frame) (m : Made) (z : ℤ) (ok : small z ≡ true) where
  gamma-took : (w : Word) (k : ℕ) → took room (with Value 1 (at 3 0 14 1) v i fs m) (read_scan (number z) w k) RegularToken
      ≡ takes (with Key 1 (at 3 1 14 1) (set v 6 z) i fs m)
  unfolding took took_by took_value took_number valued number_fault length_of place_of more sort_of
  gamma-took w k = rw (number_fits z ok, number-value z)

  gamma-key : (w : Word) (k : ℕ) → took room (with Key 1 (at 2 3 6 1) v i fs m) (read_scan (name the_gamma) w k) NameToken
      ≡ takes (with Value 1 (at 3 0 14 1) v i fs m)
  unfolding took took_by took_key took_name keyed key_named same key_of met_in sort_of
  gamma-key w k = refl

  gamma-read : (w : Word) (k f : ℕ) → Onward room (stands (with Key 1 (at 2 3 6 1) v i fs m) w k f) (λ r. name the_gamma ∷ number z ∷ r)
      (word 5 the_gamma) (with Key 1 (at 3 1 14 1) (set v 6 z) i fs m)
  gamma-read w k f =
      then (taking room _ _ w k f (name the_gamma) (gamma-key w k)) (λ k' f'. taking room _ _ (word 5 the_gamma) k' f' (number z) (gamma-took (word 5 the_gamma) k'))

module _ (room : ℕ) (x : Level) (e : Entry) (v : List ℤ) (i : Inner) (n : ℕ) (page opened : List ℕ) (w : Word) (k f : ℕ) (deep : length (frames_of x) ≤ blocks) where
  abbrev before : Parser
  before = with (want_at x) (kind_at x) e v i (frames_of x) (made n page opened)

  abbrev frames : List Frame
  frames = record { start = k; name = [] } ∷ frames_of x

  -- `[`, the family's name, `<<`, and the points that all three have
  module _ (nm : List ℕ) (kind : ℕ) (names : family_named nm ≡ kind) (some : eqb kind 0 ≡ false) (dict : wanted_by kind ≡ Dict)
      (of₁ : key_of kind 1 ≡ true) (of₂ : key_of kind 2 ≡ true) (white black : Triple) (whites : AllSmall (three white)) (blacks : AllSmall (three black)) where
    family : Onward room (stands before w k f) (λ r. opens ∷ name nm ∷ r) (word (length nm) nm) (with Dict kind e v i frames (made n page opened))
    family =
        told
        (then (open-read room e v i (made n page opened) w k f x deep) (λ k' f'. family-read room e v i (made n page opened) w k' f' (kind_at x) frames nm kind names some))
        (λ j. with (dict j) kind e v i frames (made n page opened))

    points : Onward room (stands before w k f) (λ r. opens ∷ name nm ∷ begins ∷ entry the_white_point (three white) (entry the_black_point (three black) r))
        (word 10 the_black_point) (with Key kind (at 2 3 6 1) (sets (sets defaults 0 (three white)) 3 (three black)) i frames (made n page opened))
    unfolding length_of key_named same met_in place_of
    points =
        then
        (then
        (then family (λ k' f'. dict-read room e v i (made n page opened) (word (length nm) nm) k' f' kind frames))
        (λ k' f'. entry_read room kind 1 2 1 i frames (made n page opened) 2 refl refl refl refl (omega arith) the_white_point refl of₁ 0 0 0 refl refl (three white) defaults (word 0 []) k' f' refl whites))
        (λ k' f'. entry_read room kind 2 6 1 i frames (made n page opened) 2 refl refl refl refl (omega arith) the_black_point refl of₂ 2 3 1 refl refl (three black) (sets defaults 0 (three white)) (word 10 the_white_point) k' f' refl blacks)

  module _ (few : n + 1 ≤ blocks) (fits : 512 * (n + 1) ≤ room) where
    pub gray-read : (g : GraySpace) → Fitting (cal_gray g) → SpaceRead room x (cal_gray g) before w k f
    unfolding family_named same wanted_by key_of complete met_in run_blocks closed made_with record_of body_of run_of count_of around name_of defaults
    gray-read g ok =
        record {
          last = _;
          entry = _;
          values = _;
          hival = _;
          opened = _;
          on =
              then
              (then
              (then (points the_cal_gray 1 refl refl refl refl refl g.white g.black ok.0 ok.1) (λ k' f'. gamma-read room _ i frames (made n page opened) g.gamma ok.2 (word 10 the_black_point) k' f'))
              (λ k' f'. end_read room (at 3 1 14 1) _ i (made n page opened) (word 5 the_gamma) k' f' 1 frames refl))
              (λ k' f'. shut-read room (at 3 1 14 1) _ i (made n page opened) (word 5 the_gamma) k' f' 1 frames few fits);
        }

    pub rgb-read : (g : RgbSpace) → Fitting (cal_rgb g) → SpaceRead room x (cal_rgb g) before w k f
    unfolding family_named same wanted_by key_named key_of length_of complete met_in place_of run_blocks closed made_with record_of body_of run_of count_of around name_of defaults
    rgb-read g ok =
        record {
          last = _;
          entry = _;
          values = _;
          hival = _;
          opened = _;
          on =
              then
              (then
              (then
              (then (points the_cal_rgb 2 refl refl refl refl refl g.white g.black ok.0 ok.1) (λ k' f'. entry_read room 2 3 14 1 i frames (made n page opened) 2 refl refl refl refl (omega arith) the_gamma refl refl 6 3 2 refl refl (three g.gammas) _ (word 10 the_black_point) k' f' refl ok.2))
              (λ k' f'. entry_read room 2 4 30 1 i frames (made n page opened) 8 refl refl refl refl (omega arith) the_matrix refl refl 14 3 3 refl refl (nine g) _ (word 5 the_gamma) k' f' refl ok.3))
              (λ k' f'. end_read room (at 4 9 30 1) _ i (made n page opened) (word 6 the_matrix) k' f' 2 frames refl))
              (λ k' f'. shut-read room (at 4 9 30 1) _ i (made n page opened) (word 6 the_matrix) k' f' 2 frames few fits);
        }

    pub lab-read : (g : LabSpace) → Fitting (lab g) → SpaceRead room x (lab g) before w k f
    unfolding family_named same wanted_by key_named key_of length_of complete met_in place_of run_blocks closed made_with record_of body_of run_of count_of around name_of defaults
    lab-read g ok =
        record {
          last = _;
          entry = _;
          values = _;
          hival = _;
          opened = _;
          on =
              then
              (then
              (then (points the_lab 3 refl refl refl refl refl g.white g.black ok.0 ok.1) (λ k' f'. entry_read room 3 5 38 1 i frames (made n page opened) 3 refl refl refl refl (omega arith) the_range refl refl 6 3 2 refl refl (four g.range) _ (word 10 the_black_point) k' f' refl ok.2))
              (λ k' f'. end_read room (at 5 4 38 1) _ i (made n page opened) (word 5 the_range) k' f' 3 frames refl))
              (λ k' f'. shut-read room (at 5 4 38 1) _ i (made n page opened) (word 5 the_range) k' f' 3 frames few fits);
        }
