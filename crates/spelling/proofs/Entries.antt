-- An entry of a dictionary whose value is an array of numbers, over its key and its numbers.
use mathlib.Core.Path.{◌≡◌, ap}
use mathlib.Core.Bool.{true, false}
use mathlib.Core.List.{List, [], ◌∷◌}
use Prim.Native.Nat.{ℕ, suc, ◌+◌, ◌^◌, ◌≤◌, ◌<◌}
use native.Mathlib.Omega.{arith}
use borrow.Author.Tests.{lt-ltb, le-ltb, ne_eqb}
use lib.Dec.{eqb}
use lib.IntN.{ℤ}
use lib.ListN.{length, set}
use lib.Seq.{sets}
use Rattle.lexer.specs.Moves.{more}
use Rattle.lexer.specs.Scans.{Word, takes}
use Rattle.lexer.specs.declared.types.Token.TheVariants.{NameToken, RegularToken, ArrayOpen, ArrayClose}
use Rattle.objects.specs.Objects.{name, number, opens, closes, small}
use Rattle.objects.proofs.Digits.{number_fits, number-value}
use Rattle.objects.proofs.Steps.{word}
use Rattle.objects.proofs.Written.{read_scan}
use Rattle.reader.specs.declared.types.Want.TheVariants.{Key, Value, Items}
use Rattle.reader.specs.declared.types.Entry.{Entry}
use Rattle.reader.specs.declared.types.Inner.{Inner}
use Rattle.keys.specs.Names.{key_named}
use Rattle.keys.specs.Entries.{key_of, length_of, met_in, number_fault, place_of}
use Rattle.reader.specs.Spaces.{Parser, Frame, Made, with}
use Rattle.reader.specs.Tokens.{took, took_by, sort_of, took_key, took_name, keyed, took_value, took_items, took_number, valued}
use Rattle.spelling.specs.Spaces.{numbers, entry, AllSmall}
use Rattle.spelling.proofs.Onward.{stands, Onward, taking, then, told}

abbrev pub at : ℕ → ℕ → ℕ → ℕ → Entry
at key index mask exponent = record { key = key; index = index; mask = mask; exponent = exponent }

-- a key with an array of l + 1 numbers, none of them asked to be anything but a number
module _ (room kind key mask ex : ℕ) (i : Inner) (fs : List Frame) (m : Made) (l : ℕ) (long : length_of kind i.count key ≡ suc l)
    (no-6 : eqb key 6 ≡ false) (no-7 : eqb key 7 ≡ false) (no-10 : eqb key 10 ≡ false) where
  -- the parser in that array, and between entries
  abbrev items : ℕ → List ℤ → Parser
  items index v = with Items kind (at key index mask ex) v i fs m

  abbrev keys : ℕ → List ℤ → Parser
  keys index v = with Key kind (at key index mask ex) v i fs m

  item : (z : ℤ) (w : Word) (k index : ℕ) (v : List ℤ) → small z ≡ true → index < suc l → suc l ≤ 9
      → took room (items index v) (read_scan (number z) w k) RegularToken ≡ takes (items (index + 1) (set v (place_of key + index) z))
  unfolding took took_by took_items took_number valued number_fault more sort_of
  item z w k index v ok h n =
      rw (long, lt-ltb index (suc l) h, no-6, no-7, number_fits z ok, no-10, ne_eqb (suc l) 0 (λ e. omega arith), number-value z, lt-ltb index 4294967295 (omega arith))

  close : (w : Word) (k : ℕ) (v : List ℤ) → took room (items (suc l) v) (read_scan closes w k) ArrayClose ≡ takes (keys (suc l) v)
  unfolding took took_by took_items sort_of
  close w k v = rw (long, le-ltb (suc l) (suc l) (omega arith))

  module _ (short : suc l ≤ 9) where
    -- numbers from one index on, to the array's end
    items-read : (zs : List ℤ) (index : ℕ) (v : List ℤ) (w : Word) (k f : ℕ) → index + length zs ≡ suc l → AllSmall zs
        → Onward room (stands (items index v) w k f) (λ r. numbers zs (closes ∷ r)) w (keys (suc l) (sets v (place_of key + index) zs))
    items-read [] index v w k f e all =
        let last : suc l ≡ index = omega arith in
        let end = taking room _ _ w k f closes (close w k v) in
        rw (← last) end
    items-read (z ∷ zs) index v w k f e all =
        let next = items-read zs (index + 1) (set v (place_of key + index) z) w in
        let one = taking room _ _ w k f (number z) (item z w k index v all.0 (omega arith) short) in
        let place : place_of key + (index + 1) ≡ suc (place_of key + index) = omega arith in
        told (then one (λ k' f'. next k' f' (omega arith) all.1)) (ap (λ (x : ℕ). keys (suc l) (sets (set v (place_of key + index) z) x zs)) place)

    -- the whole entry
    module _ (nm : List ℕ) (names : key_named nm ≡ key) (of : key_of kind key ≡ true) (old index₀ key₀ : ℕ) (sum : old + 2 ^ key ≡ mask) (new : met_in old key ≡ false) where
      module _ (v : List ℤ) (w : Word) (k : ℕ) where
        key-took : took room (with Key kind (at key₀ index₀ old ex) v i fs m) (read_scan (name nm) w k) NameToken
            ≡ takes (with Value kind (at key 0 mask ex) v i fs m)
        unfolding took took_by took_key took_name keyed sort_of
        key-took = rw (names, of, new, sum)

        array-took : took room (with Value kind (at key 0 mask ex) v i fs m) (read_scan opens w k) ArrayOpen ≡ takes (items 0 v)
        unfolding took took_by took_value sort_of
        array-took = rw (long, ne_eqb (suc l) 0 (λ q. omega arith))

      pub entry_read : (zs : List ℤ) (v : List ℤ) (w : Word) (k f : ℕ) → length zs ≡ suc l → AllSmall zs
          → Onward room (stands (with Key kind (at key₀ index₀ old ex) v i fs m) w k f) (entry nm zs) (word (length nm) nm) (keys (suc l) (sets v (place_of key) zs))
      entry_read zs v w k f e all =
          let place : place_of key + 0 ≡ place_of key = omega arith in
          let u = word (length nm) nm in
          told
          (then
          (then
          (taking room _ _ w k f (name nm) (key-took v w k))
          (λ k' f'. taking room _ _ u k' f' opens (array-took v u k')))
          (λ k' f'. items-read zs 0 v u k' f' (omega arith) all))
          (ap (λ (x : ℕ). keys (suc l) (sets v x zs)) place)
