-- What was written is read, and what is read is what stands there: once for every layout.
use mathlib.Core.Path.{◌≡◌, refl, sym, ap, ◌∙◌}
use mathlib.Core.List.{List, [], ◌∷◌, ◌++◌, append_assoc}
use mathlib.Core.Bool.{true}
use Prim.Native.Nat.{ℕ, suc, ◌+◌, ◌-◌, ◌*◌, ◌/◌, ◌%◌, ◌<◌, ◌^◌}
use native.Mathlib.Omega.{arith}
use lib.ListN.{length, get_or, length-append, length-replicate}
use lib.IntN.{ℤ}
use mir.Syntax.{w32}
use mir.Val.{SFits, Fits}
use mir.ValLaws.{to_z-of_z, of_z-to_z, of_z_fits, to_z-Fits}
use Rattle.fixed.specs.Bytes.{two_at, four_at, number_at, two_bytes, four_bytes, bits, signed}
use Rattle.fixed.specs.Loops.{zero_between}
use Rattle.fixed.proofs.Trips.{digits, two_digits, first, second, third, fourth}
use Rattle.layout.specs.Field.{Field, one, two, num, run, gap, size, sizes, bytes_of, written, padded, FieldFits, FieldsFit, Bytes}
use Rattle.layout.proofs.Held.{Holds, held-left, held-right, held-nil, held_cons, held-head, held-join, length-padded, zeros-held, held-zeros}

-- what a field says of the bytes at its place
abbrev pub Got : List ℕ → ℕ → Field → Type 0
Got l at (one n) = get_or l at 0 ≡ n
Got l at (two n) = two_at l at ≡ n
Got l at (num z) = number_at l at ≡ z
Got l at (run n s) = Holds l at (padded n s)
Got l at (gap n) = zero_between l at (at + n) ≡ true

-- and all fields of a layout
abbrev pub AllGot : List ℕ → ℕ → List Field → Type 0
AllGot l at [] = Unit
AllGot l at (f ∷ fs) = Got l at f × AllGot l (at + size f) fs

-- each field is written as so many bytes, and so is a layout
pub size-bytes : (f : Field) → length (bytes_of f) ≡ size f
unfolding two_bytes four_bytes
size-bytes (one n) = refl
size-bytes (two n) = refl
size-bytes (num z) = refl
size-bytes (run n s) = length-padded n s
size-bytes (gap n) = length-replicate n 0

pub written-length : (fs : List Field) → length (written fs) ≡ sizes fs
written-length [] = refl
written-length (f ∷ fs) = length-append (bytes_of f) (written fs) ∙ (λ i. size-bytes f i + written-length fs i)

pub written-append : (fs gs : List Field) → written (fs ++ gs) ≡ written fs ++ written gs
written-append [] gs = refl
written-append (f ∷ fs) gs =
    ap (λ (l : List ℕ). bytes_of f ++ l) (written-append fs gs) ∙ sym (append_assoc (bytes_of f) (written fs) (written gs))

-- ---- numbers in bytes

two-held : (l : List ℕ) (at n : ℕ) → n < 65536 → Holds l at (two_bytes n) → two_at l at ≡ n
unfolding two_bytes
two-held l at n k h = simp (held-head h, h.each 1 (omega arith)) (two_digits n k)

four-held : (l : List ℕ) (at n : ℕ) → n < 2 ^ 32 → Holds l at (four_bytes n) → four_at l at ≡ n
unfolding four_bytes
four-held l at n k h =
    simp (held-head h, h.each 1 (omega arith), h.each 2 (omega arith), h.each 3 (omega arith)) (digits n k)

num-held : (l : List ℕ) (at : ℕ) (z : ℤ) → SFits w32 z → Holds l at (four_bytes (bits z)) → number_at l at ≡ z
unfolding number_at
num-held l at z g h = ap signed (four-held l at (bits z) (of_z_fits w32 z g).fits h) ∙ to_z-of_z w32 z g

-- one byte after the other, by the places as they are written
placed : (l : List ℕ) {x : ℕ} (i j : ℕ) → i ≡ j → get_or l j 0 ≡ x → get_or l i 0 ≡ x
placed l i j e h = rw e h

high : (a b : ℕ) → a < 256 → b < 256 → (a * 256 + b) / 256 % 256 ≡ a
high a b h k = omega arith

low : (a b : ℕ) → a < 256 → b < 256 → (a * 256 + b) % 256 ≡ b
low a b h k = omega arith

module _ (l : List ℕ) (at : ℕ) (b : Bytes l) where
  held_two : (n : ℕ) → two_at l at ≡ n → Holds l at (two_bytes n)
  unfolding two_bytes
  held_two n e =
      rw (← e) (held_cons (sym (high _ _ (b at) (b (at + 1))))
      (held_cons (placed l (suc at) (at + 1) (omega arith) (sym (low (get_or l at 0) _ (b at) (b (at + 1))))) held-nil))

  held-four : (n : ℕ) → four_at l at ≡ n → Holds l at (four_bytes n)
  unfolding four_bytes
  held-four n e =
      rw (← e) (held_cons (sym (first _ _ _ _ (b at) (b (at + 1)) (b (at + 2)) (b (at + 3))))
      (held_cons (placed l (suc at) (at + 1) (omega arith) (sym (second (get_or l at 0) _ _ _ (b at) (b (at + 1)) (b (at + 2)) (b (at + 3)))))
      (held_cons (placed l (suc (suc at)) (at + 2) (omega arith) (sym (third (get_or l at 0) (get_or l (at + 1) 0) _ _ (b at) (b (at + 1)) (b (at + 2)) (b (at + 3)))))
      (held_cons (placed l (suc (suc (suc at))) (at + 3) (omega arith) (sym (fourth (get_or l at 0) (get_or l (at + 1) 0) (get_or l (at + 2) 0) _ (b at) (b (at + 1)) (b (at + 2)) (b (at + 3)))))
      held-nil))))

  four-fits : Fits w32 (four_at l at)
  four-fits = record { fits = omega (arith, b at, b (at + 1), b (at + 2), b (at + 3)) }

  held-num : (z : ℤ) → number_at l at ≡ z → Holds l at (four_bytes (bits z))
  unfolding number_at
  held-num z e = held-four (bits z) (sym (of_z-to_z w32 (four_at l at) four-fits) ∙ ap bits e)

  -- a number that is read of bytes is in its range
  pub two-in-range : two_at l at < 65536
  two-in-range = omega (arith, b at, b (at + 1))

  pub num-in-range : SFits w32 (number_at l at)
  unfolding number_at
  num-in-range = to_z-Fits w32 (four_at l at) four-fits

-- two layouts, one after the other
pub in-ranges-join : (fs gs : List Field) → FieldsFit fs → FieldsFit gs → FieldsFit (fs ++ gs)
in-ranges-join [] gs f g = g
in-ranges-join (x ∷ fs) gs f g = (f.0, in-ranges-join fs gs f.1 g)

-- ---- what was written is read ..

heard : (l : List ℕ) (at : ℕ) (f : Field) → FieldFits f → Holds l at (bytes_of f) → Got l at f
heard l at (one n) g h = let e : at + 0 ≡ at = omega arith in rw e at (h.each 0 (omega arith))
heard l at (two n) g h = two-held l at n g h
heard l at (num z) g h = num-held l at z g h
heard l at (run n s) g h = h
heard l at (gap n) g h = let e : at + n - at ≡ n = omega arith in held-zeros l at (at + n) (rw e h)

pub all-heard : (l : List ℕ) (at : ℕ) (fs : List Field) → FieldsFit fs → Holds l at (written fs) → AllGot l at fs
all-heard l at [] g h = tt
all-heard l at (f ∷ fs) g h = (
  heard l at f g.0 (held-left (bytes_of f) (written fs) h),
  all-heard l (at + size f) fs g.1
      (held-right (bytes_of f) (written fs) (at + size f) (ap (λ (n : ℕ). at + n) (sym (size-bytes f))) h),
)

-- ---- .. and what is read is what stands there

module _ (l : List ℕ) (bytes : Bytes l) where
  said : (at : ℕ) (f : Field) → Got l at f → Holds l at (bytes_of f)
  said at (one n) e =
      record { each = λ i p. let q : i ≡ 0 = omega arith in let z : at + 0 ≡ at = omega arith in rw (q, z) e }
  said at (two n) e = held_two l at bytes n e
  said at (num z) e = held-num l at bytes z e
  said at (run n s) e = e
  said at (gap n) e = let q : at + n - at ≡ n = omega arith in rw q at (zeros-held l at (at + n) e)

  pub all_said : (at : ℕ) (fs : List Field) → AllGot l at fs → Holds l at (written fs)
  all_said at [] g = held-nil
  all_said at (f ∷ fs) g =
      held-join (bytes_of f) (written fs) (at + size f) (ap (λ (n : ℕ). at + n) (sym (size-bytes f)))
      (said at f g.0) (all_said (at + size f) fs g.1)

  -- what is read of bytes is in its range
  pub got-in-range : (at : ℕ) (f : Field) → Got l at f → FieldFits f
  got-in-range at (one n) e = rw e at (bytes at)
  got-in-range at (two n) e = rw e at (two-in-range l at bytes)
  got-in-range at (num z) e = rw e at (num-in-range l at bytes)
  got-in-range at (run n s) e = tt
  got-in-range at (gap n) e = tt

  pub got-in-ranges : (at : ℕ) (fs : List Field) → AllGot l at fs → FieldsFit fs
  got-in-ranges at [] g = tt
  got-in-ranges at (f ∷ fs) g = (got-in-range at f g.0, got-in-ranges (at + size f) fs g.1)
