-- Refusal 8: "the number asked for is neither a device code nor a block of kinds 1 to 5 or 8". Such a number is just one whose space is none.
use mathlib.Core.Path.{◌≡◌, refl, sym, ◌∙◌}
use mathlib.Core.Bool.{Bool, true, false, ◌&&◌, ◌||◌, or-false, cond}
use mathlib.Core.List.{List}
use Prim.Native.Nat.{ℕ, ◌<◌}
use native.Mathlib.Omega.{arith}
use lib.Dec.{eqb, ltb}
use borrow.Author.Tests.{ne_eqb, lt-ltb, ltb-true}
use Rattle.fixed.specs.Bytes.{blocks, device, gray_code, rgb_code, cmyk_code, block_at}
use Rattle.record.specs.Layout.{kind_of}
use Rattle.record.specs.Reading.{body_at, names_at, the_none, the_all, ink_is, all_none}
use Rattle.record.specs.declared.types.Separation.{Separation as Ink}
use Rattle.record.specs.declared.types.Body.{Body}
use Rattle.record.specs.declared.types.Body.TheVariants.{Free, CalGray, CalRgb, Lab, Indexed, Separation, Palette, Program, DeviceN}
use Rattle.space.specs.Numbers.{space_kind, asked}
use Rattle.form.specs.declared.Tints.{Tints}
use Rattle.form.specs.declared.Tints.TheVariants.{One, Inks}
use Rattle.form.specs.Steps.{taken_by}
use Rattle.space.proofs.Counts.{taken-high}
use Rattle.space.specs.Spaces.{Space, gray, rgb, cmyk, none, no_mark, every_ink, count_of}
use Rattle.space.specs.Pages.{device_of, plain_of, plain_at, separation_over, calculated_over, ink_of, device_n_of, tinted_of, space_of, space_at}

-- a space has components
abbrev some : Space → Bool
some s = ltb 0 (count_of s)

by_code : (a b c : Bool) → some (cond a gray (cond b rgb (cond c cmyk none))) ≡ (a || (b || c))
by_code true b c = refl
by_code false true c = refl
by_code false false true = refl
by_code false false false = refl

-- a device code has, and no other number that can be no block's
pub device-some : (n : ℕ) → some (device_of n) ≡ device n
unfolding device_of
device-some n = by_code (eqb n gray_code) (eqb n rgb_code) (eqb n cmyk_code)

-- a Separation has one component, whatever its name
by_name : (a b e : Bool) (page : List ℕ) (n : ℕ) (p : Ink) (s : Space) → some (cond a (no_mark One) (cond b every_ink (cond e (calculated_over page n One s) (separation_over p s)))) ≡ true
by_name true b e page n p s = refl
by_name false true e page n p s = refl
by_name false false true page n p s = refl
by_name false false false page n p s = refl

-- a DeviceN has as many as it has names, 1 at least
taken-some : (i : Tints) → ltb 0 (taken_by i) ≡ true
taken-some i = let h = (taken-high i).0 in lt-ltb 0 (taken_by i) (omega (arith, h))

module _ (page : List ℕ) (n : ℕ) where
  pub device-n-some : (alternate count : ℕ) → some (device_n_of page n alternate count) ≡ true
  unfolding device_n_of
  device-n-some alternate count = by (all_none (names_at (block_at page n)) count)
    where
      by : (a : Bool) → some (cond a (no_mark (Inks count)) (calculated_over page n (Inks count) (plain_at page alternate))) ≡ true
      by true = taken-some (Inks count)
      by false = taken-some (Inks count)

  pub ink-some : (p : Ink) → some (ink_of page n p) ≡ true
  unfolding ink_of
  ink-some p = by_name (ink_is (block_at page n) the_none) (ink_is (block_at page n) the_all) (eqb p.exponent 0) page n p (plain_at page p.alternate)

  body-some : (y : Body) → some (space_of page n y) ≡ space_kind (kind_of y)
  unfolding space_of tinted_of plain_of
  body-some Free = refl
  body-some (CalGray g) = refl
  body-some (CalRgb g) = refl
  body-some (Lab g) = refl
  body-some (Indexed base hival) = refl
  body-some (Separation p) = ink-some p
  body-some Palette = refl
  body-some Program = refl
  body-some (DeviceN alternate count) = device-n-some alternate count

  -- no block has a device code for its number
  no-device : n < blocks → device n ≡ false
  no-device l =
      let a : n ≡ gray_code → ⊥ = omega arith in
      let b : n ≡ rgb_code → ⊥ = omega arith in
      let c : n ≡ cmyk_code → ⊥ = omega arith in
      rw (ne_eqb _ _ a, ne_eqb _ _ b, ne_eqb _ _ c)

  -- so refusal 8 is given exactly as the document's table says
  pub asked-space : ltb 0 (count_of (space_at page n)) ≡ asked page n
  unfolding asked
  asked-space = by_size (ltb n blocks) refl
    where
      by_size : (t : Bool) → ltb n blocks ≡ t
          → some (cond t (space_of page n (body_at (block_at page n))) (device_of n))
          ≡ (device n || (t && space_kind (kind_of (body_at (block_at page n)))))
      by_size true e = body-some _ ∙ rw (no-device (ltb-true n blocks e))
      by_size false e = device-some n ∙ sym (or-false (device n))
