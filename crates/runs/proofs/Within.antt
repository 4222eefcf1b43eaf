-- A reference is permitted just where the space that it is to, at a rank that falls, has components; and what is held of a body with so many of them within.
use mathlib.Core.Path.{◌≡◌, refl, sym, ap, ◌∙◌}
use mathlib.Core.Bool.{Bool, true, false, cond}
use mathlib.Core.List.{List}
use Prim.Native.Nat.{ℕ, ◌≤◌}
use lib.Dec.{ltb}
use borrow.Author.Tests.{ltb-true}
use Rattle.fixed.specs.Bytes.{blocks, block_at}
use Rattle.record.specs.Reading.{body_at}
use Rattle.record.specs.declared.types.Separation.{Separation as Ink}
use Rattle.record.specs.declared.types.Body.{Body}
use Rattle.record.specs.declared.types.Body.TheVariants.{Free, CalGray, CalRgb, Lab, Indexed, Separation, Palette, Program, DeviceN}
use Rattle.space.specs.Spaces.{Space, count_of}
use Rattle.space.specs.Pages.{device_of, numbered, plain_of, plain_at, tinted_of, tinted_at}
use Rattle.space.proofs.Asked.{device-some, device-n-some, ink-some}
use Rattle.runs.specs.Runs.{is_alternate, is_base, refers_to, permitted, within, palette_size}

-- f is what a block is permitted by, and g what its space is
module _ (page : List ℕ) (f : Body → Bool) (g : Body → Space) (same : (y : Body) → f y ≡ ltb 0 (count_of (g y))) (n : ℕ) where
  by_size : (t : Bool) → cond t (f (body_at (block_at page n))) (ltb 0 (count_of (device_of n))) ≡ ltb 0 (count_of (cond t (g (body_at (block_at page n))) (device_of n)))
  by_size true = same _
  by_size false = refl

  permits : refers_to page f n ≡ ltb 0 (count_of (numbered page g n))
  unfolding refers_to
  permits = rw (← device-some n) (by_size (ltb n blocks))

alternate-body : (y : Body) → is_alternate y ≡ ltb 0 (count_of (plain_of y))
unfolding plain_of
alternate-body Free = refl
alternate-body (CalGray g) = refl
alternate-body (CalRgb g) = refl
alternate-body (Lab g) = refl
alternate-body (Indexed base hival) = refl
alternate-body (Separation p) = refl
alternate-body Palette = refl
alternate-body Program = refl
alternate-body (DeviceN alternate count) = refl

module _ (page : List ℕ) where
  base-body : (n : ℕ) (y : Body) → is_base y ≡ ltb 0 (count_of (tinted_of page n y))
  unfolding tinted_of plain_of
  base-body n Free = refl
  base-body n (CalGray g) = refl
  base-body n (CalRgb g) = refl
  base-body n (Lab g) = refl
  base-body n (Indexed base hival) = refl
  base-body n (Separation p) = sym (ink-some page n p)
  base-body n Palette = refl
  base-body n Program = refl
  base-body n (DeviceN alternate count) = sym (device-n-some page n alternate count)

  pub alternate-permits : (n : ℕ) → refers_to page is_alternate n ≡ ltb 0 (count_of (plain_at page n))
  alternate-permits = permits page is_alternate plain_of alternate-body

  pub base-permits : (n : ℕ) → refers_to page is_base n ≡ ltb 0 (count_of (tinted_at page n))
  base-permits n = permits page is_base (tinted_of page n) (base-body n) n

  -- so one that is permitted has components
  pub alternate-some : (n : ℕ) → refers_to page is_alternate n ≡ true → 1 ≤ count_of (plain_at page n)
  alternate-some n h = ltb-true 0 _ (rw (alternate-permits n) at h)

  pub base-some : (n : ℕ) → refers_to page is_base n ≡ true → 1 ≤ count_of (tinted_at page n)
  base-some n h = ltb-true 0 _ (rw (base-permits n) at h)

  -- the same in the code's own terms: y is the body, and m the components of the space within
  module _ {y : Body} {m : ℕ} where
    pub indexed-permits : (base hival : ℕ) → y ≡ Indexed base hival → m ≡ within page y → ltb 0 m ≡ permitted page y
    unfolding within permitted
    indexed-permits base hival g e = ap (ltb 0) (e ∙ ap (within page) g) ∙ sym (base-permits base) ∙ sym (ap (permitted page) g)

    pub separation-permits : (p : Ink) → y ≡ Separation p → m ≡ within page y → ltb 0 m ≡ permitted page y
    unfolding within permitted
    separation-permits p g e = ap (ltb 0) (e ∙ ap (within page) g) ∙ sym (alternate-permits p.alternate) ∙ sym (ap (permitted page) g)

    pub device-n-permits : (alternate count : ℕ) → y ≡ DeviceN alternate count → m ≡ within page y → ltb 0 m ≡ permitted page y
    unfolding within permitted
    device-n-permits alternate count g e = ap (ltb 0) (e ∙ ap (within page) g) ∙ sym (alternate-permits alternate) ∙ sym (ap (permitted page) g)

    -- and the size of the palette is that of the Indexed body
    pub size-within : (base hival : ℕ) {size : ℕ} → y ≡ Indexed base hival → m ≡ within page y → size ≡ palette_size m hival
        → size ≡ palette_size (within page (Indexed base hival)) hival
    size-within base hival g e h = h ∙ ap (λ (k : ℕ). palette_size k hival) (e ∙ ap (within page) g)
