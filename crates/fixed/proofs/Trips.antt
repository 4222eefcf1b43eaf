-- Reading the bytes of a number that was written gives it back, and writing the number that was read changes nothing.
use mathlib.Core.Path.{◌≡◌, refl, ap, ◌∙◌, sym}
use mathlib.Core.List.{List}
use Prim.Native.Nat.{ℕ, ◌+◌, ◌*◌, ◌/◌, ◌%◌, ◌<◌, ◌≤◌, ◌^◌}
use native.Mathlib.Nat.{div-div-eq-div-mul, div-add-mod', mod-eq_of_lt}
use native.Mathlib.Omega.{arith}
use lib.ListN.{length, get_or, set, length-set}
use lib.Seq.{get_or-set_same, get_or-set_other, set-get_or, sets}
use lib.IntN.{ℤ}
use mir.Syntax.{w32}
use mir.Val.{SFits}
use mir.ValLaws.{to_z-of_z, of_z-to_z, of_z_fits}
use Rattle.fixed.specs.Bytes.{two_at, four_at, number_at, two_bytes, four_bytes, number_bytes, bits, signed}
use Rattle.fixed.proofs.Stores.{two-stored, four-stored}

-- a number below 2³² is its four digits to the base 256
pub digits : (n : ℕ) → n < 2 ^ 32 → ((n / 16777216 % 256 * 256 + n / 65536 % 256) * 256 + n / 256 % 256) * 256 + n % 256 ≡ n
digits n h =
    joined _ (n / 256) (n / 65536) (n / 16777216) _ _ _ _ (div-add-mod' n 256)
    (ap (λ (q : ℕ). q * 256 + n / 256 % 256) (sym (div-div-eq-div-mul n 256 256)) ∙ div-add-mod' (n / 256) 256)
    (ap (λ (q : ℕ). q * 256 + n / 65536 % 256) (sym (div-div-eq-div-mul n 65536 256)) ∙ div-add-mod' (n / 65536) 256)
    (mod-eq_of_lt top)
  where
    joined : (n q r t a b c d : ℕ) → q * 256 + d ≡ n → r * 256 + c ≡ q → t * 256 + b ≡ r → a ≡ t → ((a * 256 + b) * 256 + c) * 256 + d ≡ n
    joined n q r t a b c d h₁ h₂ h₃ h₄ = omega arith

    top : n / 16777216 < 256
    top = omega arith

-- one below 2¹⁶ is its two
pub two_digits : (n : ℕ) → n < 65536 → n / 256 % 256 * 256 + n % 256 ≡ n
two_digits n h = omega arith

-- and four digits are those of their number
module _ (a b c d : ℕ) (ha : a < 256) (hb : b < 256) (hc : c < 256) (hd : d < 256) where
  pub first : (((a * 256 + b) * 256 + c) * 256 + d) / 16777216 % 256 ≡ a
  first = omega arith

  pub second : (((a * 256 + b) * 256 + c) * 256 + d) / 65536 % 256 ≡ b
  second = omega arith

  pub third : (((a * 256 + b) * 256 + c) * 256 + d) / 256 % 256 ≡ c
  third = omega arith

  pub fourth : (((a * 256 + b) * 256 + c) * 256 + d) % 256 ≡ d
  fourth = omega arith

past : (l : List ℕ) (i j x : ℕ) → j < i → get_or (set l i x) j 0 ≡ get_or l j 0
past l i j x p = get_or-set_other l i j x 0 (λ e. omega arith)

-- ---- two bytes

module _ (s : List ℕ) (at : ℕ) (room : at + 2 ≤ length s) where
  pub two_back : (n : ℕ) → n < 65536 → two_at (sets s at (two_bytes n)) at ≡ n
  two_back n h = ap (λ (l : List ℕ). two_at l at) (sym (two-stored s at n _ _ refl refl)) ∙ read
    where
      x : ℕ
      x = n / 256 % 256

      y : ℕ
      y = n % 256

      high : get_or (set (set s at x) (at + 1) y) at 0 ≡ x
      high = past (set s at x) (at + 1) at y (omega arith) ∙ get_or-set_same s at x 0 (omega arith)

      low : get_or (set (set s at x) (at + 1) y) (at + 1) 0 ≡ y
      low = get_or-set_same (set s at x) (at + 1) y 0 (simp length-set (omega arith))

      read : two_at (set (set s at x) (at + 1) y) at ≡ n
      read = simp (high, low) (two_digits n h)

  pub two-kept : ((i : ℕ) → get_or s i 0 < 256) → sets s at (two_bytes (two_at s at)) ≡ s
  two-kept bytes = sym (two-stored s at (two_at s at) (get_or s at 0) (get_or s (at + 1) 0) (sym high) (sym low)) ∙ simp set-get_or
    where
      high : two_at s at / 256 % 256 ≡ get_or s at 0
      high = omega (arith, bytes at, bytes (at + 1))

      low : two_at s at % 256 ≡ get_or s (at + 1) 0
      low = omega (arith, bytes at, bytes (at + 1))

-- ---- four bytes, signed

module _ (s : List ℕ) (at : ℕ) (room : at + 4 ≤ length s) where
  -- each of four bytes that were written is read back
  module _ (a b c d : ℕ) where
    abbrev l₁ : List ℕ
    l₁ = set s at a

    abbrev l₂ : List ℕ
    l₂ = set l₁ (at + 1) b

    abbrev l₃ : List ℕ
    l₃ = set l₂ (at + 2) c

    abbrev l₄ : List ℕ
    l₄ = set l₃ (at + 3) d

    e₀ : get_or l₄ at 0 ≡ a
    e₀ =
        past l₃ (at + 3) at d (omega arith) ∙ past l₂ (at + 2) at c (omega arith) ∙ past l₁ (at + 1) at b (omega arith)
        ∙ get_or-set_same s at a 0 (omega arith)

    e₁ : get_or l₄ (at + 1) 0 ≡ b
    e₁ =
        past l₃ (at + 3) (at + 1) d (omega arith) ∙ past l₂ (at + 2) (at + 1) c (omega arith)
        ∙ get_or-set_same l₁ (at + 1) b 0 (simp length-set (omega arith))

    e₂ : get_or l₄ (at + 2) 0 ≡ c
    e₂ = past l₃ (at + 3) (at + 2) d (omega arith) ∙ get_or-set_same l₂ (at + 2) c 0 (simp length-set (omega arith))

    e₃ : get_or l₄ (at + 3) 0 ≡ d
    e₃ = get_or-set_same l₃ (at + 3) d 0 (simp length-set (omega arith))

    four : four_at l₄ at ≡ ((a * 256 + b) * 256 + c) * 256 + d
    four = simp (e₀, e₁, e₂, e₃)

  pub four-back : (n : ℕ) → n < 2 ^ 32 → four_at (sets s at (four_bytes n)) at ≡ n
  four-back n h = ap (λ (l : List ℕ). four_at l at) (sym (four-stored s at n _ _ _ _ refl refl refl refl)) ∙ (four _ _ _ _ ∙ digits n h)

  pub number-back : (v : ℤ) → SFits w32 v → number_at (sets s at (number_bytes v)) at ≡ v
  unfolding number_at
  number-back v f = ap signed (four-back (bits v) (of_z_fits w32 v f).fits) ∙ to_z-of_z w32 v f

  module _ (bytes : (i : ℕ) → get_or s i 0 < 256) where
    pub four-lt : four_at s at < 2 ^ 32
    four-lt = omega (arith, bytes at, bytes (at + 1), bytes (at + 2), bytes (at + 3))

    pub four-kept : sets s at (four_bytes (four_at s at)) ≡ s
    four-kept =
        sym (four-stored s at (four_at s at) (get_or s at 0) (get_or s (at + 1) 0) (get_or s (at + 2) 0) (get_or s (at + 3) 0)
        (sym (first _ _ _ _ (bytes at) (bytes (at + 1)) (bytes (at + 2)) (bytes (at + 3))))
        (sym (second _ _ _ _ (bytes at) (bytes (at + 1)) (bytes (at + 2)) (bytes (at + 3))))
        (sym (third _ _ _ _ (bytes at) (bytes (at + 1)) (bytes (at + 2)) (bytes (at + 3))))
        (sym (fourth _ _ _ _ (bytes at) (bytes (at + 1)) (bytes (at + 2)) (bytes (at + 3))))) ∙ simp set-get_or

    pub number-kept : sets s at (number_bytes (number_at s at)) ≡ s
    unfolding number_at
    number-kept = ap (λ (n : ℕ). sets s at (four_bytes n)) (of_z-to_z w32 (four_at s at) (record { fits = four-lt })) ∙ four-kept
