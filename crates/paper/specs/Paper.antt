-- FORMAT.md, Worked values: the lines marked P, in their order and in the words of the customer's paper: "one statement over all of them together, shown from the
-- definitions".
use Rattle.std.specs.Prelude.{◌≡◌, Bool, true, false, List, [], ◌∷◌, ℕ, ◌≤◌, ◌<◌, ℤ, pos, negsuc, Float, length, replicate}
use Rattle.std.specs.Int.Signed.{lt_z}
use Rattle.std.specs.Float.{fin, binary64}
use Rattle.std.specs.Float.Ieee.{div}
use Rattle.std.specs.Int.{w32}
use Rattle.std.proofs.Common.{SFits}
use Rattle.fixed.specs.Numbers.{float, palette_value}
use Rattle.fixed.specs.Bytes.{blocks, two_at}
use Rattle.fixed.specs.Values.{value, index_of, tint_step}
use Rattle.fixed.specs.declared.values.Colour.{Colour}
use Rattle.cie.specs.declared.LabClosing.{LabClosing}
use Rattle.cie.specs.Answers.{answer, in_xyz}
use Rattle.cie.specs.Steps.{whole, cubed, lab_p, lab_n, first_cubed, second_cubed, third_cubed, first, second, third}
use Rattle.record.specs.declared.types.Body.TheVariants.{Free, CalGray}
use Rattle.record.specs.declared.types.Record.{Record}
use Rattle.record.specs.Layout.{head_of, plain, weighed, block_of}
use Rattle.space.specs.Spaces.{lab, count_of}
use Rattle.space.specs.Pages.{space_at}
use Rattle.page.specs.Outcomes.{accepted}
use Rattle.page.specs.Validation.{validated}
use Rattle.colour.specs.Colours.{answered}
use Rattle.colour.specs.Evaluating.{evaluated}

-- free block 5
abbrev pub free5 : Record
free5 = record { own = 5; body = Free; bytes = replicate 504 0 }

-- CalGray block 0, white 0.9505 1 1.089, black 0, gamma 1
abbrev pub gray0 : Record
gray0 =
    record {
      own = 0;
      body = CalGray (record {
        white = record { x = pos 950500; y = pos 1000000; z = pos 1089000 };
        black = record { x = pos 0; y = pos 0; z = pos 0 };
        gamma = pos 1000000;
      });
      bytes = replicate 504 0;
    }

-- the block of a record has the check p and q: they are the two sums over its bytes 0 to 507, and what its bytes 508-509 and 510-511 hold
pub record Check (r : Record) (p q : ℕ) : Type 0 where
  pub sum : plain (head_of r) ≡ p
  pub weighted : weighed (head_of r) ≡ q
  pub bytes508 : two_at (block_of r) 508 ≡ p
  pub bytes510 : two_at (block_of r) 510 ≡ q

-- an all-zero block
abbrev pub zeros : List ℕ
zeros = replicate 512 0

-- 0.0, of positive sign
abbrev pub nought : Float
nought = fin false 0 (pos 0)

-- the quotient of two whole numbers, as floats
abbrev pub ratio : ℕ → ℕ → Float
ratio n d = div binary64 (whole n) (whole d)

-- 0 within the range lo..hi: not below lo, and hi not below it
pub record Within (lo hi : ℤ) : Type 0 where
  pub low : lt_z (pos 0) lo ≡ false
  pub high : lt_z hi (pos 0) ≡ false

-- X or Z of a white point: above 0, as the clause asks, and a signed 32-bit number
pub record White (v : ℤ) : Type 0 where
  pub above : lt_z (pos 0) v ≡ true
  pub number : SFits w32 v

-- what the tests of the three Lab branches come to at l with a = b = 0: cubed or not
pub record Branches (l : ℤ) (is-cubed : Bool) : Type 0 where
  pub by_first : first_cubed (lab_p l (pos 0)) ≡ is-cubed
  pub by-second : second_cubed l ≡ is-cubed
  pub by-third : third_cubed (lab_n l (pos 0)) ≡ is-cubed

pub record Paper : Type 0 where
  -- "free block 5 has check 5 and 2525"
  pub free-check : Check free5 5 2525
  -- "an all-zero block 0 is an accepted page of no spaces"
  pub zeros-accepted : validated zeros ≡ accepted
  pub zeros-no-spaces : (n : ℕ) → n < blocks → count_of (space_at zeros n) ≡ 0
  -- "CalGray block 0, white 0.9505 1 1.089, black 0, gamma 1, has check 1066 and 3030"
  pub gray-check : Check gray0 1066 3030
  -- "its colour 1 gives the white point's floats": of that block as a page, which is judged first
  pub gray-1 : evaluated (block_of gray0) 0 (pos 1000000 ∷ []) ≡ answer in_xyz (float (pos 950500) ∷ float (pos 1000000) ∷ float (pos 1089000) ∷ []) false
  -- "-3 gives zeros": it is limited, and the answer says so
  pub gray-minus-3 : evaluated (block_of gray0) 0 (negsuc 2999999 ∷ []) ≡ answer in_xyz (nought ∷ nought ∷ nought ∷ []) true
  -- "Lab, 0 within both ranges, here and in the next line. (100,0,0): the white point's floats." For every white point
  pub lab-100 : (k : LabClosing) (al ah bl bh : ℤ) → Within al ah → Within bl bh
      → answered (lab k al ah bl bh) (pos 100000000 ∷ pos 0 ∷ pos 0 ∷ []) ≡ answer in_xyz (float k.xw ∷ float (pos 1000000) ∷ float k.zw ∷ []) false
  -- "(0,0,0): zeros". For every white point that the clause permits
  pub lab-0 : (k : LabClosing) (al ah bl bh : ℤ) → White k.xw → White k.zw → Within al ah → Within bl bh
      → answered (lab k al ah bl bh) (pos 0 ∷ pos 0 ∷ pos 0 ∷ []) ≡ answer in_xyz (nought ∷ nought ∷ nought ∷ []) false
  -- "L* 8 with a = b = 0 is cubed in all three": each test passes there, on whole numbers, and each float is the cube of its ratio
  pub lab-8-branches : Branches (pos 8000000) true
  pub lab-8 : (first (lab_p (pos 8000000) (pos 0)) ≡ cubed (ratio 3000000000 14500000000)) × (second (pos 8000000) ≡ cubed (ratio 24000000 116000000)) × (third (lab_n (pos 8000000) (pos 0)) ≡ cubed (ratio 1200000000 5800000000))
  -- "7.999999 in none": no test passes there, and each float is 108 times what is left, over its divisor
  pub lab-below-8-branches : Branches (pos 7999999) false
  pub lab-below-8 : (first (lab_p (pos 7999999) (pos 0)) ≡ ratio 107999986500 12194500000000) × (second (pos 7999999) ≡ ratio 863999892 97556000000) × (third (lab_n (pos 7999999) (pos 0)) ≡ ratio 43199994600 4877800000000)
  -- "index 2.5, hival 3 or more, picks row 3"
  pub index-2-5 : (hival : ℕ) → 3 ≤ hival → index_of (pos 2500000) hival ≡ 3
  -- "-0.5 picks row 0"
  pub index-minus-0-5 : (hival : ℕ) → index_of (negsuc 499999) hival ≡ 0
  -- "byte B5 over 0..1 gives 709804"
  pub byte-b5 : palette_value 0xB5 (pos 0) (pos 1000000) ≡ pos 709804
  -- "tint 1 gives C1 and tint 0 gives C0, before the alternate's limits", of every name but None and All, which have no tint step, and "keeps to exponents 1
  -- to 4", a program having no tint step either: under every exponent, whatever the numbers of C0 and C1, in each of the m components that the tint step
  -- makes, among as many values as there are
  pub tint-1 : (e m : ℕ) (c0 c1 : List ℤ) (c : Colour) (k : ℕ) → k < m → m ≤ length c.values → value c.values 0 ≡ pos 1000000
      → value (tint_step e m c0 c1 c).values k ≡ value c1 k
  pub tint-0 : (e m : ℕ) (c0 c1 : List ℤ) (c : Colour) (k : ℕ) → k < m → m ≤ length c.values → value c.values 0 ≡ pos 0
      → value (tint_step e m c0 c1 c).values k ≡ value c0 k
