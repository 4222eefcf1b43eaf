-- How long a text may be: at most 3,032 bytes for each block, so that a page's text is far from the most that a text may have.
use mathlib.Core.Path.{◌≡◌, sym}
use mathlib.Core.Bool.{true, true≢false}
use mathlib.Core.List.{List, [], ◌∷◌, ◌++◌}
use Prim.Native.Nat.{ℕ, suc, ◌+◌, ◌*◌, ◌/◌, ◌≤◌}
use native.Mathlib.Omega.{arith}
use borrow.Author.Tests.{leb-true}
use lib.IntN.{ℤ, pos, negsuc}
use lib.ListN.{length, length-append}
use Rattle.fixed.proofs.Decide.{cond_ind}
use Rattle.digits.specs.Digits.{digits}
use Rattle.digits.proofs.Digits.{digits-short}
use Rattle.objects.specs.Objects.{Object, name, text, number, whole, opens, closes, begins, ends, each, pair, plain, name_byte, last_digits, decimal, bare, written, small, writable}
use Rattle.objects.proofs.Written.{AllWritable, no_more, ◌&◌}
use Rattle.spelling.specs.Names.{the_function_type, the_domain, the_c0, the_c1, the_n}
use Rattle.spelling.specs.Spaces.{Device, device_gray, device_rgb, device_cmyk, Space, device, cal_gray, cal_rgb, lab, indexed, separation, numbers, entry, components_of, blocks_of, all_blocks, objects, all_objects, Fitting, AllFitting, is_array, spelled}
use Rattle.spelling.proofs.Nested.{components}
use Rattle.spelling.proofs.Spaces.{palette-short, all-writable}

-- an object has at most so many bytes
abbrev weight : Object → ℕ
weight (name w) = 2 + 3 * length w
weight (text w) = 2 + 2 * length w
weight (number z) = 19
weight (whole n) = 11
weight opens = 2
weight closes = 2
weight begins = 2
weight ends = 2

abbrev weights : List Object → ℕ
weights [] = 0
weights (o ∷ os) = weight o + weights os

byte-long : (x : ℕ) → length (name_byte x) ≤ 3
unfolding name_byte pair
byte-long x = cond_ind (λ (l : List ℕ). length l ≤ 3) (plain x) (λ e. omega arith) (λ e. omega arith)

name-long : (w : List ℕ) → length (each name_byte w) ≤ 3 * length w
name-long [] = omega arith
name-long (x ∷ w) = omega (arith, length-append (name_byte x) (each name_byte w), byte-long x, name-long w)

text-long : (w : List ℕ) → length (each pair w) ≤ 2 * length w
unfolding pair
text-long [] = omega arith
text-long (x ∷ w) = let h = text-long w in omega arith

parts-long : (n : ℕ) → n ≤ 2147483648 → length (digits (n / 1000000) ++ (46 ∷ last_digits 6 n)) ≤ 17
unfolding last_digits
parts-long n h = omega (arith, length-append (digits (n / 1000000)) (46 ∷ last_digits 6 n), digits-short (n / 1000000) (omega arith))

decimal-long : (z : ℤ) → small z ≡ true → length (decimal z) ≤ 18
unfolding decimal
decimal-long (pos n) h = let l = leb-true n 2147483647 h in omega (arith, parts-long n (omega arith))
decimal-long (negsuc n) h = let l = leb-true n 2147483647 h in omega (arith, parts-long (suc n) (omega arith))

written-long : (o : Object) → writable o ≡ true → length (written o) ≤ weight o
unfolding bare
written-long (name w) ok = omega (arith, length-append (each name_byte w) (32 ∷ []), name-long w)
written-long (text w) ok =
    omega (arith, length-append (each pair w ++ (62 ∷ [])) [], length-append (each pair w) (62 ∷ []), text-long w)
written-long (number z) ok = omega (arith, length-append (decimal z) (32 ∷ []), decimal-long z ok)
written-long (whole n) ok =
    let l = leb-true n 2147 ok in omega (arith, length-append (digits n) (32 ∷ []), digits-short n (omega arith))
written-long opens ok = omega arith
written-long closes ok = omega arith
written-long begins ok = omega arith
written-long ends ok = omega arith

all-long : (os : List Object) → AllWritable os → length (each written os) ≤ weights os
all-long [] no_more = omega arith
all-long (o ∷ os) (ok & all) = omega (arith, length-append (written o) (each written os), written-long o ok, all-long os all)

-- ---- spaces

numbers-long : (zs : List ℤ) (rest : List Object) → weights (numbers zs rest) ≡ 19 * length zs + weights rest
numbers-long [] rest = omega arith
numbers-long (z ∷ zs) rest = let h = numbers-long zs rest in omega arith

device-long : (d : Device) (rest : List Object) → weights (objects (device d) rest) ≤ 32 + weights rest
device-long device_gray rest = omega arith
device-long device_rgb rest = omega arith
device-long device_cmyk rest = omega arith

space-long : (t : Space) → Fitting t → (rest : List Object) → weights (objects t rest) ≤ 3000 * blocks_of t + 32 + weights rest
space-long (device d) ok rest = omega (arith, device-long d rest)
space-long (cal_gray g) ok rest = omega arith
space-long (cal_rgb g) ok rest = omega arith
space-long (lab g) ok rest = omega arith
space-long (indexed base hival palette) ok rest =
    let fits = ok.1 in
    let size : length palette ≤ 1024 = rw fits.size (palette-short (components_of base) hival (components base).few fits.high) in
    let inside = space-long base ok.0 (whole hival ∷ text palette ∷ closes ∷ rest) in
    omega arith
space-long (separation ink alternate n c₀ c₁) ok rest =
    let fits = ok.1 in
    let few = fits.few in
    let size₀ = fits.from in
    let size₁ = fits.to in
    let four = (components alternate).few in
    let last : List Object = name the_n ∷ whole n ∷ ends ∷ closes ∷ rest in
    let function : List Object =
    begins ∷ name the_function_type ∷ whole 2 ∷ name the_domain ∷ opens ∷ whole 0 ∷ whole 1 ∷ closes ∷ entry the_c0 c₀ (entry the_c1 c₁ last)
    in
    let inside = space-long alternate ok.0 function in
    let long₀ = numbers-long c₀ (closes ∷ entry the_c1 c₁ last) in
    let long₁ = numbers-long c₁ (closes ∷ last) in
    omega arith

some_block : (t : Space) → is_array t ≡ true → 1 ≤ blocks_of t
some_block (device d) e = absurd (true≢false (sym e))
some_block (cal_gray g) e = omega arith
some_block (cal_rgb g) e = omega arith
some_block (lab g) e = omega arith
some_block (indexed base hival palette) e = omega arith
some_block (separation ink alternate n c₀ c₁) e = omega arith

spaces-long : (ts : List Space) → AllFitting ts → weights (all_objects ts) ≤ 3032 * all_blocks ts
spaces-long [] ok = omega arith
spaces-long (t ∷ ts) ok = omega (arith, space-long t ok.1 (all_objects ts), some_block t ok.0, spaces-long ts ok.2)

pub spelled-long : (ts : List Space) → AllFitting ts → length (spelled ts) ≤ 3032 * all_blocks ts
unfolding spelled
spelled-long ts ok = omega (arith, all-long (all_objects ts) (all-writable ts ok), spaces-long ts ok)
