-- Fields that are stored one after the other.
use mathlib.Core.Path.{◌≡◌, refl, sym, ap, ◌∙◌}
use mathlib.Core.List.{List, [], ◌∷◌, ◌++◌, append-nil}
use Prim.Native.Nat.{ℕ, zero, suc, ◌+◌, ◌-◌, ◌≤◌}
use native.Mathlib.Nat.{add-zero}
use native.Mathlib.Omega.{arith}
use lib.ListN.{length, take, replicate, drop_of_length-le}
use lib.Seq.{sets, length-sets, sets-eq, take-nil}
use Rattle.fixed.proofs.Stores.{sets-append}
use Rattle.layout.specs.Field.{Field, size, sizes, bytes_of, written, puts, padded}
use Rattle.layout.proofs.Fields.{size-bytes}

-- stores that go on where others ended
puts-append : (fs : List Field) (d : List ℕ) (at : ℕ) (gs : List Field) → puts (puts d at fs) (at + sizes fs) gs ≡ puts d at (fs ++ gs)
unfolding puts
puts-append [] d at gs = ap (λ (k : ℕ). puts d k gs) (add-zero at)
puts-append (f ∷ fs) d at gs =
    let e : at + (size f + sizes fs) ≡ at + size f + sizes fs = omega arith in
    ap (λ (k : ℕ). puts (puts (sets d at (bytes_of f)) (at + size f) fs) k gs) e ∙ puts-append fs (sets d at (bytes_of f)) (at + size f) gs

-- the law of every function that writes: x has the fields fs from `at` on, and y has gs besides, from where those end
pub next : (d : List ℕ) (at : ℕ) (fs gs : List Field) {x y : List ℕ} (k : ℕ) → k ≡ at + sizes fs → x ≡ puts d at fs → y ≡ puts x k gs → y ≡ puts d at (fs ++ gs)
next d at fs gs k e f g = g ∙ (λ i. puts (f i) (e i) gs) ∙ puts-append fs d at gs

-- stores of a whole layout
pub puts-written : (fs : List Field) (d : List ℕ) (at : ℕ) → puts d at fs ≡ sets d at (written fs)
unfolding puts
puts-written [] d at = refl
puts-written (f ∷ fs) d at =
    puts-written fs (sets d at (bytes_of f)) (at + size f)
    ∙ ap (λ (k : ℕ). sets (sets d at (bytes_of f)) (at + k) (written fs)) (sym (size-bytes f))
    ∙ sets-append (bytes_of f) d at (written fs)

-- and of one that fills all the bytes there are
pub puts_whole : (fs : List Field) (d : List ℕ) → length d ≡ length (written fs) → puts d 0 fs ≡ written fs
puts_whole fs d e =
    let o : 0 + length (written fs) ≤ length d = omega arith in
    let k : length d ≤ 0 + length (written fs) = omega arith in
    puts-written fs d 0 ∙ sets-eq (written fs) d 0 o ∙ ap (λ (t : List ℕ). written fs ++ t) (drop_of_length-le d k) ∙ append-nil (written fs)

pub length-puts : (fs : List Field) (d : List ℕ) (at : ℕ) → length (puts d at fs) ≡ length d
unfolding puts
length-puts [] d at = refl
length-puts (f ∷ fs) d at = length-puts fs (sets d at (bytes_of f)) (at + size f) ∙ length-sets d at (bytes_of f)

-- a run is the bytes that are there, and zeros in the place of the others
pub padded-cut : (n : ℕ) (s : List ℕ) → padded n s ≡ take n s ++ replicate (n - length s) 0
unfolding padded
padded-cut zero s = let e : 0 - length s ≡ 0 = omega arith in rw e
padded-cut (suc n) [] =
    let e : suc n - 0 ≡ suc (n - 0) = omega arith in
    rw e (ap (λ (l : List ℕ). 0 ∷ l) (padded-cut n [] ∙ ap (λ (l : List ℕ). l ++ replicate (n - 0) 0) (take-nil n)))
padded-cut (suc n) (x ∷ s) = let e : suc n - suc (length s) ≡ n - length s = omega arith in rw e (ap (λ (l : List ℕ). x ∷ l) (padded-cut n s))

-- and where all are there, it is those bytes
pub padded-take : (n : ℕ) (s : List ℕ) → n ≤ length s → padded n s ≡ take n s
unfolding padded
padded-take zero s h = refl
padded-take (suc n) [] h = absurd (omega arith)
padded-take (suc n) (x ∷ s) h = ap (λ (l : List ℕ). x ∷ l) (padded-take n s (omega arith))
