-- The open pairs in their array.
use mathlib.Core.Path.{◌≡◌, refl, ap}
use mathlib.Core.List.{List, ◌∷◌}
use Prim.Native.Nat.{ℕ, zero, suc, ◌+◌, ◌≤◌, ◌<◌}
use native.Mathlib.Numerals.{add-one}
use native.Mathlib.Omega.{arith}
use lib.ListN.{length, get_or, set}
use lib.Seq.{get_or-set_same, get_or-set_other}
use Rattle.program.specs.Outers.{outer_by, outers_by}
use Rattle.program.specs.declared.state.Outer.{Outer}
use Rattle.program.specs.declared.state.Outer.TheVariants.{First}

pub outers-length : (os : List Outer) (d : ℕ) → length (outers_by os d) ≡ d
unfolding outers_by
outers-length os zero = refl
outers-length os (suc d) = ap suc (outers-length os d)

outers-set : (os : List Outer) (d : ℕ) (o : Outer) (e : ℕ) → e ≤ d → outers_by (set os d o) e ≡ outers_by os e
unfolding outers_by
outers-set os d o zero le = refl
outers-set os d o (suc e) le =
    let n : e ≡ d → ⊥ = omega arith in
    let m : e ≤ d = omega arith in
    λ i. outer_by (get_or-set_other os d e o (First 0) n i) ∷ outers-set os d o e m i

pub outers-push : (os : List Outer) (d : ℕ) (o : Outer) → d < length os → outers_by (set os d o) (d + 1) ≡ outer_by o ∷ outers_by os d
unfolding outers_by
outers-push os d o lt =
    rw (add-one d) (λ i. outer_by (get_or-set_same os d o (First 0) lt i) ∷ outers-set os d o d (omega arith) i)

pub outers-pop : (os : List Outer) (d e : ℕ) → e + 1 ≡ d → outers_by os d ≡ outer_by (get_or os e (First 0)) ∷ outers_by os e
unfolding outers_by
outers-pop os d e q = let z : d ≡ suc e = omega arith in ap (outers_by os) z
