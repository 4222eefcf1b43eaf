-- `permits`: what refers to a space is permitted where that has components.
use mathlib.Core.Path.{◌≡◌}
use mathlib.Core.List.{List}
use mathlib.Core.Logic.{◌⊎◌, inl, inr}
use Prim.Native.Nat.{ℕ}
use lib.Dec.{ltb}
use Rattle.record.specs.declared.types.Separation.{Separation as Ink}
use Rattle.record.specs.declared.types.Body.{Body}
use Rattle.record.specs.declared.types.Body.TheVariants.{Indexed, Separation, DeviceN}
use Rattle.runs.specs.Runs.{within, permitted}
use Rattle.runs.proofs.Within.{indexed-permits, separation-permits, device-n-permits}
use Rattle.runs.proofs.references.permits.Goals as goal

referring : (page : List ℕ) {y : Body} {m : ℕ}
    → (((b : ℕ) × (h : ℕ) × (y ≡ Indexed b h)) ⊎ (((p : Ink) × (y ≡ Separation p)) ⊎ ((a : ℕ) × (n : ℕ) × (y ≡ DeviceN a n))))
    → m ≡ within page y → ltb 0 m ≡ permitted page y
referring page (inl (b, h, g)) e = indexed-permits page b h g e
referring page (inr (inl (p, g))) e = separation-permits page p g e
referring page (inr (inr (a, n, g))) e = device-n-permits page a n g e

pub returns-in-Indexed : goal.returns-in-Indexed
returns-in-Indexed c = λ page e. referring page c.in-Indexed.is e
