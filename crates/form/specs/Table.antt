-- The checker's table: one slice, two words of 64 bits for each place. The first has the place's height and 1 more in its lowest 7 bits (0: no path came yet) and over
-- them the kinds of its 50 deepest values, the second the kinds of those above; of either the deepest is the lowest bit.
use Rattle.std.specs.Prelude.{◌≡◌, Bool, Option, None, Some, true, false, cond, List, [], ◌∷◌, ℕ, zero, suc, ◌+◌, ◌*◌, ◌-◌, ◌/◌, ◌%◌, ◌≤◌, ℤ, eqb, leb, length, get_or, drop}
use Rattle.stack.specs.Stack.{truth}
use Rattle.stack.specs.Operators.{is_true}
use Rattle.stack.specs.Judging.{Judged, fits, wrong, typed, tested}
use Rattle.stack.specs.Flat.{Item, op, unless, jump, none}
use Rattle.form.specs.Paths.{Place, unmet, met, Places, at, ill, comes, then_p, checks}

-- n kinds, in bits, over those that are there already
unfoldable pub kinds_up : ℕ → ℕ → List ℤ → List ℤ
kinds_up v zero ks = ks
kinds_up v (suc n) ks = kinds_up (v / 2) n (truth (eqb (v % 2) 1) ∷ ks)

-- of h kinds those in the first word
abbrev pub low_part : ℕ → ℕ
low_part h = cond (leb h 50) h 50

-- h kinds, in two words
unfoldable pub kinds_by : ℕ → ℕ → ℕ → List ℤ
kinds_by x y h = kinds_up y (h - low_part h) (kinds_up (x / 128) (low_part h) [])

-- the first word of place p
abbrev pub first_at : List ℕ → ℕ → ℕ
first_at t p = get_or t (2 * p) 0

-- its second word
abbrev pub second_at : List ℕ → ℕ → ℕ
second_at t p = get_or t (2 * p + 1) 0

-- one more than its height, 0 where no path came yet
abbrev pub head_at : List ℕ → ℕ → ℕ
head_at t p = first_at t p % 128

-- its kinds, where its height is h
abbrev pub kinds_at : List ℕ → ℕ → ℕ → List ℤ
kinds_at t p h = kinds_by (first_at t p) (second_at t p) h

-- a place by its two words and its head
abbrev pub place_of : ℕ → ℕ → ℕ → Place
place_of x y zero = unmet
place_of x y (suc h) = met (kinds_by x y h)

-- the same of place p
abbrev pub place_by : List ℕ → ℕ → ℕ → Place
place_by t p c = place_of (first_at t p) (second_at t p) c

-- place p
abbrev pub place_at : List ℕ → ℕ → Place
place_at t p = place_by t p (head_at t p)

-- n places from p on
unfoldable pub places_from : List ℕ → ℕ → ℕ → List Place
places_from t p zero = []
places_from t p (suc n) = place_at t p ∷ places_from t (suc p) n

-- every height is at most 100
abbrev pub Low : List ℕ → Type 0
Low t = (p : ℕ) → head_at t p ≤ 101

-- t' is t but for row q
abbrev pub But : ℕ → List ℕ → List ℕ → Type 0
But q t t' = (p : ℕ) → (p ≡ q → ⊥) → (first_at t' p ≡ first_at t p) × (second_at t' p ≡ second_at t p)

-- kinds as a row keeps them
unfoldable pub bits_of : List ℤ → List ℤ
bits_of [] = []
bits_of (x ∷ xs) = truth (is_true x) ∷ bits_of xs

-- row q now holds these kinds, and no other row changed
pub record Stored (t t' : List ℕ) (q : ℕ) (ks : List ℤ) : Type 0 where
  pub long : length t' ≡ length t
  pub but : But q t t'
  pub here : place_at t' q ≡ met ks
  pub low : head_at t' q ≤ 101

-- the table after paths came, or that something was wrong
abbrev pub arrived : Bool → List Place → Places
arrived true ps = at ps
arrived false ps = ill

-- the same, of the place that a path came to, none where something was wrong
abbrev pub left : Option ℕ → List Place → Places
left None ps = ill
left (Some q) ps = at ps

-- where the paths from the item at p go: as Flat.leaves, of the whole table
abbrev pub leaves_at : Item → List ℤ → ℕ → List Place → Places
leaves_at (op o n) ks p ps = elim (typed o ks) [ fits js ↦ comes js (p + 1 + n) ps | wrong ↦ ill ]
leaves_at (unless k) ks p ps = elim (tested ks) [ fits js ↦ then_p (comes js (p + 1 + 1) ps) (comes js (p + 1 + (1 + k))) | wrong ↦ ill ]
leaves_at (jump k) ks p ps = comes ks (p + 1 + (1 + k)) ps
leaves_at none ks p ps = ill

-- a turn at p of words that have n places: how many words of the item follow, none where it is wrong
abbrev pub passed : Option ℕ → List ℤ → ℕ → List Place → Judged
passed None ws p ps = wrong
passed (Some m) ws p ps = checks (drop (p + 1) ws) m (at (drop (p + 1) ps))

-- the height at place p, none where it is wrong
abbrev pub verdict : Option ℕ → List ℕ → ℕ → Judged
verdict None t p = wrong
verdict (Some h) t p = fits (kinds_at t p h)
