-- The checker's loop over a table of places: what a turn at `p` asks of the whole table.
use mathlib.Core.Path.{◌≡◌, refl, sym, ap, ◌∙◌, subst}
use mathlib.Core.Bool.{Bool, true, false, cond, true≢false}
use mathlib.Core.List.{List, [], ◌∷◌}
use Prim.Native.Nat.{ℕ, zero, suc, ◌+◌, ◌≤◌, ◌<◌}
use native.Mathlib.Omega.{arith}
use lib.IntN.{ℤ}
use lib.ListN.{length, get_or, set, drop}
use Rattle.stack.proofs.Same.{same-eq}
use Rattle.stack.specs.Stack.{same_kinds}
use Rattle.stack.specs.Judging.{wrong}
use Rattle.stack.specs.Flat.{item_of}
use Rattle.form.specs.Paths.{Place, unmet, met, Places, at, ill, meet, onto, comes, leaves, width_of, checks}

-- ---- a path that comes: nothing to change, a place to set, or ill

pub comes-past : (ks : List ℤ) (d : ℕ) (ps : List Place) → length ps ≤ d → comes ks d ps ≡ ill
unfolding comes
comes-past ks d [] h = refl
comes-past ks zero (p ∷ ps) h = absurd (omega arith)
comes-past ks (suc d) (p ∷ ps) h = let m : length ps ≤ d = omega arith in ap (onto p) (comes-past ks d ps m)

pub comes-new : (ks : List ℤ) (d : ℕ) (ps : List Place) → d < length ps → get_or ps d unmet ≡ unmet → comes ks d ps ≡ at (set ps d (met ks))
unfolding comes
comes-new ks d [] h e = absurd (omega arith)
comes-new ks zero (p ∷ ps) h e = ap (λ (q : Place). meet ks q ps) e
comes-new ks (suc d) (p ∷ ps) h e = let m : d < length ps = omega arith in ap (onto p) (comes-new ks d ps m e)

onto-cond : (p : Place) (t : Bool) (ps : List Place) → onto p (cond t (at ps) ill) ≡ cond t (at (p ∷ ps)) ill
onto-cond p true ps = refl
onto-cond p false ps = refl

pub comes-old : (ks js : List ℤ) (d : ℕ) (ps : List Place) → d < length ps → get_or ps d unmet ≡ met js → comes ks d ps ≡ cond (same_kinds ks js) (at ps) ill
unfolding comes
comes-old ks js d [] h e = absurd (omega arith)
comes-old ks js zero (p ∷ ps) h e = ap (λ (q : Place). meet ks q ps) e ∙ ap (λ (q : Place). cond (same_kinds ks js) (at (q ∷ ps)) ill) (sym e)
comes-old ks js (suc d) (p ∷ ps) h e = let m : d < length ps = omega arith in ap (onto p) (comes-old ks js d ps m e) ∙ onto-cond p (same_kinds ks js) ps

-- ---- where a path came the kinds are its own, and stay

is_at : Places → Bool
is_at (at ps) = true
is_at ill = false

list_of : Places → List Place
list_of (at ps) = ps
list_of ill = []

pub no-ill : {ps : List Place} → at ps ≡ ill → ⊥
unfolding is_at
no-ill e = true≢false (ap is_at e)

listed : {ps qs : List Place} → at ps ≡ at qs → ps ≡ qs
unfolding list_of
listed e = ap list_of e

-- the places with one in front: those behind it are what a path makes of them
behind : (p : Place) (P : Places) (ps : List Place) → at ps ≡ onto p P → (Q : List Place → Type 0) → ((qs : List Place) → at qs ≡ P → Q (p ∷ qs)) → Q ps
behind p ill ps e Q f = absurd (no-ill e)
behind p (at qs) ps e Q f = subst Q (sym (listed e)) (f qs refl)

pub came : (ks : List ℤ) (d : ℕ) (ps ps' : List Place) → at ps' ≡ comes ks d ps → get_or ps' d unmet ≡ met ks
unfolding comes
came ks d [] ps' e = absurd (no-ill e)
came ks zero (unmet ∷ ps) ps' e = ap (λ (l : List Place). get_or l 0 unmet) (listed e)
came ks zero (met js ∷ ps) ps' e = by (same_kinds ks js) refl e
  where
    by : (b : Bool) → same_kinds ks js ≡ b → at ps' ≡ cond b (at (met js ∷ ps)) ill → get_or ps' 0 unmet ≡ met ks
    by true s f = ap (λ (l : List Place). get_or l 0 unmet) (listed f) ∙ ap met (sym (same-eq ks js s))
    by false s f = absurd (no-ill f)
came ks (suc d) (p ∷ ps) ps' e = behind p (comes ks d ps) ps' e (λ l. get_or l (suc d) unmet ≡ met ks) (λ qs f. came ks d ps qs f)

pub stays-met : (ks : List ℤ) (d r : ℕ) (ps ps' : List Place) → at ps' ≡ comes ks d ps → get_or ps r unmet ≡ met ks → get_or ps' r unmet ≡ met ks
unfolding comes
stays-met ks d r [] ps' e f = absurd (no-ill e)
stays-met ks zero zero (unmet ∷ ps) ps' e f = ap (λ (l : List Place). get_or l 0 unmet) (listed e)
stays-met ks zero (suc r) (unmet ∷ ps) ps' e f = ap (λ (l : List Place). get_or l (suc r) unmet) (listed e) ∙ f
stays-met ks zero r (met js ∷ ps) ps' e f = by (same_kinds ks js) e
  where
    by : (b : Bool) → at ps' ≡ cond b (at (met js ∷ ps)) ill → get_or ps' r unmet ≡ met ks
    by true g = ap (λ (l : List Place). get_or l r unmet) (listed g) ∙ f
    by false g = absurd (no-ill g)
stays-met ks (suc d) zero (p ∷ ps) ps' e f = behind p (comes ks d ps) ps' e (λ l. get_or l 0 unmet ≡ met ks) (λ qs g. f)
stays-met ks (suc d) (suc r) (p ∷ ps) ps' e f = behind p (comes ks d ps) ps' e (λ l. get_or l (suc r) unmet ≡ met ks) (λ qs g. stays-met ks d r ps qs g f)

-- ---- the table from a place on

abbrev pub from_p : ℕ → Places → Places
from_p n (at ps) = at (drop n ps)
from_p n ill = ill

from-onto : (n : ℕ) (p : Place) (P : Places) → from_p (suc n) (onto p P) ≡ from_p n P
from-onto n p ill = refl
from-onto n p (at ps) = refl

from-none : (P : Places) → P ≡ from_p 0 P
from-none ill = refl
from-none (at ps) = refl

pub comes-from : (ks : List ℤ) (n d : ℕ) (ps : List Place) → comes ks d (drop n ps) ≡ from_p n (comes ks (n + d) ps)
unfolding comes
comes-from ks zero d ps = ap (λ (k : ℕ). comes ks k ps) (let e : d ≡ 0 + d = omega arith in e) ∙ from-none (comes ks (0 + d) ps)
comes-from ks (suc n) d [] = refl
comes-from ks (suc n) d (p ∷ ps) = comes-from ks n d ps ∙ (sym (from-onto n p (comes ks (n + d) ps)) ∙ ap (λ (k : ℕ). from_p (suc n) (comes ks k (p ∷ ps))) (let e : suc (n + d) ≡ suc n + d = omega arith in e))

-- ---- a turn

pub turn-checks : (ws : List ℤ) (ps : List Place) (ks : List ℤ) → 0 < length ws → 0 < length ps → get_or ps 0 unmet ≡ met ks → checks ws 0 (at ps) ≡ checks (drop 1 ws) (width_of (item_of ws)) (leaves (item_of ws) ks (drop 1 ps))
unfolding checks
turn-checks [] ps ks h g e = absurd (omega arith)
turn-checks (w ∷ ws) [] ks h g e = absurd (omega arith)
turn-checks (w ∷ ws) (p ∷ ps) ks h g e = ap (λ (q : Place). checks (w ∷ ws) 0 (at (q ∷ ps))) e

-- no path came here: wrong
pub turn-unmet : (ws : List ℤ) (ps : List Place) → 0 < length ws → get_or ps 0 unmet ≡ unmet → checks ws 0 (at ps) ≡ wrong
unfolding checks
turn-unmet [] ps h e = absurd (omega arith)
turn-unmet (w ∷ ws) [] h e = refl
turn-unmet (w ∷ ws) (p ∷ ps) h e = ap (λ (q : Place). checks (w ∷ ws) 0 (at (q ∷ ps))) e

-- the later words of an item: a path into them is wrong
pub mid-free : (ws : List ℤ) (n : ℕ) (ps : List Place) → 0 < length ws → 0 < length ps → get_or ps 0 unmet ≡ unmet → checks ws (suc n) (at ps) ≡ checks (drop 1 ws) n (at (drop 1 ps))
unfolding checks
mid-free [] n ps h g e = absurd (omega arith)
mid-free (w ∷ ws) n [] h g e = absurd (omega arith)
mid-free (w ∷ ws) n (p ∷ ps) h g e = ap (λ (q : Place). checks (w ∷ ws) (suc n) (at (q ∷ ps))) e

pub mid-met : (ws : List ℤ) (n : ℕ) (ps : List Place) (ks : List ℤ) → 0 < length ws → get_or ps 0 unmet ≡ met ks → checks ws (suc n) (at ps) ≡ wrong
unfolding checks
mid-met [] n ps ks h e = absurd (omega arith)
mid-met (w ∷ ws) n [] ks h e = refl
mid-met (w ∷ ws) n (p ∷ ps) ks h e = ap (λ (q : Place). checks (w ∷ ws) (suc n) (at (q ∷ ps))) e
