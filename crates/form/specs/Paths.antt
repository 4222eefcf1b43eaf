-- When a flat form is well-formed: at each of its words, and at its end, the kinds with which paths come there are fixed. The words are gone through once,
-- forward, since no jump goes back. Each clause that says `wrong` or `ill` is one fault of the list in RECIPES.md, What is refused:
--   other words than these                          `leaves` of `none`
--   a height below 0 or past 100, a kind wrong,
--   a count below 0 or past the stack               `leaves` of an operator, by `typed`; of a jump that tests, by `tested`
--   a height or a kind that is not fixed            `meet`, where a second path brings other kinds
--   words to which no path comes                    `checks` at a place that is `unmet`
--   a jump back or past the end                     `comes` at the end of the places: a count below 0 is past every end
--   a jump into the middle of an item               `checks` within an item, at a place that is `met`
--   an item that goes on past the end               `checks` at the end, within an item
--   an end without just that count of numbers       `formed`
use Rattle.std.specs.Prelude.{ℕ, zero, suc, ◌+◌, Bool, false, cond, List, [], ◌∷◌, ℤ, pos, length, replicate}
use Rattle.stack.specs.Stack.{same_kinds}
use Rattle.stack.specs.Judging.{Judged, fits, wrong, typed, tested}
use Rattle.stack.specs.Flat.{Item, op, unless, jump, none, item_of}

-- what paths brought to a place: none came yet, or these kinds
pub data Place : Type 0 where
  unmet : Place
  met : List ℤ → Place

-- the places from here on, or that something is wrong
pub data Places : Type 0 where
  at : List Place → Places
  ill : Places

-- a path comes to this place: the first fixes the kinds, and every other brings the same
abbrev pub meet : List ℤ → Place → List Place → Places
meet ks unmet ps = at (met ks ∷ ps)
meet ks (met js) ps = cond (same_kinds ks js) (at (met js ∷ ps)) ill

-- the same with a place in front
abbrev pub onto : Place → Places → Places
onto p (at ps) = at (p ∷ ps)
onto p ill = ill

-- a path comes with these kinds to the place d further on, which may be the end and not past it
unfoldable pub comes : List ℤ → ℕ → List Place → Places
comes ks d [] = ill
comes ks zero (p ∷ ps) = meet ks p ps
comes ks (suc d) (p ∷ ps) = onto p (comes ks d ps)

-- then, where nothing is wrong
abbrev pub then_p : Places → (List Place → Places) → Places
then_p (at ps) f = f ps
then_p ill f = ill

-- the places after an item, of the places after its first word: going on past the item is a path like a jump
abbrev pub leaves : Item → List ℤ → List Place → Places
leaves (op o n) ks ps = elim (typed o ks) [ fits js ↦ comes js n ps | wrong ↦ ill ]
leaves (unless k) ks ps = elim (tested ks) [ fits js ↦ then_p (comes js 1 ps) (comes js (1 + k)) | wrong ↦ ill ]
leaves (jump k) ks ps = comes ks (1 + k) ps
leaves none ks ps = ill

-- how many words of an item follow its first
abbrev pub width_of : Item → ℕ
width_of (op o n) = n
width_of (unless k) = 1
width_of (jump k) = 1
width_of none = 0

-- at the end: the kinds there, to which a path must have come
abbrev pub ends : List Place → Judged
ends [] = wrong
ends (unmet ∷ ps) = wrong
ends (met ks ∷ []) = fits ks
ends (met ks ∷ (p ∷ ps)) = wrong

-- the words from here on, the first n of which are the rest of an item
unfoldable pub checks : List ℤ → ℕ → Places → Judged
checks [] n ill = wrong
checks [] zero (at ps) = ends ps
checks [] (suc n) (at ps) = wrong
checks (w ∷ ws) n ill = wrong
checks (w ∷ ws) n (at []) = wrong
checks (w ∷ ws) (suc n) (at (unmet ∷ ps)) = checks ws n (at ps)
checks (w ∷ ws) (suc n) (at (met ks ∷ ps)) = wrong
checks (w ∷ ws) zero (at (unmet ∷ ps)) = wrong
checks (w ∷ ws) zero (at (met ks ∷ ps)) = checks ws (width_of (item_of (w ∷ ws))) (leaves (item_of (w ∷ ws)) ks ps)

-- n words: at the first stand `taken` numbers, and no path came yet to the others or to the end
abbrev pub start_of : ℕ → ℕ → Places
start_of taken n = comes (replicate taken (pos 0)) 0 (replicate (n + 1) unmet)

-- just this count of numbers is left
unfoldable pub leaves_numbers : ℕ → Judged → Bool
leaves_numbers count (fits ks) = same_kinds (replicate count (pos 0)) ks
leaves_numbers count wrong = false

-- the words are the flat form of a program that takes `taken` numbers and leaves `count` numbers
unfoldable pub formed : List ℤ → ℕ → ℕ → Bool
formed ws taken count = leaves_numbers count (checks ws 0 (start_of taken (length ws)))
