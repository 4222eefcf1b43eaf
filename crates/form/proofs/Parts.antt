-- Words among others: those from a place on, as many as there are.
use mathlib.Core.Path.{◌≡◌, ap, ◌∙◌}
use mathlib.Core.Bool.{true, false, ◌&&◌}
use mathlib.Core.List.{List, ◌++◌}
use Prim.Native.Nat.{ℕ, ◌+◌, ◌-◌, ◌≤◌, ◌<◌}
use native.Mathlib.Omega.{arith}
use borrow.Author.Tests.{le-leb, lt-leb, leb-true}
use lib.IntN.{ℤ}
use lib.Dec.{leb}
use lib.ListN.{length, take, drop, length-append, length-take, length-drop}
use lib.Seq.{take_at, drop_at}
use Rattle.fixed.specs.Values.{places, widest, fills, makes}
use Rattle.fixed.proofs.Decide.{and_left, and_right, both}
use Rattle.form.specs.Paths.{formed}
use Rattle.form.specs.Steps.{most_words, well_formed, part_of, form_at}

module _ (ws : List ℤ) (at n : ℕ) where
  pub form-past : (t m : ℕ) → length ws < at + n → false ≡ form_at ws at n t m
  unfolding form_at
  form-past t m h = simp (lt-leb (at + n) (length ws) h)

  pub part-in : take ((at + n) - at) (drop at ws) ≡ part_of ws at n
  part-in = let k : (at + n) - at ≡ n = omega arith in ap (λ (j : ℕ). take j (drop at ws)) k

  -- the words from `at` on, where there are n
  pub form-in : (t m : ℕ) → at + n ≤ length ws → well_formed (take ((at + n) - at) (drop at ws)) t m ≡ form_at ws at n t m
  unfolding form_at
  form-in t m h = simp (le-leb (at + n) (length ws) h) (ap (λ (l : List ℤ). well_formed l t m) part-in)

-- ---- what is known of a flat form that stands among other words

pub record Placed (ws : List ℤ) (at n t m : ℕ) : Type 0 where
  pub there : at + n ≤ length ws
  pub takes : t ≤ places
  pub low : 1 ≤ m
  pub high : m ≤ widest
  pub few : n ≤ most_words

pub form-placed : (ws : List ℤ) (at n t m : ℕ) → form_at ws at n t m ≡ true → Placed ws at n t m
unfolding form_at well_formed
form-placed ws at n t m e =
    let part = part_of ws at n in
    let right = and_right (leb (at + n) (length ws)) (well_formed part t m) e in
    let counts = and_left (fills t && makes m) (leb (length part) most_words && formed part t m) right in
    let size = and_right (fills t && makes m) (leb (length part) most_words && formed part t m) right in
    let taken = and_left (fills t) (makes m) counts in
    let count = and_right (fills t) (makes m) counts in
    let h : at + n ≤ length ws = leb-true _ _ (and_left (leb (at + n) (length ws)) (well_formed part t m) e) in
    let k : length part ≤ most_words = leb-true _ _ (and_left (leb (length part) most_words) (formed part t m) size) in
    let l : length part ≡ n = simp (length-take, length-drop) (omega arith) in
    record {
      there = h;
      takes = leb-true _ _ (and_right (leb 1 t) (leb t places) taken);
      low = leb-true _ _ (and_left (leb 1 m) (leb m widest) count);
      high = leb-true _ _ (and_right (leb 1 m) (leb m widest) count);
      few = omega arith;
    }

-- ---- words that are written after others, and before more of them

module _ (before ws after : List ℤ) (at n : ℕ) (e : length before ≡ at) (f : length ws ≡ n) where
  pub part-there : part_of (before ++ (ws ++ after)) at n ≡ ws
  part-there = ap (take n) (drop_at before (ws ++ after) at e) ∙ take_at ws after n f

  pub form-there : (t m : ℕ) → well_formed ws t m ≡ true → form_at (before ++ (ws ++ after)) at n t m ≡ true
  unfolding form_at
  form-there t m g =
      both (le-leb (at + n) (length (before ++ (ws ++ after))) (simp length-append (omega arith)))
      (ap (λ (l : List ℤ). well_formed l t m) part-there ∙ g)
