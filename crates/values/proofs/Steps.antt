-- The steps on values, as the loops make them, and the page's rows and tints as steps of its tables.
use mathlib.Core.Path.{◌≡◌, ap, ap₂, ◌∙◌, sym}
use mathlib.Core.Bool.{◌||◌}
use mathlib.Core.List.{List}
use Prim.Native.Nat.{ℕ, ◌+◌, ◌*◌, ◌≤◌}
use native.Mathlib.Nat.{mul-le-mul}
use native.Mathlib.Omega.{arith}
use lib.IntN.{ℤ, pos, nat_abs}
use lib.ListN.{take}
use lib.Seq.{get_or-take}
use Rattle.fixed.specs.Numbers.{limited, outside, round_index, tint_power, tint_value}
use Rattle.fixed.specs.Values.{places, value, filled, index_of, row_from, tint_of, tinted_by, tint_step}
use Rattle.fixed.specs.declared.values.Colour.{Colour}
use Rattle.fixed.proofs.Listed.{listed-value, filled-same, index_is, index-le, row_room}
use Rattle.space.specs.Spaces.{Space, count_of}
use Rattle.space.specs.Pages.{entries, entry_of, table_of}

-- a row ends within the most entries that a table has
pub few-rows : (i m h : ℕ) → i ≤ h → m ≤ places → h ≤ 65535 → i * m + m ≤ entries
few-rows i m h le lm lh =
    let k : i ≤ 65535 = omega arith in
    let q : i * m ≤ 65535 * places = mul-le-mul k lm in
    omega arith

-- a row of the page is the row of the table
row_is : (page : List ℕ) (n h : ℕ) (s : Space) (v : List ℤ) (i : ℕ) → i ≡ index_of (value v 0) h → i ≤ h
    → filled (λ k. entry_of page n s (i * count_of s + k)) (count_of s) v ≡ row_from (count_of s) h (table_of page n h s) v
unfolding row_from table_of
row_is page n h s v i e le =
    filled-same (λ k. entry_of page n s (i * count_of s + k)) (λ k. value (table_of page n h s) (index_of (value v 0) h * count_of s + k)) (count_of s) v
    (λ k lt. sym (ap (λ (j : ℕ). value (table_of page n h s) (j * count_of s + k)) (sym e) ∙
    listed-value (entry_of page n s) (count_of s * (h + 1)) (i * count_of s + k) (row_room (count_of s) h i k le lt)))

-- in the code's own terms: m the components of the base s, x the value that picks a row, and r that row
pub row-picked : (page : List ℕ) (n h : ℕ) (s : Space) (v : List ℤ) (m r : ℕ) (x : ℤ) → m ≡ count_of s → x ≡ value v 0 → pos r ≡ round_index x h
    → filled (λ k. entry_of page n s (r * m + k)) m v ≡ row_from (count_of s) h (table_of page n h s) v
row-picked page n h s v m r x em ex er =
    ap (λ (j : ℕ). filled (λ k. entry_of page n s (r * j + k)) j v) em ∙
    row_is page n h s v r (index_is r h x er ∙ ap (λ (y : ℤ). index_of y h) ex) (index-le r h x er)

-- a tint in the code's own terms: p the part of 0..1 that value 0 is, and q that to the exponent
pub tint-taken : (e m p q : ℕ) (x : ℤ) (c0 c1 v : List ℤ) → x ≡ value v 0 → p ≡ nat_abs (limited (pos 0) (pos 1000000) x) → q ≡ tint_power p e
    → filled (λ k. tint_value (value c0 k) (value c1 k) q) m v ≡ tinted_by e m c0 c1 v
unfolding tinted_by tint_of
tint-taken e m p q x c0 c1 v ex ep eq =
    let at : q ≡ tint_power (nat_abs (limited (pos 0) (pos 1000000) (value v 0))) e =
    eq ∙ ap (λ (j : ℕ). tint_power j e) (ep ∙ ap (λ (y : ℤ). nat_abs (limited (pos 0) (pos 1000000) y)) ex) in
    ap (λ (j : ℕ). filled (λ k. tint_value (value c0 k) (value c1 k) j) m v) at

-- a tint reads the first m entries of C0 and C1 alone
pub tint-first : (e m : ℕ) (c0 c1 : List ℤ) (c : Colour) → tint_step e m c0 c1 c ≡ tint_step e m (take m c0) (take m c1) c
unfolding tint_step tinted_by
tint-first e m c0 c1 c =
    let v = c.values in
    let same = filled-same (λ k. tint_value (value c0 k) (value c1 k) (tint_of (value v 0) e)) (λ k. tint_value (value (take m c0) k) (value (take m c1) k) (tint_of (value v 0) e)) m v
    (λ k lt. ap₂ (λ (x y : ℤ). tint_value x y (tint_of (value v 0) e)) (sym (get_or-take m c0 k (pos 0) lt)) (sym (get_or-take m c1 k (pos 0) lt))) in
    λ i. record { values = same i; moved = c.moved || outside (pos 0) (pos 1000000) (value v 0) }
