-- White is white, tints are close: the statement of specs/Closeness.antt, from the laws of cie on 1.0 and of fixed on roundings.
use mathlib.Core.Path.{◌≡◌, refl, sym, ap, ◌∙◌, subst}
use mathlib.Core.Bool.{true, false}
use mathlib.Core.List.{List, [], ◌∷◌}
use Prim.Native.Nat.{ℕ, zero, suc, ◌*◌, ◌^◌, ◌≤◌, ◌<◌}
use native.Mathlib.Nat.{pow-suc}
use native.Mathlib.Omega.{arith}
use borrow.Author.Tests.{leb-true}
use lib.Dec.{leb, leb→le}
use lib.IntN.{ℤ, pos, negsuc, nat_abs}
use lib.Ieee.{Float}
use lib.ListN.{length}
use Rattle.fixed.specs.Numbers.{float, limited, exponent_supported, tint_power, tint_value, outside}
use Rattle.fixed.specs.Values.{places, value, listed, started, limited_at, limit_step, tint_of, tint_step}
use Rattle.fixed.specs.declared.values.Colour.{Colour}
use Rattle.fixed.proofs.Decide.{and_left, and_right}
use Rattle.fixed.proofs.Diff.{of-pos, add, sub, scale}
use Rattle.fixed.proofs.Errors.{Close, tint-near}
use Rattle.fixed.proofs.Floors.{limited-inside, le_yes}
use Rattle.fixed.proofs.Listed.{listed-length, limited-within}
use Rattle.cie.specs.declared.GrayClosing.{GrayClosing}
use Rattle.cie.specs.declared.Xyz.{Xyz}
use Rattle.cie.specs.Answers.{answer, in_xyz}
use Rattle.cie.specs.Closings.{cal_gray_of, in_three, closed_by}
use Rattle.cie.proofs.Facts.{one_float, gray-white}
use Rattle.space.specs.Spaces.{Space, cal_gray, separation, count_of}
use Rattle.space.specs.Pages.{space_at}
use Rattle.space.specs.WellMade.{WellMade}
use Rattle.space.proofs.Counts.{count-high}
use Rattle.page.specs.Outcomes.{accepted}
use Rattle.page.specs.Validation.{validated}
use Rattle.page.proofs.WellMade.{well-made-at}
use Rattle.values.specs.Limits.{limited_to}
use Rattle.colour.specs.Colours.{valued, answered}
use Rattle.colour.specs.Evaluating.{evaluated}
use Rattle.colour.proofs.Replies.{page-accepted}
use Rattle.paper.specs.Closeness.{white_reply, InUnit, WithinTwo, limited_tint, WhiteAndTints}
use Rattle.paper.proofs.Labs.{lab-100}
use Rattle.paper.proofs.Tints.{tinted}

-- ---- white

-- what an accepted page answers is what the space at the number answers
on-page : (page : List ℕ) (n : ℕ) (s : Space) → validated page ≡ accepted → space_at page n ≡ s → (cs : List ℤ) → evaluated page n cs ≡ answered s cs
on-page page n s ok e cs = sym (page-accepted page n cs (sym ok)) ∙ ap (λ (t : Space). answered t cs) e

gray-colour : (k : GrayClosing) (a : ℤ) → answered (cal_gray k) (a ∷ []) ≡ in_three (cal_gray_of k (limited (pos 0) (pos 1000000) a)) (outside (pos 0) (pos 1000000) a)
unfolding answered valued closed_by limited_to limit_step limited_at listed
gray-colour k a = refl

still : outside (pos 0) (pos 1000000) (pos 1000000) ≡ false
unfolding outside
still = refl

gray-1 : (k : GrayClosing) → answered (cal_gray k) (pos 1000000 ∷ []) ≡ white_reply k.xw k.zw
gray-1 k =
    gray-colour k (pos 1000000)
    ∙ ((λ i. in_three (cal_gray_of k (limited-inside (pos 0) (pos 1000000) (pos 1000000) refl refl i)) (still i))
    ∙ (ap (λ (p : Xyz). in_three p false) (gray-white k) ∙ ap (λ (y : Float). answer in_xyz (float k.xw ∷ y ∷ float k.zw ∷ []) false) (sym one_float)))

-- ---- tints

-- a number of 0..1 is a natural one
record Natural (z : ℤ) : Type 0 where
  size : ℕ
  is : z ≡ pos size
  small : size ≤ 1000000

natural : (z : ℤ) → InUnit z → Natural z
natural (pos m) u = record { size = m; is = refl; small = leb→le m 1000000 u.high.le }
natural (negsuc m) u = absurd u.low.le

-- the bound over naturals is the bound over whole numbers
within-two : (x n c d r : ℕ) → Close (1000000 ^ n) (x ^ suc n) c d r → WithinTwo (suc n) x (pos c) (pos d) (pos r)
within-two x n c d r near =
    let s : 1000000 ^ suc n ≡ 1000000 ^ n * 1000000 = pow-suc 1000000 n in
    let of-r = scale (1000000 ^ suc n) (of-pos r) in
    let of-exact = add (scale (1000000 ^ suc n) (of-pos c)) (scale (x ^ suc n) (sub (of-pos d) (of-pos c))) in
    record {
      above = le_yes of-r (add of-exact (of-pos (2 * 1000000 ^ suc n))) (omega (arith, near.high, ap (λ (t : ℕ). t * r) s, ap (λ (t : ℕ). t * c) s));
      below = le_yes of-exact (add of-r (of-pos (2 * 1000000 ^ suc n))) (omega (arith, near.low, ap (λ (t : ℕ). t * r) s, ap (λ (t : ℕ). t * c) s));
    }

tint-close : (e x : ℕ) (c0 c1 : ℤ) → 1 ≤ e → e ≤ 4 → x ≤ 1000000 → InUnit c0 → InUnit c1 → WithinTwo e x c0 c1 (tint_value c0 c1 (tint_power x e))
tint-close zero x c0 c1 low high hx u v = absurd (omega arith)
tint-close (suc n) x c0 c1 low high hx u v =
    let c = natural c0 u in
    let d = natural c1 v in
    let near = tint-near x n c.size d.size hx (omega arith) c.small d.small in
    rw (c.is, d.is, near.1.0) (within-two x n c.size d.size near.0 near.1.1)

-- what a Separation hands its alternate
module _ (page : List ℕ) (n e : ℕ) (c0 c1 : List ℤ) (s : Space) (ok : validated page ≡ accepted) (is : space_at page n ≡ separation e c0 c1 s) where
  made : WellMade (separation e c0 c1 s)
  made =
      let some : 1 ≤ count_of (space_at page n) = rw is (omega arith) in
      subst (λ (t : Space). WellMade t) is (well-made-at page n ok some)

  supported : exponent_supported e ≡ true
  unfolding WellMade
  supported = made.0

  module _ (tint : ℤ) (k : ℕ) (lt : k < count_of s) (u : InUnit (value c0 k)) (v : InUnit (value c1 k)) where
    abbrev begun : Colour
    begun = started places (tint ∷ [])

    first : value begun.values 0 ≡ tint
    unfolding listed
    first = refl

    room : count_of s ≤ length begun.values
    room = rw (listed-length (value (tint ∷ [])) places) (count-high s)

    handed : value (tint_step e (count_of s) c0 c1 begun).values k ≡ tint_value (value c0 k) (value c1 k) (tint_power (limited_tint tint) e)
    unfolding tint_of
    handed =
        tinted e (count_of s) c0 c1 begun k lt room
        ∙ ap (λ (x : ℤ). tint_value (value c0 k) (value c1 k) (tint_power (nat_abs (limited (pos 0) (pos 1000000) x)) e)) first

    handed-close : WithinTwo e (limited_tint tint) (value c0 k) (value c1 k) (value (tint_step e (count_of s) c0 c1 begun).values k)
    handed-close =
        let low = leb-true 1 e (and_left _ _ supported) in
        let high = leb-true e 4 (and_right (leb 1 e) _ supported) in
        rw handed (tint-close e (limited_tint tint) (value c0 k) (value c1 k) low high (limited-within 1000000 tint) u v)

-- ---- the statement

pub white-and-tints : WhiteAndTints
white-and-tints =
    record {
      gray-white = λ page n k ok e. on-page page n (cal_gray k) ok e (pos 1000000 ∷ []) ∙ gray-1 k;
      lab-white = λ page n k al ah bl bh ok e wa wb. on-page page n _ ok e (pos 100000000 ∷ pos 0 ∷ pos 0 ∷ []) ∙ lab-100 k al ah bl bh wa wb;
      tint-close = tint-close;
      handed-close = λ page n e c0 c1 s ok is tint k lt u v. handed-close page n e c0 c1 s ok is tint k lt u v;
    }
