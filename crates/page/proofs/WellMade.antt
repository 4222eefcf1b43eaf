-- On an accepted page the space at every number, if it has components, is well made.
use mathlib.Core.Path.{◌≡◌, refl}
use mathlib.Core.Bool.{true, false, ◌||◌}
use mathlib.Core.List.{List}
use Prim.Native.Nat.{ℕ, ◌≤◌, ◌<◌}
use native.Mathlib.Omega.{arith}
use borrow.Author.Tests.{leb-true}
use lib.Signed.{le_z}
use lib.Dec.{eqb}
use lib.ListN.{length}
use Rattle.fixed.specs.Bytes.{block_at}
use Rattle.fixed.specs.Numbers.{gamma_supported, exponent_supported}
use Rattle.fixed.proofs.Decide.{cond_ind, passed, and_left, and_right}
use Rattle.fixed.proofs.Signs.{not-above}
use Rattle.record.specs.Reading.{body_at, names_at, the_none, the_all, ink_is, all_none}
use Rattle.record.specs.Rules.{white_point, black_point, ordered, lawful, supported}
use Rattle.record.specs.declared.types.Body.{Body}
use Rattle.record.specs.declared.types.Body.TheVariants.{Free, CalGray, CalRgb, Lab, Indexed, Separation, Palette, Program, DeviceN}
use Rattle.stack.specs.Flat.{flat}
use Rattle.form.specs.Steps.{taken_by, fitting}
use Rattle.fixed.specs.Sizes.{most_flat}
use Rattle.calculator.specs.Calculator.{program_run, run_text, code_after, filled_run}
use Rattle.calculator.proofs.Runs.{code_fits, code-few}
use Rattle.space.specs.Spaces.{Space, count_of}
use Rattle.space.specs.Pages.{numbered, plain_of, plain_at, ink_of, device_n_of, tinted_of, tinted_at, space_of, space_at}
use Rattle.space.specs.WellMade.{WellMade, rank_of}
use Rattle.space.proofs.Levels.{numbered-ind, plain-wide}
use Rattle.space.proofs.Counts.{table-length, c0-length, c1-length}
use Rattle.page.specs.Outcomes.{accepted}
use Rattle.runs.specs.Runs.{permitted, within, programmed, tints_of, run_fault, program_fault}
use Rattle.page.specs.Validation.{validated}
use Rattle.page.proofs.Accepted.{Fair, fair-at}
use Rattle.runs.proofs.Within.{alternate-some, base-some}

-- a space that is well made if it has components, and of a rank below r
abbrev Sound : ℕ → Space → Type 0
Sound r s = 1 ≤ count_of s → WellMade s × (rank_of s < r)

-- of numbers whose blocks are sound the spaces are, device spaces among them
sound-at : (r : ℕ) → 0 < r → (page : List ℕ) (f : Body → Space) (n : ℕ) → Sound r (f (body_at (block_at page n))) → Sound r (numbered page f n)
unfolding WellMade
sound-at r l page f n h = numbered-ind (Sound r) (λ k. absurd (omega arith)) (λ _. (tt, l)) (λ _. (tt, l)) (λ _. (tt, l)) page f n h

-- an exponent that is carried and is not 0, for a program, is one of `fixed`'s
other-supported : (e : ℕ) → eqb e 0 ≡ false → (eqb e 0 || exponent_supported e) ≡ true → exponent_supported e ≡ true
other-supported e z h = rw z at h

-- 5: each gamma is within the house limit; 4: amin <= amax, bmin <= bmax
plain-sound : (page : List ℕ) (n : ℕ) (y : Body) → Fair page n y → Sound 1 (plain_of y)
unfolding lawful ordered supported plain_of WellMade
plain-sound page n Free w h = absurd (omega arith)
plain-sound page n (CalGray g) w h = (w.supported-is, omega arith)
plain-sound page n (CalRgb g) w h =
    let s = w.supported-is in
    let r = and_right (gamma_supported g.gammas.x) _ s in
    ((and_left _ _ s, and_left _ _ r, and_right (gamma_supported g.gammas.y) _ r), omega arith)
plain-sound page n (Lab g) w h =
    let q = g.range in
    let r = and_right (black_point g.black) _ (and_right (white_point g.white) _ w.lawful-is) in
    let a = le_z q.amin q.amax in
    let b = le_z q.bmin q.bmax in
    ((not-above q.amin q.amax (and_left a b r), not-above q.bmin q.bmax (and_right a b r)), omega arith)
plain-sound page n (Indexed base hival) w h = absurd (omega arith)
plain-sound page n (Separation p) w h = absurd (omega arith)
plain-sound page n Palette w h = absurd (omega arith)
plain-sound page n Program w h = absurd (omega arith)
plain-sound page n (DeviceN alternate count) w h = absurd (omega arith)

module _ (page : List ℕ) (fair : (n : ℕ) → Fair page n (body_at (block_at page n))) where
  plain-at : (n : ℕ) → Sound 1 (plain_at page n)
  plain-at n = sound-at 1 (omega arith) page plain_of n (plain-sound page n _ (fair n))

  -- 16 and 17: a program takes the tints of its space, and leaves as many numbers as the alternate has components
  program-sound : (n : ℕ) (y : Body) → programmed y ≡ true → program_fault page n y ≡ 0 → (fitting (taken_by (tints_of y)) (within page y) (code_after page n) ≡ true) × (length (flat (code_after page n)) ≤ most_flat)
  unfolding program_fault run_fault code_after
  program-sound n y e h =
      let t = taken_by (tints_of y) in
      let m = within page y in
      let f : run_fault page n t m ≡ 0 = rw e at h in
      let r = passed (filled_run (program_run page n) (run_text page n (program_run page n))) _ 7 (λ z. omega arith) f in
      (code_fits t m (run_text page n (program_run page n)) r.1, code-few (run_text page n (program_run page n)))

  -- 5: each exponent is within the house limit; 6: the alternate is of a kind permitted, and has components
  tinted-sound : (n : ℕ) (y : Body) → Fair page n y → Sound 2 (tinted_of page n y)
  unfolding supported permitted within ink_of device_n_of tinted_of WellMade
  tinted-sound n Free w h = let p = plain-sound page n Free w h in (p.0, omega (arith, p.1))
  tinted-sound n (CalGray g) w h = let p = plain-sound page n (CalGray g) w h in (p.0, omega (arith, p.1))
  tinted-sound n (CalRgb g) w h = let p = plain-sound page n (CalRgb g) w h in (p.0, omega (arith, p.1))
  tinted-sound n (Lab g) w h = let p = plain-sound page n (Lab g) w h in (p.0, omega (arith, p.1))
  tinted-sound n (Indexed base hival) w h = let p = plain-sound page n (Indexed base hival) w h in (p.0, omega (arith, p.1))
  tinted-sound n (Separation p) w h =
      let s = plain_at page p.alternate in
      let i = plain-at p.alternate (alternate-some page p.alternate w.permitted-is) in
      cond_ind (λ (t : Space). WellMade t × (rank_of t < 2)) (ink_is (block_at page n) the_none) (λ _. (tt, omega arith)) (λ _.
      cond_ind (λ (t : Space). WellMade t × (rank_of t < 2)) (ink_is (block_at page n) the_all) (λ _. (tt, omega arith)) (λ _.
      cond_ind (λ (t : Space). WellMade t × (rank_of t < 2)) (eqb p.exponent 0)
      (λ e. let k = program-sound n (Separation p) e w.program-is in ((k.0, k.1, i.1, i.0), omega arith))
      (λ e. ((other-supported p.exponent e w.supported-is, plain-wide page p.alternate, c0-length p s (plain-wide page p.alternate), c1-length p s (plain-wide page p.alternate), i.1, i.0), omega arith))))
  tinted-sound n Palette w h = let p = plain-sound page n Palette w h in (p.0, omega (arith, p.1))
  tinted-sound n Program w h = let p = plain-sound page n Program w h in (p.0, omega (arith, p.1))
  tinted-sound n (DeviceN alternate count) w h =
      let i = plain-at alternate (alternate-some page alternate w.permitted-is) in
      cond_ind (λ (t : Space). WellMade t × (rank_of t < 2)) (all_none (names_at (block_at page n)) count) (λ _. (tt, omega arith))
      (λ _. let k = program-sound n (DeviceN alternate count) refl w.program-is in ((k.0, k.1, i.1, i.0), omega arith))

  tinted-at : (n : ℕ) → Sound 2 (tinted_at page n)
  tinted-at n = sound-at 2 (omega arith) page (tinted_of page n) n (tinted-sound n _ (fair n))

  -- 4: hival 0 to 255; 6: the base is of a kind permitted, and has components
  space-sound : (n : ℕ) (y : Body) → Fair page n y → Sound 3 (space_of page n y)
  unfolding lawful permitted space_of WellMade
  space-sound n Free w h = let p = tinted-sound n Free w h in (p.0, omega (arith, p.1))
  space-sound n (CalGray g) w h = let p = tinted-sound n (CalGray g) w h in (p.0, omega (arith, p.1))
  space-sound n (CalRgb g) w h = let p = tinted-sound n (CalRgb g) w h in (p.0, omega (arith, p.1))
  space-sound n (Lab g) w h = let p = tinted-sound n (Lab g) w h in (p.0, omega (arith, p.1))
  space-sound n (Indexed base hival) w h =
      let i = tinted-at base (base-some page base w.permitted-is) in
      ((leb-true hival 255 w.lawful-is, table-length page n hival (tinted_at page base), i.1, i.0), omega arith)
  space-sound n (Separation p) w h = let q = tinted-sound n (Separation p) w h in (q.0, omega (arith, q.1))
  space-sound n Palette w h = let p = tinted-sound n Palette w h in (p.0, omega (arith, p.1))
  space-sound n Program w h = let p = tinted-sound n Program w h in (p.0, omega (arith, p.1))
  space-sound n (DeviceN alternate count) w h = let q = tinted-sound n (DeviceN alternate count) w h in (q.0, omega (arith, q.1))

-- every number, device codes among them, whose space has components: so all but those that are refused with 8
pub well-made-at : (page : List ℕ) (n : ℕ) → validated page ≡ accepted → 1 ≤ count_of (space_at page n) → WellMade (space_at page n)
well-made-at page n ok h = (sound-at 3 (omega arith) page (space_of page n) n (space-sound page (fair-at page ok) n _ (fair-at page ok n)) h).0
