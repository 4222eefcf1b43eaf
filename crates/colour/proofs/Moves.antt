-- The flag of an answer: a limit leaves the values past its place, so each component is tested as it was given; and what moved before a space within is carried through it.
use mathlib.Core.Path.{◌≡◌, refl, sym, ap, ◌∙◌}
use mathlib.Core.Bool.{Bool, true, false, ◌||◌, cond, true≢false}
use mathlib.Core.List.{List}
use Prim.Native.Nat.{ℕ, zero, suc, ◌≤◌, ◌<◌}
use native.Mathlib.Omega.{arith}
use lib.IntN.{ℤ, pos}
use lib.Signed.{lt_z}
use lib.ListN.{length}
use lib.Seq.{get_or-set_other}
use Rattle.fixed.specs.Numbers.{limited, outside, index_outside}
use Rattle.fixed.specs.Values.{places, value, started, limited_at, limit_step, row_from, row_step, tinted_by, tint_step}
use Rattle.fixed.specs.declared.values.Colour.{Colour}
use Rattle.fixed.proofs.Diff.{itself, lt_no}
use Rattle.fixed.proofs.Listed.{listed-value}
use Rattle.cie.specs.declared.Closing.{Closing}
use Rattle.cie.specs.declared.Closing.TheVariants.{Nothing, Gray, Rgb, Cmyk, CalGray, CalRgb, Lab, NoMark, EveryInk}
use Rattle.cie.specs.Closings.{closed_by}
use Rattle.stack.specs.Programs.{Code}
use Rattle.stack.specs.Meaning.{ran}
use Rattle.form.specs.Steps.{taken_by, tints_in, tints_outside, results, program_step}
use Rattle.form.specs.declared.Tints.{Tints}
use Rattle.space.specs.Spaces.{Space, none, gray, rgb, cmyk, cal_gray, cal_rgb, lab, no_mark, every_ink, separation, calculated, indexed, count_of, limit_count, low_of, high_of}
use Rattle.space.specs.WellMade.{rank_of, WellMade}
use Rattle.space.proofs.Counts.{taken-high, limits-high}
use Rattle.values.specs.Limits.{limited_to}
use Rattle.colour.specs.Colours.{valued, answered}
use Rattle.colour.specs.Moves.{flag_of, some_outside, onward, FlagMeans}
use Rattle.colour.proofs.Replies.{answered-as}

module _ (s : Space) (c : Colour) where
  -- the values from place m on are as they were
  past : (m k : ℕ) → m ≤ k → value (limited_to s m c).values k ≡ value c.values k
  unfolding limited_to limit_step limited_at
  past zero k h = refl
  past (suc m) k h = get_or-set_other (limited_to s m c).values m k _ (pos 0) (omega arith) ∙ past m k (omega arith)

  flagged : (cs : List ℤ) → ((k : ℕ) → k < places → value c.values k ≡ value cs k) → c.moved ≡ false → (m : ℕ) → m ≤ places → (limited_to s m c).moved ≡ some_outside s cs m
  unfolding limited_to limit_step some_outside
  flagged cs same still zero h = still
  flagged cs same still (suc m) h =
      let before = flagged cs same still m (omega arith) in
      let here = past m m (omega arith) ∙ same m (omega arith) in
      λ i. before i || outside (low_of s m) (high_of s m) (here i)

-- a closing step hands the flag on
handed : (k : Closing) (v : List ℤ) (m : Bool) → (k ≡ Nothing → ⊥) → flag_of (closed_by k v m) ≡ m
unfolding closed_by
handed Nothing v m isnt = absurd (isnt refl)
handed Gray v m isnt = refl
handed Rgb v m isnt = refl
handed Cmyk v m isnt = refl
handed (CalGray k) v m isnt = refl
handed (CalRgb k) v m isnt = refl
handed (Lab k) v m isnt = refl
handed NoMark v m isnt = refl
handed EveryInk v m isnt = refl

-- a plain space: its limits, and a closing step
closes : (s : Space) → rank_of s < 1 → 1 ≤ count_of s → (c : Colour) → flag_of (valued s c) ≡ (limited_to s (limit_count s) c).moved
unfolding valued closed_by
closes none r h c = absurd (omega arith)
closes gray r h c = refl
closes rgb r h c = refl
closes cmyk r h c = refl
closes (cal_gray k) r h c = refl
closes (cal_rgb k) r h c = refl
closes (lab k al ah bl bh) r h c = refl
closes (no_mark i) r h c = refl
closes every_ink r h c = refl
closes (separation e c0 c1 s) r h c = absurd (omega arith)
closes (calculated i k s) r h c = absurd (omega arith)
closes (indexed n t s) r h c = absurd (omega arith)

plain : (s : Space) (cs : List ℤ) → rank_of s < 1 → 1 ≤ count_of s → length cs ≡ count_of s → flag_of (answered s cs) ≡ some_outside s cs (limit_count s)
plain s cs r h e =
    let some : count_of s ≡ 0 → ⊥ = λ z. omega arith in
    ap flag_of (sym (answered-as s cs (count_of s) refl some (started places cs) e refl)) ∙
    (closes s r h (started places cs) ∙
    flagged s (started places cs) cs (λ k lt. listed-value (value cs) places k lt) refl (limit_count s) (limits-high s))

-- ---- a space over another

or_assoc : (a b c : Bool) → ((a || b) || c) ≡ (a || (b || c))
or_assoc true b c = refl
or_assoc false b c = refl

abbrev on : List ℤ → Bool → Colour
on v m = record { values = v; moved = m }

-- limits act on the values whatever has moved, and what moved before stays
limits-same : (s : Space) (k : ℕ) (v : List ℤ) (m : Bool) → (limited_to s k (on v m)).values ≡ (limited_to s k (on v false)).values
unfolding limited_to limit_step
limits-same s zero v m = refl
limits-same s (suc k) v m = ap (limited_at k (low_of s k) (high_of s k)) (limits-same s k v m)

limits-carry : (s : Space) (k : ℕ) (v : List ℤ) (m : Bool) → (limited_to s k (on v m)).moved ≡ (m || (limited_to s k (on v false)).moved)
unfolding limited_to limit_step
limits-carry s zero v m = none m
  where
    none : (m : Bool) → m ≡ (m || false)
    none true = refl
    none false = refl
limits-carry s (suc k) v m =
    (λ i. limits-carry s k v m i || outside (low_of s k) (high_of s k) (value (limits-same s k v m i) k))
    ∙ or_assoc m (limited_to s k (on v false)).moved (outside (low_of s k) (high_of s k) (value (limited_to s k (on v false)).values k))

-- the flag of a colour of which something has moved
carry : (s : Space) → WellMade s → (v : List ℤ) (m : Bool) → flag_of (valued s (on v m)) ≡ (m || flag_of (valued s (on v false)))
unfolding valued closed_by WellMade tint_step row_step program_step
carry none w v m = absurd w
carry gray w v m = limits-carry gray (limit_count gray) v m
carry rgb w v m = limits-carry rgb (limit_count rgb) v m
carry cmyk w v m = limits-carry cmyk (limit_count cmyk) v m
carry (cal_gray k) w v m = limits-carry (cal_gray k) (limit_count (cal_gray k)) v m
carry (cal_rgb k) w v m = limits-carry (cal_rgb k) (limit_count (cal_rgb k)) v m
carry (lab k al ah bl bh) w v m = limits-carry (lab k al ah bl bh) (limit_count (lab k al ah bl bh)) v m
carry (no_mark i) w v m = limits-carry (no_mark i) (limit_count (no_mark i)) v m
carry every_ink w v m = limits-carry every_ink (limit_count every_ink) v m
carry (separation e c₀ c₁ s) w v m =
    let o = outside (pos 0) (pos 1000000) (value v 0) in
    let u = tinted_by e (count_of s) c₀ c₁ v in
    carry s w.5 u (m || o) ∙ or_assoc m o (flag_of (valued s (on u false))) ∙ ap (λ (b : Bool). m || b) (sym (carry s w.5 u o))
carry (calculated i code s) w v m =
    let o = tints_outside (taken_by i) v in
    let u = results (count_of s) (ran code (tints_in (taken_by i) v)) v in
    carry s w.3 u (m || o) ∙ or_assoc m o (flag_of (valued s (on u false))) ∙ ap (λ (b : Bool). m || b) (sym (carry s w.3 u o))
carry (indexed h t s) w v m =
    let o = index_outside (value v 0) h in
    let u = row_from (count_of s) h t v in
    carry s w.3 u (m || o) ∙ or_assoc m o (flag_of (valued s (on u false))) ∙ ap (λ (b : Bool). m || b) (sym (carry s w.3 u o))

-- the first value is the first component
first-value : (cs : List ℤ) → value (started places cs).values 0 ≡ value cs 0
first-value cs = listed-value (value cs) places 0 (omega arith)

row : (h : ℕ) (t : List ℤ) (s : Space) (cs : List ℤ) → WellMade s → length cs ≡ 1
    → flag_of (answered (indexed h t s) cs) ≡ (index_outside (value cs 0) h || flag_of (onward s (row_step (count_of s) h t (started places cs))))
unfolding valued row_step
row h t s cs w l =
    let c = started places cs in
    ap flag_of (sym (answered-as (indexed h t s) cs 1 refl (λ z. omega arith) c l refl))
    ∙ carry s w (row_from (count_of s) h t c.values) (index_outside (value c.values 0) h)
    ∙ ap (λ (x : ℤ). index_outside x h || flag_of (onward s (row_step (count_of s) h t c))) (first-value cs)

tint : (e : ℕ) (c₀ c₁ : List ℤ) (s : Space) (cs : List ℤ) → WellMade s → length cs ≡ 1
    → flag_of (answered (separation e c₀ c₁ s) cs) ≡ (outside (pos 0) (pos 1000000) (value cs 0) || flag_of (onward s (tint_step e (count_of s) c₀ c₁ (started places cs))))
unfolding valued tint_step
tint e c₀ c₁ s cs w l =
    let c = started places cs in
    ap flag_of (sym (answered-as (separation e c₀ c₁ s) cs 1 refl (λ z. omega arith) c l refl))
    ∙ carry s w (tinted_by e (count_of s) c₀ c₁ c.values) (outside (pos 0) (pos 1000000) (value c.values 0))
    ∙ ap (λ (x : ℤ). outside (pos 0) (pos 1000000) x || flag_of (onward s (tint_step e (count_of s) c₀ c₁ c))) (first-value cs)

-- the tints are the first components
tints-given : (t : ℕ) (cs : List ℤ) → t ≤ places → tints_outside t (started places cs).values ≡ tints_outside t cs
unfolding tints_outside
tints-given zero cs h = refl
tints-given (suc t) cs h = λ i. tints-given t cs (omega arith) i || outside (pos 0) (pos 1000000) (listed-value (value cs) places t (omega arith) i)

program : (i : Tints) (code : Code) (s : Space) (cs : List ℤ) → WellMade s → length cs ≡ taken_by i
    → flag_of (answered (calculated i code s) cs) ≡ (tints_outside (taken_by i) cs || flag_of (onward s (program_step (taken_by i) (count_of s) code (started places cs))))
unfolding valued program_step
program i code s cs w l =
    let c = started places cs in
    let high = taken-high i in
    ap flag_of (sym (answered-as (calculated i code s) cs (taken_by i) refl (λ z. omega (arith, high.0)) c l refl))
    ∙ carry s w (results (count_of s) (ran code (tints_in (taken_by i) c.values)) c.values) (tints_outside (taken_by i) c.values)
    ∙ ap (λ (b : Bool). b || flag_of (onward s (program_step (taken_by i) (count_of s) code c))) (tints-given (taken_by i) cs high.1)

-- outside a range and moved by its limit are one
leaves : (lo hi v : ℤ) → outside lo hi v ≡ false → limited lo hi v ≡ v
unfolding outside limited
leaves lo hi v = by_tests (lt_z v lo) (lt_z hi v)
  where
    by_tests : (a b : Bool) → (a || b) ≡ false → cond a lo (cond b hi v) ≡ v
    by_tests true b e = absurd (true≢false e)
    by_tests false true e = absurd (true≢false e)
    by_tests false false e = refl

same-not-less : (z : ℤ) → lt_z z z ≡ false
same-not-less z = lt_no (itself z) (itself z) (omega arith)

within : (lo hi v : ℤ) → limited lo hi v ≡ v → outside lo hi v ≡ false
unfolding outside limited
within lo hi v = by_tests (lt_z v lo) refl (lt_z hi v) refl
  where
    by_tests : (a : Bool) → lt_z v lo ≡ a → (b : Bool) → lt_z hi v ≡ b → cond a lo (cond b hi v) ≡ v → (a || b) ≡ false
    by_tests true p b q e = absurd (true≢false (sym p ∙ (ap (lt_z v) e ∙ same-not-less v)))
    by_tests false p true q e = absurd (true≢false (sym q ∙ (ap (λ (z : ℤ). lt_z z v) e ∙ same-not-less v)))
    by_tests false p false q e = refl

pub flag-means : FlagMeans
flag-means = record { plain = plain; row = row; tint = tint; program = program; leaves = leaves; within = within }
