-- The two sums of a check, by the columns of a block of 16 rows and 32 columns.
use mathlib.Core.Path.{◌≡◌, refl, sym, ap, ◌∙◌, subst}
use mathlib.Core.Logic.{◌≢◌}
use mathlib.Core.List.{List}
use Prim.Native.Nat.{ℕ, ◌+◌, ◌-◌, ◌*◌, ◌/◌, ◌%◌, ◌<◌, ◌≤◌}
use native.Mathlib.Nat.{add-mul, mul-add, mul_assoc, mul_comm, mul-le-mul, le_refl}
use native.Mathlib.Omega.{arith}
use native.Mathlib.Decide.{dec_lt}
use lib.ListN.{length, get_or, set, replicate, length-set, length-replicate}
use lib.Seq.{get_or-set_same, get_or-set_other}
use Rattle.fixed.specs.Bytes.{byte_at}
use Rattle.fixed.specs.Loops.{total}
use Rattle.fixed.proofs.Listed.{zeros-at}
use Rattle.fixed.proofs.Totals.{total-step, total-same, total-zero, total-four, total-plus, total-times, total-columns, total-running}
use Rattle.sums.specs.Columns.{down_to, column_sum, column_running, Down, DownAll, Across}

-- ---- A column, row by row

-- one row more
pub down : (b : List ℕ) (k sum running m x : ℕ) → Down b k sum running m → m < 16 → x ≡ byte_at b (32 * m + k) → x ≤ 255
    → Down b k (sum + x) (running + (sum + x)) (m + 1)
down b k sum running m x a h e l =
    let s = total-step (λ j. byte_at b (32 * j + k)) m sum x a.sum_is e in
    record {
      within = omega arith;
      sum_is = s;
      running-is = total-step (λ j. down_to b k (j + 1)) m running (sum + x) a.running-is s;
      sum-most = omega (arith, a.sum-most);
      running-most = omega (arith, a.sum-most, a.running-most);
    }

-- above the first row there is nothing
pub above : (b : List ℕ) → DownAll b (replicate 32 0) (replicate 32 0) 0
unfolding total
above b = record {
  sums-long = length-replicate {A = ℕ} 32 0;
  runnings-long = length-replicate {A = ℕ} 32 0;
  column = λ k h. record {
    within = omega arith;
    sum_is = zeros-at 32 k;
    running-is = zeros-at 32 k;
    sum-most = omega (arith, zeros-at 32 k);
    running-most = omega (arith, zeros-at 32 k);
  };
}

-- a row in the making: the columns below k have it, the others do not yet
pub record Turned (b sums runnings : List ℕ) (m k : ℕ) : Type 0 where
  pub within : k ≤ 32
  pub sums-long : length sums ≡ 32
  pub runnings-long : length runnings ≡ 32
  pub done : (j : ℕ) → j < k → Down b j (get_or sums j 0) (get_or runnings j 0) (m + 1)
  pub left : (j : ℕ) → k ≤ j → j < 32 → Down b j (get_or sums j 0) (get_or runnings j 0) m

-- one column more
module _ (b sums runnings : List ℕ) (m k x : ℕ) (a : Turned b sums runnings m k) (hm : m < 16) (hk : k < 32) (e : x ≡ byte_at b (32 * m + k)) (l : x ≤ 255) where
  abbrev pub sum_more : ℕ
  sum_more = get_or sums k 0 + x

  abbrev pub running_more : ℕ
  running_more = get_or runnings k 0 + sum_more

  here : Down b k (get_or (set sums k sum_more) k 0) (get_or (set runnings k running_more) k 0) (m + 1)
  here = rw (get_or-set_same sums k sum_more 0 (rw a.sums-long hk), get_or-set_same runnings k running_more 0 (rw a.runnings-long hk))
      (down b k (get_or sums k 0) (get_or runnings k 0) m x (a.left k (le_refl k) hk) hm e l)

  elsewhere : (j n : ℕ) → j ≢ k → Down b j (get_or sums j 0) (get_or runnings j 0) n → Down b j (get_or (set sums k sum_more) j 0) (get_or (set runnings k running_more) j 0) n
  elsewhere j n h d = rw (get_or-set_other sums k j sum_more 0 h, get_or-set_other runnings k j running_more 0 h) d

  up_to : (j : ℕ) → Dec (j < k) → j < k + 1 → Down b j (get_or (set sums k sum_more) j 0) (get_or (set runnings k running_more) j 0) (m + 1)
  up_to j (yes h) _ = elsewhere j (m + 1) (λ q. absurd (omega (arith, q, h))) (a.done j h)
  up_to j (no h) u = let q : j ≡ k = omega arith in rw q here

  pub turned : Turned b (set sums k sum_more) (set runnings k running_more) m (k + 1)
  turned = record {
    within = omega arith;
    sums-long = length-set sums k sum_more ∙ a.sums-long;
    runnings-long = length-set runnings k running_more ∙ a.runnings-long;
    done = λ j h. up_to j (dec_lt j k) h;
    left = λ j h g. elsewhere j m (λ q. absurd (omega (arith, q, h))) (a.left j (omega arith) g);
  }

-- ---- The block, column by column

pub product : (k s : ℕ) → k < 32 → s ≤ 4080 → (k + 4) * s ≤ 146880
product k s h l = mul-le-mul {n₂ = 36} {m₂ = 4080} (omega arith) l

-- one column more
pub across : (b : List ℕ) (sum running over k s t : ℕ) → Across b sum running over k → k < 32 → s ≡ column_sum b k → t ≡ column_running b k
    → s ≤ 4080 → t ≤ 65280 → Across b (sum + s) (running + t) (over + (k + 4) * s) (k + 1)
across b sum running over k s t a h es et ls lt =
    let p = product k s h ls in
    record {
      within = omega arith;
      sum_is = total-step (λ j. column_sum b j) k sum s a.sum_is es;
      running-is = total-step (λ j. column_running b j) k running t a.running-is et;
      over-is = total-step (λ j. (j + 4) * column_sum b j) k over ((k + 4) * s) a.over-is (rw es);
      sum-most = omega (arith, a.sum-most);
      running-most = omega (arith, a.running-most);
      over-most = omega (arith, a.over-most);
    }

-- a sum of 64s and what is left, as often as a place and 4 more
in_parts : (k h l : ℕ) → (k + 4) * (64 * h + l) ≡ 64 * (k * h) + k * l + 4 * (64 * h + l)
in_parts k h l =
    add-mul k 4 (64 * h + l) ∙ ap (λ (x : ℕ). x + 4 * (64 * h + l))
    (mul-add k (64 * h) l ∙ ap (λ (x : ℕ). x + k * l) (sym (mul_assoc k 64 h) ∙ ap (λ (x : ℕ). x * h) (mul_comm k 64) ∙ mul_assoc 64 k h))

-- after k columns, with every sum in 64s and what is left, and every running in 256s
pub record Parted (b : List ℕ) (sh sl rh rl ph pl k : ℕ) : Type 0 where
  pub across : Across b (64 * sh + sl) (256 * rh + rl) (64 * ph + pl + 4 * (64 * sh + sl)) k
  pub sh-most : sh ≤ 63 * k
  pub sl-most : sl ≤ 63 * k
  pub rh-most : rh ≤ 255 * k
  pub rl-most : rl ≤ 255 * k
  pub ph-most : ph ≤ 1953 * k
  pub pl-most : pl ≤ 1953 * k

-- before the first column there is nothing
pub aside : (b : List ℕ) → Parted b 0 0 0 0 0 0 0
unfolding total
aside b = record {
  across = record { within = omega arith; sum_is = refl; running-is = refl; over-is = refl; sum-most = omega arith; running-most = omega arith; over-most = omega arith };
  sh-most = omega arith;
  sl-most = omega arith;
  rh-most = omega arith;
  rl-most = omega arith;
  ph-most = omega arith;
  pl-most = omega arith;
}

-- the parts of one column: they come to its sum and its running, and none is large
pub record Parts (k s t : ℕ) : Type 0 where
  pub sum_is : 64 * (s / 64) + s % 64 ≡ s
  pub running-is : 256 * (t / 256) + t % 256 ≡ t
  pub high-most : s / 64 ≤ 63
  pub low-most : s % 64 ≤ 63
  pub running-high-most : t / 256 ≤ 255
  pub running-low-most : t % 256 ≤ 255
  pub place-high-most : k * (s / 64) ≤ 1953
  pub place-low-most : k * (s % 64) ≤ 1953

pub parts : (b : List ℕ) (k s t : ℕ) → k < 32 → Down b k s t 16 → Parts k s t
parts b k s t h d =
    let ls : s ≤ 4080 = omega (arith, d.sum-most) in
    let lt : t ≤ 65280 = omega (arith, d.running-most) in
    let high : s / 64 ≤ 63 = omega arith in
    let low : s % 64 ≤ 63 = omega arith in
    record {
      sum_is = omega arith;
      running-is = omega arith;
      high-most = high;
      low-most = low;
      running-high-most = omega arith;
      running-low-most = omega arith;
      place-high-most = mul-le-mul {n₂ = 31} {m₂ = 63} (omega arith) high;
      place-low-most = mul-le-mul {n₂ = 31} {m₂ = 63} (omega arith) low;
    }

-- one column more
pub parted : (b : List ℕ) (sh sl rh rl ph pl k s t : ℕ) → Parted b sh sl rh rl ph pl k → k < 32 → Down b k s t 16
    → Parted b (sh + s / 64) (sl + s % 64) (rh + t / 256) (rl + t % 256) (ph + k * (s / 64)) (pl + k * (s % 64)) (k + 1)
unfolding column_sum column_running
parted b sh sl rh rl ph pl k s t a h d =
    let ls : s ≤ 4080 = omega (arith, d.sum-most) in
    let lt : t ≤ 65280 = omega (arith, d.running-most) in
    let q = parts b k s t h d in
    let next = across b (64 * sh + sl) (256 * rh + rl) (64 * ph + pl + 4 * (64 * sh + sl)) k s t a.across h d.sum_is d.running-is ls lt in
    let weighted : (k + 4) * s ≡ 64 * (k * (s / 64)) + k * (s % 64) + 4 * s =
    subst (λ (x : ℕ). (k + 4) * x ≡ 64 * (k * (s / 64)) + k * (s % 64) + 4 * x) q.sum_is (in_parts k (s / 64) (s % 64)) in
    let e : 64 * sh + sl + s ≡ 64 * (sh + s / 64) + (sl + s % 64) = omega (arith, q.sum_is) in
    let f : 256 * rh + rl + t ≡ 256 * (rh + t / 256) + (rl + t % 256) = omega (arith, q.running-is) in
    let g : 64 * ph + pl + 4 * (64 * sh + sl) + (k + 4) * s ≡ 64 * (ph + k * (s / 64)) + (pl + k * (s % 64)) + 4 * (64 * (sh + s / 64) + (sl + s % 64)) =
    omega (arith, q.sum_is, weighted) in
    record {
      across = subst (λ (x : ℕ). Across b (64 * (sh + s / 64) + (sl + s % 64)) (256 * (rh + t / 256) + (rl + t % 256)) x (k + 1)) g
          (subst (λ (x : ℕ). Across b (64 * (sh + s / 64) + (sl + s % 64)) x (64 * ph + pl + 4 * (64 * sh + sl) + (k + 4) * s) (k + 1)) f
          (subst (λ (x : ℕ). Across b x (256 * rh + rl + t) (64 * ph + pl + 4 * (64 * sh + sl) + (k + 4) * s) (k + 1)) e next));
      sh-most = omega (arith, a.sh-most, q.high-most);
      sl-most = omega (arith, a.sl-most, q.low-most);
      rh-most = omega (arith, a.rh-most, q.running-high-most);
      rl-most = omega (arith, a.rl-most, q.running-low-most);
      ph-most = omega (arith, a.ph-most, q.place-high-most);
      pl-most = omega (arith, a.pl-most, q.place-low-most);
    }

-- ---- What the columns come to

module _ (b : List ℕ) where
  -- the four bytes of the check, in the terms of a sum over all 512
  last : (f : ℕ → ℕ) → total f 512 ≡ total f 508 + (f 508 + f 509 + f 510 + f 511)
  last f = total-four f 508

  pub sum-columns : total (λ k. column_sum b k) 32 ≡ total (λ i. byte_at b i) 508 + (byte_at b 508 + byte_at b 509 + byte_at b 510 + byte_at b 511)
  unfolding column_sum
  sum-columns = sym (total-columns (λ i. byte_at b i) 16 32) ∙ last (λ i. byte_at b i)

  -- document 01's weight of byte i, and what the weight by columns has too much past byte 508
  abbrev pub weight : ℕ → ℕ
  weight i = (508 - i) * byte_at b i

  abbrev past : ℕ → ℕ
  past i = (i - 508) * byte_at b i

  past-sum : total past 512 ≡ byte_at b 509 + 2 * byte_at b 510 + 3 * byte_at b 511
  past-sum = let z = total-zero past 508 (λ k h. (let e : k - 508 ≡ 0 = omega arith in ap (λ (w : ℕ). w * byte_at b k) e ∙ omega arith)) in last past ∙ omega arith

  -- of byte k of row r
  one-weight : (k r : ℕ) → k < 32 → r < 16 → weight (32 * r + k) + (k + 4) * byte_at b (32 * r + k) ≡ 32 * ((16 - r) * byte_at b (32 * r + k)) + past (32 * r + k)
  one-weight k r hk hr =
      let i = 32 * r + k in
      let e : (508 - i) + (k + 4) ≡ 32 * (16 - r) + (i - 508) = omega arith in
      sym (add-mul (508 - i) (k + 4) (byte_at b i)) ∙ ap (λ (w : ℕ). w * byte_at b i) e ∙ add-mul (32 * (16 - r)) (i - 508) (byte_at b i) ∙ ap (λ (w : ℕ). w + past i) (mul_assoc 32 (16 - r) (byte_at b i))

  -- of column k
  column-weight : (k : ℕ) → k < 32 → total (λ r. weight (32 * r + k)) 16 + (k + 4) * column_sum b k ≡ 32 * column_running b k + total (λ r. past (32 * r + k)) 16
  unfolding column_sum column_running
  column-weight k h =
      let g : ℕ → ℕ = λ r. byte_at b (32 * r + k) in
      let left = total-plus (λ r. weight (32 * r + k)) (λ r. (k + 4) * g r) 16 in
      let times = total-times (k + 4) g 16 in
      let same = total-same (λ r. weight (32 * r + k) + (k + 4) * g r) (λ r. 32 * ((16 - r) * g r) + past (32 * r + k)) 16 (λ r hr. one-weight k r h hr) in
      let right = total-plus (λ r. 32 * ((16 - r) * g r)) (λ r. past (32 * r + k)) 16 in
      let rows = total-times 32 (λ r. (16 - r) * g r) 16 in
      let running = total-running g 16 in
      omega arith

  -- of all columns
  pub weigh-columns : total weight 508 + total (λ k. (k + 4) * column_sum b k) 32 ≡ 32 * total (λ k. column_running b k) 32 + byte_at b 509 + 2 * byte_at b 510 + 3 * byte_at b 511
  weigh-columns =
      let whole = last weight in
      let grid = total-columns weight 16 32 in
      let beyond = total-columns past 16 32 in
      let left = total-plus (λ k. total (λ r. weight (32 * r + k)) 16) (λ k. (k + 4) * column_sum b k) 32 in
      let same = total-same (λ k. total (λ r. weight (32 * r + k)) 16 + (k + 4) * column_sum b k) (λ k. 32 * column_running b k + total (λ r. past (32 * r + k)) 16) 32 column-weight in
      let right = total-plus (λ k. 32 * column_running b k) (λ k. total (λ r. past (32 * r + k)) 16) 32 in
      let times = total-times 32 (λ k. column_running b k) 32 in
      let p = past-sum in
      omega arith

-- after all columns, with the last four bytes p, q, r and s: what is left is document 01's two sums, and neither difference is below 0
pub record Settled (b : List ℕ) (sum running over p q r s : ℕ) : Type 0 where
  pub sum-least : p + q + r + s ≤ sum
  pub plain-is : sum - (p + q + r + s) ≡ total (λ i. byte_at b i) 508
  pub over-least : over ≤ 32 * running + q + 2 * r + 3 * s
  pub weighed-is : 32 * running + q + 2 * r + 3 * s - over ≡ total (λ i. (508 - i) * byte_at b i) 508

pub settles : (b : List ℕ) (sum running over p q r s : ℕ) → Across b sum running over 32
    → p ≡ byte_at b 508 → q ≡ byte_at b 509 → r ≡ byte_at b 510 → s ≡ byte_at b 511 → Settled b sum running over p q r s
settles b sum running over p q r s a ep eq er es =
    let x = a.sum_is in
    let y = a.running-is in
    let z = a.over-is in
    let u = sum-columns b in
    let v = weigh-columns b in
    record { sum-least = omega arith; plain-is = omega arith; over-least = omega arith; weighed-is = omega arith }
