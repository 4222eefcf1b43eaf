-- The blocks that a closing bracket stores one after the other, and their brackets, are those of the definition.
use mathlib.Core.Path.{◌≡◌, refl, sym, ap, ◌∙◌}
use mathlib.Core.List.{List, ◌++◌, append_assoc, append-nil}
use mathlib.Core.Logic.{⊎_elim}
use Prim.Native.Nat.{ℕ, zero, suc, ◌+◌, ◌-◌, ◌*◌, ◌≤◌, ◌<◌, min}
use native.Mathlib.Omega.{arith}
use borrow.Rule.Slice.PartMut.{put_mid, Post-is}
use lib.ListN.{length, take, drop, drop_of_length-le, length-drop, replicate, length-append, length-replicate, take-append-drop}
use lib.Seq.{sets, sets-eq, take_at, drop_at, drop-drop, length-take-le, take_all}
use Rattle.reader.proofs.Rooms.{split}
use Rattle.layout.specs.Field.{written}
use Rattle.layout.proofs.Fields.{written-length}
use Rattle.record.specs.declared.types.Record.{Record}
use Rattle.record.specs.Layout.{head_of, check, block_of}
use Rattle.block.proofs.Blocks.{head-length}
use Rattle.lexer.specs.Scans.{Word}
use Rattle.reader.specs.Spaces.{Parser, Made, palette_of, run_of, run_blocks, record_of, start_of, made_with}
use Rattle.reader.specs.Kept.{made_at}

-- a block in its place
pub part-put : (a : ℕ) (d : List ℕ) {w b : List ℕ} → w ≡ b → put_mid a (a + 512 - a) d w ≡ take a d ++ (b ++ drop (a + 512) d)
part-put a d e = λ i. take a d ++ (e i ++ Post-is a (a + 512) d (omega arith) i)

-- ---- a palette's run

pub block-length : (r : Record) → length (block_of r) ≡ 512
unfolding block_of
block-length r =
    length-append (head_of r) (written (check (head_of r))) ∙ (λ i. head-length r i + written-length (check (head_of r)) i)

pub length_run : (k own : ℕ) (w : List ℕ) → length (run_of own k w) ≡ 512 * k
unfolding run_of
length_run zero own w = refl
length_run (suc k) own w =
    let e : 512 + 512 * k ≡ 512 * suc k = omega arith in
    length-append (block_of (palette_of own w)) (run_of (own + 1) k (drop 504 w))
    ∙ (λ i. block-length (palette_of own w) i + length_run k (own + 1) (drop 504 w) i) ∙ e

pub run_more : (k own : ℕ) (w : List ℕ) → run_of own (suc k) w ≡ run_of own k w ++ block_of (palette_of (own + k) (drop (504 * k) w))
unfolding run_of
run_more zero own w = let e : own + 0 ≡ own = omega arith in λ i. (append-nil (block_of (palette_of own w)) ∙ ap (λ (n : ℕ). block_of (palette_of n w)) (sym e)) i
run_more (suc k) own w =
    let e : own + 1 + k ≡ own + suc k = omega arith in
    let f : 504 + 504 * k ≡ 504 * suc k = omega arith in
    ap (λ (t : List ℕ). block_of (palette_of own w) ++ t)
    (run_more k (own + 1) (drop 504 w)
    ∙ (λ i. run_of (own + 1) k (drop 504 w) ++ block_of (palette_of (e i) ((drop-drop (504 * k) 504 w ∙ ap (λ (n : ℕ). drop n w) f) i))))
    ∙ sym (append_assoc (block_of (palette_of own w)) (run_of (own + 1) k (drop 504 w)) (block_of (palette_of (own + suc k) (drop (504 * suc k) w))))

-- one block more after others: d with w from byte a on, and then with v after that
pub after-part : (d w v : List ℕ) (a n m : ℕ) {x y : List ℕ} → a ≤ length d → length w ≡ n → x ≡ take a d ++ (w ++ drop (a + n) d)
    → y ≡ take (a + n) x ++ (v ++ drop (a + n + m) x) → y ≡ take a d ++ ((w ++ v) ++ drop (a + n + m) d)
after-part d w v a n m {x} {y} h l e f =
    let la : length (take a d) ≡ a = length-take-le a d h in
    let lw : length (take a d ++ w) ≡ a + n = length-append (take a d) w ∙ (λ i. la i + l i) in
    let ex : x ≡ (take a d ++ w) ++ drop (a + n) d = e ∙ sym (append_assoc (take a d) w (drop (a + n) d)) in
    let tx : take (a + n) x ≡ take a d ++ w = ap (take (a + n)) ex ∙ take_at (take a d ++ w) (drop (a + n) d) (a + n) lw in
    let dx : drop (a + n) x ≡ drop (a + n) d = ap (drop (a + n)) ex ∙ drop_at (take a d ++ w) (drop (a + n) d) (a + n) lw in
    let dy : drop (a + n + m) x ≡ drop (a + n + m) d = sym (drop-drop m (a + n) x) ∙ ap (drop m) dx ∙ drop-drop m (a + n) d in
    f ∙ (λ i. tx i ++ (v ++ dy i)) ∙ append_assoc (take a d) w (v ++ drop (a + n + m) d)
    ∙ ap (λ (t : List ℕ). take a d ++ t) (sym (append_assoc w v (drop (a + n + m) d)))

-- what is left of a list from the n-th on, of which there may be none
pub drop_least : (p : List ℕ) (n k : ℕ) → k ≡ min (length p) n → take (length p - k) (drop k p) ≡ drop n p
drop_least p n k e =
    take_all (length p - k) (drop k p) (omega (arith, length-drop k p))
    ∙ ⊎_elim (λ (h : n < length p). ap (λ (m : ℕ). drop m p) (let f : k ≡ n = omega arith in f))
    (λ (h : length p ≤ n). drop_of_length-le p {i = k} (omega arith) ∙ sym (drop_of_length-le p {i = n} h))
    (split n (length p))

-- a turn of the palette's loop, and its start
pub run-turn : (d w : List ℕ) (own j : ℕ) {x y : List ℕ} {r : Record} → 512 * own ≤ length d
    → x ≡ take (512 * own) d ++ (run_of own j w ++ drop (512 * (own + j)) d) → r ≡ palette_of (own + j) (drop (504 * j) w)
    → y ≡ take (512 * (own + j)) x ++ (block_of r ++ drop (512 * (own + j) + 512) x)
    → y ≡ take (512 * own) d ++ (run_of own (j + 1) w ++ drop (512 * (own + (j + 1))) d)
run-turn d w own j {x} {y} {r} h e q f =
    let p : 512 * (own + j) ≡ 512 * own + 512 * j = omega arith in
    let s : 512 * own + 512 * j + 512 ≡ 512 * (own + (j + 1)) = omega arith in
    let z : j + 1 ≡ suc j = omega arith in
    after-part d (run_of own j w) (block_of r) (512 * own) (512 * j) 512 h (length_run j own w) (rw p at e) (rw p at f)
    ∙ (λ i. take (512 * own) d ++ ((run_of own j w ++ block_of (q i)) ++ drop (s i) d))
    ∙ ap (λ (t : List ℕ). take (512 * own) d ++ (t ++ drop (512 * (own + (j + 1))) d)) (sym (run_more j own w) ∙ ap (λ (n : ℕ). run_of own n w) (sym z))

pub run-start : (d w : List ℕ) (own : ℕ) → d ≡ take (512 * own) d ++ (run_of own 0 w ++ drop (512 * (own + 0)) d)
unfolding run_of
run-start d w own = let z : own + 0 ≡ own = omega arith in rw z (sym (take-append-drop (512 * own) d))

-- ---- what was made by then, and what is added

-- the brackets
opens-made : (d : List ℕ) (next k at : ℕ) {y : List ℕ} → next + k ≤ length d → y ≡ sets d next (replicate k at) → take (next + k) y ≡ take next d ++ replicate k at
opens-made d next k at h e =
    let lr : length (replicate k at) ≡ k = length-replicate {A = ℕ} k at in
    let lt : length (take next d) ≡ next = length-take-le next d (omega arith) in
    let o : next + length (replicate k at) ≤ length d = omega arith in
    let l : length (take next d ++ replicate k at) ≡ next + k = length-append (take next d) (replicate k at) ∙ (λ i. lt i + lr i) in
    ap (take (next + k)) (e ∙ sets-eq (replicate k at) d next o) ∙ take_at (take next d ++ replicate k at) (drop (next + length (replicate k at)) d) (next + k) l

-- the blocks: one, and then a run
page-made : (d w : List ℕ) (next k : ℕ) (r : Record) {x y : List ℕ} → 512 * next ≤ length d → x ≡ take (512 * next) d ++ (block_of r ++ drop (512 * next + 512) d)
    → y ≡ take (512 * (next + 1)) x ++ (run_of (next + 1) k w ++ drop (512 * (next + 1 + k)) x)
    → take (512 * (next + (1 + k))) y ≡ take (512 * next) d ++ (block_of r ++ run_of (next + 1) k w)
page-made d w next k r {x} {y} h e f =
    let a : 512 * (next + 1) ≡ 512 * next + 512 = omega arith in
    let b : 512 * (next + 1 + k) ≡ 512 * next + 512 + 512 * k = omega arith in
    let g : y ≡ take (512 * next + 512) x ++ (run_of (next + 1) k w ++ drop (512 * next + 512 + 512 * k) x) = rw (a, b) at f in
    let s = block_of r ++ run_of (next + 1) k w in
    let z : y ≡ take (512 * next) d ++ (s ++ drop (512 * next + 512 + 512 * k) d) = after-part d (block_of r) (run_of (next + 1) k w) (512 * next) 512 (512 * k) h (block-length r) e g in
    let lt : length (take (512 * next) d) ≡ 512 * next = length-take-le (512 * next) d h in
    let ls : length s ≡ 512 + 512 * k = length-append (block_of r) (run_of (next + 1) k w) ∙ (λ i. block-length r i + length_run k (next + 1) w i) in
    let m : 512 * next + (512 + 512 * k) ≡ 512 * (next + (1 + k)) = omega arith in
    let l : length (take (512 * next) d ++ s) ≡ 512 * (next + (1 + k)) = length-append (take (512 * next) d) s ∙ (λ i. lt i + ls i) ∙ m in
    ap (take (512 * (next + (1 + k)))) (z ∙ sym (append_assoc (take (512 * next) d) s (drop (512 * next + 512 + 512 * k) d)))
    ∙ take_at (take (512 * next) d ++ s) (drop (512 * next + 512 + 512 * k) d) (512 * (next + (1 + k))) l

-- all of it
pub made : (s : Parser) (v : Word) (opens d w : List ℕ) (next k at : ℕ) (r : Record) {x y z : List ℕ}
    → s.made ≡ made_at next opens d → v.bytes ≡ w → k ≡ run_blocks s → r ≡ record_of s → at ≡ start_of s.frames
    → next + (1 + k) ≤ length opens → 512 * next ≤ length d
    → x ≡ take (512 * next) d ++ (block_of r ++ drop (512 * next + 512) d)
    → y ≡ take (512 * (next + 1)) x ++ (run_of (next + 1) k w ++ drop (512 * (next + 1 + k)) x)
    → z ≡ sets opens next (replicate (1 + k) at)
    → made_at (next + (1 + k)) z y ≡ made_with s v
unfolding made_with
made s word opens d w next k at r m b q e t ho hd f g o =
    let n : s.made.next ≡ next = ap (λ (v : Made). v.next) m in
    let p : s.made.page ≡ take (512 * next) d = ap (λ (v : Made). v.page) m in
    let v : s.made.opens ≡ take next opens = ap (λ (v : Made). v.opens) m in
    λ i. record {
      next = sym n i + (1 + q i);
      page = (page-made d w next k r hd f g ∙ (λ j. sym p j ++ (block_of (e j) ++ run_of (sym n j + 1) (q j) (sym b j)))) i;
      opens = (opens-made opens next (1 + k) at ho o ∙ (λ j. sym v j ++ replicate (1 + q j) (t j))) i;
    }
