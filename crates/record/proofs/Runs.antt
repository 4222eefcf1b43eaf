-- A run of bytes in a room of zeros.
use mathlib.Core.Path.{◌≡◌, sym, ap, ◌∙◌}
use mathlib.Core.List.{List, ◌++◌, append_assoc, append-nil}
use Prim.Native.Nat.{ℕ, ◌+◌, ◌-◌, ◌≤◌, ◌<◌, min}
use native.Mathlib.Omega.{arith}
use native.Mathlib.Decide.{dec_lt}
use lib.ListN.{length, get_or, take, drop, replicate, replicate-append-replicate, drop_of_length-le, length-drop}
use lib.Seq.{take_all}
use Rattle.std.proofs.lemmas.List.{take_min, drop-replicate}
use Rattle.layout.specs.Field.{padded}
use Rattle.layout.proofs.Held.{get_d-padded}
use Rattle.layout.proofs.Puts.{padded-cut}
use Rattle.record.specs.Reading.{SameBytes}

-- past the end there is nothing, wherever one looks
there : (p : List ℕ) (from start : ℕ) → start ≡ min from (length p) → drop start p ≡ drop from p
there p from start e = by (dec_lt from (length p))
  where
    by : Dec (from < length p) → drop start p ≡ drop from p
    by (yes m) = let q : start ≡ from = omega arith in ap (λ (k : ℕ). drop k p) q
    by (no m) = drop_of_length-le p (omega arith) ∙ sym (drop_of_length-le p (omega arith))

-- what a list has of its bytes from a place on, copied over the front of zeros, is a run and the other zeros
pub room-cut : (p : List ℕ) (from start count size n : ℕ) (d : List ℕ) → d ≡ take (length p - start) (drop start p) → start ≡ min from (length p) → size ≡ min count (length d) → count ≤ n
    → take size d ++ drop size (replicate n 0) ≡ padded count (drop from p) ++ replicate (n - count) 0
room-cut p from start count size n d g e f h =
    let rest : length (drop start p) ≤ length p - start = simp length-drop (omega arith) in
    let same : d ≡ drop from p = g ∙ take_all (length p - start) (drop start p) rest ∙ there p from start e in
    let front : take size d ≡ take count d = ap (λ (k : ℕ). take k d) f ∙ take_min count d in
    let more : n - size ≡ (count - length d) + (n - count) = omega arith in
    let zeros : drop size (replicate {A = ℕ} n 0) ≡ replicate (count - length d) 0 ++ replicate (n - count) 0 = drop-replicate {X = ℕ} size n 0 ∙ ap (λ (k : ℕ). replicate {A = ℕ} k 0) more ∙ sym (replicate-append-replicate (count - length d) (n - count) 0) in
    let run : padded count (drop from p) ≡ take count d ++ replicate (count - length d) 0 = ap (padded count) (sym same) ∙ padded-cut count d in
    rw (front, zeros, run) (sym (append_assoc (take count d) (replicate (count - length d) 0) (replicate (n - count) 0)))

-- the 512 bytes of a block, whether it has them or not
pub block-same : (b : List ℕ) → SameBytes (padded 512 b ++ replicate (512 - 512) 0) b
block-same b k h = ap (λ (l : List ℕ). get_or l k 0) (append-nil (padded 512 b)) ∙ get_d-padded 512 b k h
