-- Kind by kind: each field of a body is what stands at its place, and the body that is read is that of the fields.
use mathlib.Core.Path.{◌≡◌, refl, sym, ◌∙◌}
use mathlib.Core.List.{List, ◌∷◌, ◌++◌}
use mathlib.Core.Bool.{true, cond}
use Prim.Native.Nat.{ℕ, zero, suc, ◌<◌, ◌≤◌}
use native.Mathlib.Omega.{arith}
use native.Mathlib.Decide.{dec_lt}
use lib.ListN.{length, get_or, replicate, length-replicate, get_or-replicate}
use lib.Seq.{ext_get_or}
use lib.Dec.{eqb, leb}
use borrow.Author.Tests.{eqb-true}
use Rattle.fixed.specs.Bytes.{byte_at, two_at}
use Rattle.fixed.specs.Loops.{zero_between}
use Rattle.layout.specs.Field.{Field, one, two, sizes, padded}
use Rattle.layout.proofs.Held.{Holds, length-padded, get_d-padded, zero-at}
use Rattle.layout.proofs.Fields.{AllGot}
use Rattle.record.specs.Layout.{body, rest, kind_of, named_to}
use Rattle.record.specs.Reading.{body_by, run_at, bytes_by}
use Rattle.record.specs.Rules.{used}
use Rattle.record.proofs.Shapes.{run-at, run-length, run_past}
use Rattle.record.specs.declared.types.Body.{Body}
use Rattle.record.specs.declared.types.Body.TheVariants.{Free, CalGray, CalRgb, Lab, Indexed, Separation, Palette, Program, DeviceN}

-- ---- a run in its room

run-held : (b : List ℕ) (at n : ℕ) → Holds b at (padded n (run_at b at n))
run-held b at n =
    record {
      each = λ i p.
          let q : i < n = rw (length-padded n (run_at b at n)) at p in
          sym (get_d-padded n (run_at b at n) i q ∙ run-at b at n i q);
    }

run-back : (b s : List ℕ) (n at : ℕ) → n ≤ 504 → length s ≡ 504 → Holds b at (padded n s) → zero_between s n 504 ≡ true → run_at b at n ≡ s
run-back b s n at k room h z =
    ext_get_or 0 (run_at b at n) s (run-length b at n k ∙ sym room) (λ i p. byte i (dec_lt i n) (omega (arith, run-length b at n k)))
  where
    byte : (i : ℕ) → Dec (i < n) → i < 504 → get_or (run_at b at n) i 0 ≡ get_or s i 0
    byte i (yes l) m = run-at b at n i l ∙ h.each i (rw (length-padded n s) l) ∙ get_d-padded n s i l
    byte i (no l) m = run_past b at n i (omega arith) m ∙ sym (zero-at s n 504 i z (omega arith) m)

zeros-whole : (s : List ℕ) → length s ≡ 504 → zero_between s 0 504 ≡ true → replicate 504 0 ≡ s
zeros-whole s room z =
    ext_get_or 0 (replicate 504 0) s (length-replicate {A = ℕ} 504 0 ∙ sym room)
    (λ i p. let m : i < 504 = rw (length-replicate {A = ℕ} 504 0) at p in get_or-replicate 504 i 0 0 m ∙ sym (zero-at s 0 504 i z (omega arith) m))

pub bytes-length : (k : ℕ) (b : List ℕ) → k ≤ 8 → length (bytes_by k b) ≡ 504
unfolding bytes_by
bytes-length zero b p = length-replicate {A = ℕ} 504 0
bytes-length (suc zero) b p = length-replicate {A = ℕ} 504 0
bytes-length (suc (suc zero)) b p = length-replicate {A = ℕ} 504 0
bytes-length (suc (suc (suc zero))) b p = length-replicate {A = ℕ} 504 0
bytes-length (suc (suc (suc (suc zero)))) b p = length-replicate {A = ℕ} 504 0
bytes-length (suc (suc (suc (suc (suc zero))))) b p = run-length b 8 128 (omega arith)
bytes-length (suc (suc (suc (suc (suc (suc zero)))))) b p = run-length b 4 504 (omega arith)
bytes-length (suc (suc (suc (suc (suc (suc (suc zero))))))) b p = run-length b 4 504 (omega arith)
bytes-length (suc (suc (suc (suc (suc (suc (suc (suc zero)))))))) b p = run-length b 8 500 (omega arith)
bytes-length (suc (suc (suc (suc (suc (suc (suc (suc (suc k))))))))) b p = absurd (omega arith)

-- ---- a block that is known, by its kind

-- the fields of the record read of b, were its kind k
abbrev pub fields_by : ℕ → List ℕ → List Field
fields_by k b = one (kind_of (body_by k b)) ∷ one 0 ∷ two (two_at b 2) ∷ (body (body_by k b) (bytes_by k b) ++ rest (body_by k b))

-- each is what stands at its place
pub got-by : (b : List ℕ) (k : ℕ) → k ≤ 8 → byte_at b 0 ≡ k → byte_at b 1 ≡ 0 → zero_between b (named_to (body_by k b)) 508 ≡ true → cond (eqb k 8) (eqb (byte_at b 7) 0) true ≡ true → AllGot b 0 (fields_by k b)
unfolding body_by bytes_by
got-by b zero p e z q x = (e, (z, (refl, (q, tt))))
got-by b (suc zero) p e z q x = (e, (z, (refl, (refl, (refl, (refl, (refl, (refl, (refl, (refl, (q, tt)))))))))))
got-by b (suc (suc zero)) p e z q x = (e, (z, (refl, (refl, (refl, (refl, (refl, (refl, (refl, (refl, (refl, (refl, (refl, (refl, (refl, (refl, (refl, (refl, (refl, (refl, (refl, (q, tt))))))))))))))))))))))
got-by b (suc (suc (suc zero))) p e z q x = (e, (z, (refl, (refl, (refl, (refl, (refl, (refl, (refl, (refl, (refl, (refl, (refl, (q, tt))))))))))))))
got-by b (suc (suc (suc (suc zero)))) p e z q x = (e, (z, (refl, (refl, (refl, (q, tt))))))
got-by b (suc (suc (suc (suc (suc zero))))) p e z q x = (e, (z, (refl, (refl, (refl, (refl, (run-held b 8 128, (refl, (refl, (refl, (refl, (refl, (refl, (refl, (refl, (q, tt))))))))))))))))
got-by b (suc (suc (suc (suc (suc (suc zero)))))) p e z q x = (e, (z, (refl, (run-held b 4 504, (q, tt)))))
got-by b (suc (suc (suc (suc (suc (suc (suc zero))))))) p e z q x = (e, (z, (refl, (run-held b 4 504, (q, tt)))))
got-by b (suc (suc (suc (suc (suc (suc (suc (suc zero)))))))) p e z q x = (e, (z, (refl, (refl, (refl, (eqb-true _ _ x, (run-held b 8 500, (q, tt))))))))
got-by b (suc (suc (suc (suc (suc (suc (suc (suc (suc k))))))))) p e z q x = absurd (omega arith)

-- ---- the record that is read of the fields of a body

pub sizes-of : (y : Body) (s : List ℕ) → sizes (body y s ++ rest y) ≡ 504
sizes-of Free s = refl
sizes-of (CalGray g) s = refl
sizes-of (CalRgb g) s = refl
sizes-of (Lab g) s = refl
sizes-of (Indexed base hival) s = refl
sizes-of (Separation p) s = refl
sizes-of Palette s = refl
sizes-of Program s = refl
sizes-of (DeviceN alternate count) s = refl

pub kind-small : (y : Body) → leb (kind_of y) 8 ≡ true
kind-small Free = refl
kind-small (CalGray g) = refl
kind-small (CalRgb g) = refl
kind-small (Lab g) = refl
kind-small (Indexed base hival) = refl
kind-small (Separation p) = refl
kind-small Palette = refl
kind-small Program = refl
kind-small (DeviceN alternate count) = refl

module _ (b s : List ℕ) where
  pub body_back : (y : Body) → AllGot b 4 (body y s ++ rest y) → body_by (kind_of y) b ≡ y
  unfolding body_by
  body_back Free h = refl
  body_back (CalGray g) h = λ i. CalGray (record { white = record { x = h.0 i; y = h.1.0 i; z = h.1.1.0 i }; black = record { x = h.1.1.1.0 i; y = h.1.1.1.1.0 i; z = h.1.1.1.1.1.0 i }; gamma = h.1.1.1.1.1.1.0 i })
  body_back (CalRgb g) h = λ i. CalRgb (record { white = record { x = h.0 i; y = h.1.0 i; z = h.1.1.0 i }; black = record { x = h.1.1.1.0 i; y = h.1.1.1.1.0 i; z = h.1.1.1.1.1.0 i }; gammas = record { x = h.1.1.1.1.1.1.0 i; y = h.1.1.1.1.1.1.1.0 i; z = h.1.1.1.1.1.1.1.1.0 i }; a = record { x = h.1.1.1.1.1.1.1.1.1.0 i; y = h.1.1.1.1.1.1.1.1.1.1.0 i; z = h.1.1.1.1.1.1.1.1.1.1.1.0 i }; b = record { x = h.1.1.1.1.1.1.1.1.1.1.1.1.0 i; y = h.1.1.1.1.1.1.1.1.1.1.1.1.1.0 i; z = h.1.1.1.1.1.1.1.1.1.1.1.1.1.1.0 i }; c = record { x = h.1.1.1.1.1.1.1.1.1.1.1.1.1.1.1.0 i; y = h.1.1.1.1.1.1.1.1.1.1.1.1.1.1.1.1.0 i; z = h.1.1.1.1.1.1.1.1.1.1.1.1.1.1.1.1.1.0 i } })
  body_back (Lab g) h = λ i. Lab (record { white = record { x = h.0 i; y = h.1.0 i; z = h.1.1.0 i }; black = record { x = h.1.1.1.0 i; y = h.1.1.1.1.0 i; z = h.1.1.1.1.1.0 i }; range = record { amin = h.1.1.1.1.1.1.0 i; amax = h.1.1.1.1.1.1.1.0 i; bmin = h.1.1.1.1.1.1.1.1.0 i; bmax = h.1.1.1.1.1.1.1.1.1.0 i } })
  body_back (Indexed base hival) h = λ i. Indexed (h.0 i) (h.1.0 i)
  body_back (Separation p) h = λ i. Separation (record { alternate = h.0 i; exponent = h.1.0 i; name_len = h.1.1.0 i; c0 = record { a = h.1.1.1.1.0 i; b = h.1.1.1.1.1.0 i; c = h.1.1.1.1.1.1.0 i; d = h.1.1.1.1.1.1.1.0 i }; c1 = record { a = h.1.1.1.1.1.1.1.1.0 i; b = h.1.1.1.1.1.1.1.1.1.0 i; c = h.1.1.1.1.1.1.1.1.1.1.0 i; d = h.1.1.1.1.1.1.1.1.1.1.1.0 i } })
  body_back Palette h = refl
  body_back Program h = refl
  body_back (DeviceN alternate count) h = λ i. DeviceN (h.0 i) (h.1.0 i)

  pub gap_back : (y : Body) → AllGot b 4 (body y s ++ rest y) → zero_between b (named_to y) 508 ≡ true
  gap_back Free h = h.0
  gap_back (CalGray g) h = h.1.1.1.1.1.1.1.0
  gap_back (CalRgb g) h = h.1.1.1.1.1.1.1.1.1.1.1.1.1.1.1.1.1.1.0
  gap_back (Lab g) h = h.1.1.1.1.1.1.1.1.1.1.0
  gap_back (Indexed base hival) h = h.1.1.0
  gap_back (Separation p) h = h.1.1.1.1.1.1.1.1.1.1.1.1.0
  gap_back Palette h = h.1.0
  gap_back Program h = h.1.0
  gap_back (DeviceN alternate count) h = h.1.1.1.1.0

  -- byte 7 of a DeviceN
  pub seven-back : (y : Body) → AllGot b 4 (body y s ++ rest y) → cond (eqb (kind_of y) 8) (eqb (byte_at b 7) 0) true ≡ true
  seven-back Free h = refl
  seven-back (CalGray g) h = refl
  seven-back (CalRgb g) h = refl
  seven-back (Lab g) h = refl
  seven-back (Indexed base hival) h = refl
  seven-back (Separation p) h = refl
  seven-back Palette h = refl
  seven-back Program h = refl
  seven-back (DeviceN alternate count) h = rw h.1.1.0

  pub bytes_back : (y : Body) → length s ≡ 504 → AllGot b 4 (body y s ++ rest y) → zero_between s (used y) 504 ≡ true → bytes_by (kind_of y) b ≡ s
  unfolding bytes_by
  bytes_back Free room h z = zeros-whole s room z
  bytes_back (CalGray g) room h z = zeros-whole s room z
  bytes_back (CalRgb g) room h z = zeros-whole s room z
  bytes_back (Lab g) room h z = zeros-whole s room z
  bytes_back (Indexed base hival) room h z = zeros-whole s room z
  bytes_back (Separation p) room h z = run-back b s 128 8 (omega arith) room h.1.1.1.0 z
  bytes_back Palette room h z = run-back b s 504 4 (omega arith) room h.0 z
  bytes_back Program room h z = run-back b s 504 4 (omega arith) room h.0 z
  bytes_back (DeviceN alternate count) room h z = run-back b s 500 8 (omega arith) room h.1.1.1.0 z
