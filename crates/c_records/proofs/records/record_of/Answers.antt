-- Each field as its function has it; the bytes are as many as the room has.
use mathlib.Core.Path.{◌≡◌, sym, ap, ◌∙◌}
use native.Mathlib.Omega.{arith}
use Prim.Native.Nat.{ℕ}
use lib.ListN.{length}
use lib.Seq.{ext_get_or}
use Rattle.layout.specs.Field.{padded}
use Rattle.layout.proofs.Held.{length-padded, get_d-padded}
use Rattle.c_records.specs.Records.{body_of, record_of}
use Rattle.c_records.proofs.records.record_of.Goals as goal

pub returns : goal.returns
unfolding record_of
returns c =
    let s = c.args.s.now in
    let room : length s ≡ 504 = omega arith in
    let bytes : s ≡ padded 504 s = ext_get_or 0 s (padded 504 s) (room ∙ sym (length-padded 504 s)) (λ i p. sym (get_d-padded 504 s i (omega (arith, room)))) in
    λ i. record { own = c.two_of.ensures i; body = (c.body_of.ensures ∙ ap (λ (k : ℕ). body_of k c.args.v.now) c.small_at.ensures) i; bytes = bytes i }
