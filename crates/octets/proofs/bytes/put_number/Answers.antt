-- The bytes of a number's bits, copied in.
use mathlib.Core.Path.{◌≡◌, ap, ◌∙◌}
use lib.ListN.{length}
use lib.Seq.{sets}
use mir.Syntax.{w32}
use mir.ValLaws.{to_z-of_z}
use mathlib.Core.List.{List}
use Prim.Native.Nat.{ℕ, ◌+◌}
use Rattle.fixed.specs.Bytes.{number_bytes, four_bytes}
use Rattle.fixed.proofs.Stores.{copied}
use Rattle.octets.proofs.bytes.put_number.Goals as goal

pub returns : goal.returns
unfolding four_bytes
returns c =
    let e : c.copy_from_slice.new.self ≡ number_bytes c.args.v = c.copy_from_slice.ensures.after ∙ c.to_be_bytes.ensures ∙ ap number_bytes (to_z-of_z w32 _ c.ranges.v) in
    copied _ _ c.args.at (c.args.at + 4) (ap (λ (l : List ℕ). c.args.at + length l) e) c.requires ∙ ap (sets c.args.out.now c.args.at) e
