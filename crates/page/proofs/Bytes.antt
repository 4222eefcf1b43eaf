-- What is read of a block is read of its own 512 bytes.
use mathlib.Core.Path.{◌≡◌, sym}
use mathlib.Core.Bool.{◌&&◌, cond}
use mathlib.Core.List.{List}
use Prim.Native.Nat.{ℕ, ◌<◌}
use lib.Dec.{eqb}
use lib.ListN.{take}
use lib.Seq.{get_or-take}
use Rattle.fixed.specs.Bytes.{block_at, byte_at}
use Rattle.record.specs.Layout.{checked}
use Rattle.record.specs.Reading.{own_at, body_at, names_at}
use Rattle.record.specs.Rules.{well_formed}
use Rattle.record.proofs.Same.{checked-same, own_same, body_same, formed-same, names_same}
use Rattle.page.specs.Validation.{fault_one}

-- the 512 bytes of block i of a page
abbrev pub own_bytes : List ℕ → ℕ → List ℕ
own_bytes page i = take 512 (block_at page i)

module _ (page : List ℕ) (i : ℕ) where
  -- each byte of a block is one of its own, and so are the check, the own number, the form and the body
  pub byte-within : (k : ℕ) → k < 512 → byte_at (block_at page i) k ≡ byte_at (own_bytes page i) k
  byte-within k l = sym (get_or-take 512 (block_at page i) k 0 l)

  pub checked-within : checked (block_at page i) ≡ checked (own_bytes page i)
  checked-within = checked-same (block_at page i) (own_bytes page i) byte-within

  pub own-within : own_at (block_at page i) ≡ own_at (own_bytes page i)
  own-within = own_same (block_at page i) (own_bytes page i) byte-within

  pub formed-within : well_formed (block_at page i) ≡ well_formed (own_bytes page i)
  formed-within = formed-same (block_at page i) (own_bytes page i) byte-within

  pub body-within : body_at (block_at page i) ≡ body_at (own_bytes page i)
  body-within = body_same (block_at page i) (own_bytes page i) byte-within

  pub names-within : names_at (block_at page i) ≡ names_at (own_bytes page i)
  names-within = names_same (block_at page i) (own_bytes page i) byte-within

  -- what the first pass finds in a block is seen in its own bytes
  pub fault-within : fault_one page i ≡ cond (checked (own_bytes page i)) (cond (well_formed (own_bytes page i) && eqb (own_at (own_bytes page i)) i) 0 3) 2
  unfolding fault_one
  fault-within = rw (checked-within, formed-within, own-within)
