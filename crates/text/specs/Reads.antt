-- What reading into a slice says of the reader's bytes, where those are known.
use Rattle.std.specs.Prelude.{ℕ, List, take, Option, Result, MatchResult}
use Rattle.std.specs.Io.KnownBytes.{Consumes}

-- the slice begins with the bytes that were read: n of them at `Ok(n)`, and as many as came before a read failed at `Err`
abbrev pub ReadsInto : {E : Type 0} → Option (List ℕ) → Option (List ℕ) → Result ℕ E → List ℕ → Type 0
ReadsInto old new r out = MatchResult r (λ n. Consumes old new (take n out)) (λ _. (n : ℕ) × Consumes old new (take n out))
